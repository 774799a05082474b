-- What turning the power off leaves of what a drive stood for.
use Rattle.std.proofs.Common.{◌≡◌, true, false, [], ◌∷◌, inl, refl, sym, subst}
use Rattle.model_sectors.specs.Discs.{Standing, On, Off, candidates}
use Rattle.model_drive.specs.Shown.{Shown, IsOn, StandsFor}
use Rattle.model_drive.proofs.Dying.{same_off}
use Rattle.ram_states.specs.Powers.{turned_off}

is_off : (shown : Shown) → ¬ IsOn (turned_off shown)
is_off shown on = let p : false ≡ true = on in cc

pub goes_off : (shown : Shown) → IsOn shown → (new : Shown) → new ≡ turned_off shown → (s : Standing) → StandsFor shown s → StandsFor new (Off (candidates s))
goes_off shown on new is (On disc) stood =
    subst (λ (x : Shown). StandsFor x (Off (disc ∷ []))) (sym is) (same_off shown (turned_off shown) refl refl (is_off shown) (λ block. inl refl) disc stood)
goes_off shown on new is (Off discs) stood = absurd (stood.1 on)
