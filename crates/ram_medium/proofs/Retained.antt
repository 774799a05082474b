-- What `retain` leaves of a list, where its closure changes an element or refuses it.
use Rattle.std.specs.Prelude.{◌≡◌, Bool, true, false, cond, if◌then◌else◌, Option, Some, None, List, [], ◌∷◌}
use Rattle.std.specs.List.{filter_map, cons_option}
use Rattle.std.specs.List.Retain.{RetainsInTurn}
use Rattle.std.proofs.Common.{refl, sym, ap, ◌∙◌, subst}

kept : {X : Type 0} (b : Bool) (y : X) (zs : List X) → cond b (y ∷ zs) zs ≡ cons_option (if b then Some y else None) zs
kept true y zs = refl
kept false y zs = refl

pub filter_map-retain : {S X : Type 0} (R : S → X → Bool → S → X → Type 0) (h : X → Option X) (s : S)
    → ((x : X) (b : Bool) (t : S) (y : X) → R s x b t y → (h x ≡ (if b then Some y else None)) × (t ≡ s)) → (xs ys : List X) → RetainsInTurn R s xs ys → ys ≡ filter_map h xs
filter_map-retain R h s says [] ys run = run
filter_map-retain R h s says (x ∷ xs) ys run =
    let said = says x run.0 run.1 run.2 run.3 in
    run.6 ∙ kept run.0 run.2 run.4 ∙ ap (λ o. cons_option o run.4) (sym said.0)
    ∙ ap (cons_option (h x)) (filter_map-retain R h s says xs run.4 (subst (λ t. RetainsInTurn R t xs run.4) said.1 run.5))
