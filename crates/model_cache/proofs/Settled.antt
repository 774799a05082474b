-- That a block which is not pending needs no older value.
use Rattle.std.specs.Prelude.{◌≡◌, ℕ, ◌==◌, ◌⊎◌, if◌then◌else◌, Bool, true, false, List, [], ◌∷◌}
use Rattle.std.specs.List.{Contains}
use Rattle.std.proofs.lemmas.Bool.{eqb-true, eq-eqb}
use Rattle.std.proofs.Common.{refl, sym, ap, ◌∙◌, inl, inr, subst}
use Rattle.model_sectors.specs.Discs.{block_of}
use Rattle.model_cache.specs.Shown.{CacheShown}
use Rattle.model_cache.specs.Values.{Values, Contents, Has, HasValue, IsPending, IsUnder, waits, settled_but}
use Rattle.model_cache.specs.Falling.{FallsWithin}
use Rattle.model_cache.proofs.Members.{Contains-none, Contains-first, Contains-later, Contains-cases, Contains-kept, Contains-passed}
use Rattle.model_cache.proofs.Falls.{one}

waiting_if : (b : Bool) (pending : List (ℕ × List ℕ)) (held : ℕ × List ℕ) (i : ℕ) → (b ≡ true → held.0 ≡ i) → (waits pending i ≡ true → IsPending pending i)
    → (if b then true else waits pending i) ≡ true → IsPending (held ∷ pending) i
waiting_if true pending held i here later is = (held.1, subst (λ (n : ℕ). Contains {X = ℕ × List ℕ} (held ∷ pending) (n, held.1)) (here refl) (Contains-first {X = ℕ × List ℕ} held pending))
waiting_if false pending held i here later is = let more = later is in (more.0, Contains-later {X = ℕ × List ℕ} held pending (i, more.0) more.1)

pub is_waiting : (pending : List (ℕ × List ℕ)) (i : ℕ) → waits pending i ≡ true → IsPending pending i
is_waiting [] i is = absurd (let h : false ≡ true = is in cc)
is_waiting (held ∷ pending) i is = waiting_if (held.0 == i) pending held i (λ e. eqb-true held.0 i e) (is_waiting pending i) is

if_either : (b w : Bool) → (b ≡ true) ⊎ (w ≡ true) → (if b then true else w) ≡ true
if_either true w either = refl
if_either false w (inl is) = absurd (let h : false ≡ true = is in cc)
if_either false w (inr is) = is

pub waits_there : (pending : List (ℕ × List ℕ)) (i : ℕ) (bytes : List ℕ) → Contains {X = ℕ × List ℕ} pending (i, bytes) → waits pending i ≡ true
waits_there [] i bytes has = absurd (Contains-none {X = ℕ × List ℕ} (i, bytes) has)
waits_there (held ∷ pending) i bytes has = if_either (held.0 == i) (waits pending i) (elim (Contains-cases {X = ℕ × List ℕ} held pending (i, bytes) has) [
  | inl here ↦ inl (eq-eqb held.0 i (ap (λ (h : ℕ × List ℕ). h.0) here))
  | inr later ↦ inr (waits_there pending i bytes later)
])

not_waiting : (pending : List (ℕ × List ℕ)) (i : ℕ) → waits pending i ≡ false → ¬ IsPending pending i
not_waiting pending i is waiting = (let h : true ≡ false = sym (waits_there pending i waiting.0 waiting.1) ∙ is in cc)

module _ (pending : List (ℕ × List ℕ)) (disc : List ℕ) (v : Values) (under : IsUnder pending disc v) where
  value : (i : ℕ) (b : Bool) → waits pending i ≡ b → HasValue (settled_but pending v) i (block_of disc i)
  value i true is = elim (under.taken.each i) [
    | inl last ↦ inl last
    | inr older ↦ inr (Contains-kept {X = ℕ × List ℕ} (λ (held : ℕ × List ℕ). waits pending held.0) v.older (i, block_of disc i) is older)
  ]
  value i false is = inl (sym (under.others i (not_waiting pending i is)))

  pub under_settled : IsUnder pending disc (settled_but pending v)
  under_settled = record {
    taken = record { as_long = under.taken.as_long; each = λ i. value i (waits pending i) refl };
    inside = under.inside;
    last = under.last;
    others = under.others;
  }

-- a block that is not pending has one value
pub settled_alone : (pending : List (ℕ × List ℕ)) (v : Values) (i : ℕ) → ¬ IsPending pending i → FallsWithin (block_of v.disc i ∷ []) i (Has (settled_but pending v))
settled_alone pending v i away = one (Contains (block_of v.disc i ∷ [])) i (settled_but pending v) (λ has bytes value. elim value [
  | inl last ↦ subst (Contains (block_of v.disc i ∷ [])) (sym last) (Contains-first (block_of v.disc i) [])
  | inr older ↦ absurd (away (is_waiting pending i (Contains-passed {X = ℕ × List ℕ} (λ (held : ℕ × List ℕ). waits pending held.0) v.older (i, bytes) older).0))
])

-- so after a refused synchronisation
pub refused_settles : (new : CacheShown) (v : Values) (t : Contents) (i : ℕ) → Has (settled_but new.pending v) ≡ t → ¬ IsPending new.pending i → FallsWithin (block_of v.disc i ∷ []) i t
refused_settles new v t i is away = subst (FallsWithin (block_of v.disc i ∷ []) i) is (settled_alone new.pending v i away)
