-- The pending block of a number: there is none, or it has these bytes.
use Rattle.std.proofs.Common.{◌≡◌, ℕ, ◌==◌, ◌⊎◌, inl, inr, Bool, true, false, List, [], ◌∷◌, Option, Some, None, sym, ap, ◌∙◌, subst}
use Rattle.std.specs.Option.{option_map}
use Rattle.std.specs.List.{Contains, find}
use Rattle.std.proofs.lemmas.Bool.{cases_Bool, cond-true, cond-false, eqb-true, eq-eqb}
use Rattle.model_buffer.specs.Buffer.{bytes_at}
use Rattle.model_cache.specs.Values.{IsPending}
use Rattle.model_cache.proofs.Members.{Contains-none, Contains-first, Contains-later, Contains-cases}

pub none_at : (p : List (ℕ × List ℕ)) (i : ℕ) → bytes_at i p ≡ None → ¬ IsPending p i
none_at [] i none (bytes, has) = Contains-none (i, bytes) has
none_at (held ∷ p) i none (bytes, has) = elim (cases_Bool (held.0 == i)) [
  | inl same ↦ some_none (sym (ap (option_map (λ held. held.1)) (cond-true (held.0 == i) (Some held) (find (λ held. held.0 == i) p) same)) ∙ none)
  | inr other ↦ elim (Contains-cases held p (i, bytes) has) [
    | inl is ↦ differ (sym other ∙ eq-eqb held.0 i (ap (λ (x : ℕ × List ℕ). x.0) is))
    | inr more ↦ none_at p i (sym (ap (option_map (λ held. held.1)) (cond-false (held.0 == i) (Some held) (find (λ held. held.0 == i) p) other)) ∙ none) (bytes, more)
  ]
]
  where
    some_none : {x : List ℕ} → Some x ≡ None → ⊥
    some_none e = cc

    differ : false ≡ true → ⊥
    differ e = cc

pub some_at : (p : List (ℕ × List ℕ)) (i : ℕ) (bytes : List ℕ) → bytes_at i p ≡ Some bytes → Contains p (i, bytes)
some_at [] i bytes some = absurd (let w = some in cc)
some_at (held ∷ p) i bytes some = elim (cases_Bool (held.0 == i)) [
  | inl same ↦ found (eqb-true held.0 i same) (sym (ap (option_map (λ held. held.1)) (cond-true (held.0 == i) (Some held) (find (λ held. held.0 == i) p) same)) ∙ some)
  | inr other ↦ Contains-later held p (i, bytes)
      (some_at p i bytes (sym (ap (option_map (λ held. held.1)) (cond-false (held.0 == i) (Some held) (find (λ held. held.0 == i) p) other)) ∙ some))
]
  where
    found : held.0 ≡ i → Some held.1 ≡ Some bytes → Contains (held ∷ p) (i, bytes)
    found at is =
        let with : held.1 ≡ bytes = cc in
        subst (λ (l : List ℕ). Contains (held ∷ p) (i, l)) with (subst (λ (n : ℕ). Contains (held ∷ p) (n, held.1)) at (Contains-first held p))
