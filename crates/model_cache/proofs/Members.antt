-- Members of lists.
use Rattle.std.proofs.Common.{◌≡◌, zero, suc, Bool, true, false, List, [], ◌∷◌, ◌⊎◌, inl, inr, refl, sym, ap, ◌∙◌, subst, arith}
use Rattle.std.specs.List.{Contains, filter}
use Rattle.std.proofs.lemmas.Bool.{cond_both}

module _ {X : Type 0} where
  pub Contains-none : (q : X) → Contains [] q → ⊥
  Contains-none q (k, within, is) = omega arith

  pub Contains-first : (x : X) (xs : List X) → Contains (x ∷ xs) x
  Contains-first x xs = (0, omega arith, refl)

  pub Contains-later : (x : X) (xs : List X) (q : X) → Contains xs q → Contains (x ∷ xs) q
  Contains-later x xs q (k, within, is) = (suc k, omega arith, is)

  pub Contains-cases : (x : X) (xs : List X) (q : X) → Contains (x ∷ xs) q → (x ≡ q) ⊎ Contains xs q
  Contains-cases x xs q (zero, within, is) = inl is
  Contains-cases x xs q (suc k, within, is) = inr (k, omega arith, is)

  -- what passes a test stays
  pub Contains-kept : (p : X → Bool) (xs : List X) (q : X) → p q ≡ true → Contains xs q → Contains (filter p xs) q
  Contains-kept p [] q pass has = has
  Contains-kept p (x ∷ xs) q pass has = elim (Contains-cases x xs q has) [
    | inl e ↦ cond_both (p x) (x ∷ filter p xs) (filter p xs) (λ (l : List X). Contains l q)
        (λ t. subst (Contains (x ∷ filter p xs)) e (Contains-first x (filter p xs)))
        (λ f. absurd (both_ways (p x) (ap p e ∙ pass) f))
    | inr more ↦ cond_both (p x) (x ∷ filter p xs) (filter p xs) (λ (l : List X). Contains l q)
        (λ t. Contains-later x (filter p xs) q (Contains-kept p xs q pass more))
        (λ f. Contains-kept p xs q pass more)
  ]
    where
      both_ways : (b : Bool) → b ≡ true → b ≡ false → ⊥
      both_ways b t f = cc

  -- what stayed was there, and passed
  pub Contains-passed : (p : X → Bool) (xs : List X) (q : X) → Contains (filter p xs) q → (p q ≡ true) × Contains xs q
  Contains-passed p [] q has = absurd (Contains-none q has)
  Contains-passed p (x ∷ xs) q has =
      cond_both (p x) (x ∷ filter p xs) (filter p xs) (λ (l : List X). Contains l q → (p q ≡ true) × Contains (x ∷ xs) q)
      (λ t h. elim (Contains-cases x (filter p xs) q h) [
        | inl is ↦ (sym (ap p is) ∙ t, subst (Contains (x ∷ xs)) is (Contains-first x xs))
        | inr more ↦ let r = Contains-passed p xs q more in (r.0, Contains-later x xs q r.1)
      ])
      (λ f h. let r = Contains-passed p xs q h in (r.0, Contains-later x xs q r.1))
      has
