-- Found blocks in their order: what is put among them, and what is taken out.
use Rattle.std.proofs.Common.{◌≡◌, ◌≢◌, ℕ, zero, suc, ◌<◌, ◌≤◌, ◌⊎◌, inl, inr, Bool, true, false, not, nat_lt, eqb, List, [], ◌∷◌, filter, Contains, refl, sym, ap, subst, arith}
use Rattle.std.specs.List.Sorted.{IsStrictlyIncreasing}
use Rattle.std.proofs.lemmas.Bool.{cases_eq, cases_lt, ltb-true, lt-ltb, eq-eqb, ne_eqb}
use Rattle.std.proofs.lemmas.List.Elements.{Contains-append_cases, Contains-append_left, Contains-append_right}
use Rattle.std.proofs.lemmas.List.Kept.{IsStrictlyIncreasing-filter}
use Rattle.model_pools.proofs.Listed.{Contains-filter, Contains-from_filter}
use Rattle.model_pools.proofs.Zoned.{rises_behind}
use Rattle.model_scrub.specs.Scrubs.{with_found, without_block}

module _ (i : ℕ) (found : List ℕ) where
  abbrev lower : List ℕ
  lower = filter (λ j. nat_lt j i) found

  abbrev higher : List ℕ
  higher = filter (λ j. nat_lt i j) found

  least_first : (j : ℕ) → Contains (i ∷ higher) j → i ≤ j
  least_first j (zero, within, is) = omega (arith, is)
  least_first j (suc k, within, is) =
      let h = ltb-true i j (Contains-from_filter (λ x. nat_lt i x) found j (k, omega (arith, within), is)).0 in omega (arith, h)

  pub rises-with_block : IsStrictlyIncreasing found → IsStrictlyIncreasing (with_found i found)
  rises-with_block rise =
      rises_behind lower (i ∷ higher) (IsStrictlyIncreasing-filter (λ j. nat_lt j i) found rise)
      (rises_behind (i ∷ []) higher (λ k within. absurd (omega (arith, within))) (IsStrictlyIncreasing-filter (λ j. nat_lt i j) found rise) first)
      (λ x y low from. let a = ltb-true x i (Contains-from_filter (λ j. nat_lt j i) found x low).0 in let b = least_first y from in omega (arith, a, b))
    where
      first : (x y : ℕ) → Contains (i ∷ []) x → Contains higher y → x < y
      first x y (zero, within, is) high = let h = ltb-true i y (Contains-from_filter (λ j. nat_lt i j) found y high).0 in omega (arith, is, h)
      first x y (suc k, within, is) high = absurd (omega (arith, within))

  pub in_with_block : (j : ℕ) → Contains (with_found i found) j → (j ≡ i) ⊎ Contains found j
  in_with_block j has = elim (Contains-append_cases lower (i ∷ higher) j has) [
    | inl low ↦ inr (Contains-from_filter (λ x. nat_lt x i) found j low).1
    | inr rest ↦ first_or_later rest
  ]
    where
      first_or_later : Contains (i ∷ higher) j → (j ≡ i) ⊎ Contains found j
      first_or_later (zero, within, is) = inl (sym is)
      first_or_later (suc k, within, is) = inr (Contains-from_filter (λ x. nat_lt i x) found j (k, omega (arith, within), is)).1

  pub with_block_there : Contains (with_found i found) i
  with_block_there = Contains-append_right lower (i ∷ higher) i (0, omega arith, refl)

  pub with_block_keeps : (j : ℕ) → Contains found j → Contains (with_found i found) j
  with_block_keeps j has = elim (cases_eq j i) [
    | inl same ↦ subst (Contains (with_found i found)) (sym same) with_block_there
    | inr apart ↦ elim (cases_lt j i) [
      | inl low ↦ Contains-append_left lower (i ∷ higher) j (Contains-filter (λ x. nat_lt x i) found j (lt-ltb j i low) has)
      | inr high ↦ Contains-append_right lower (i ∷ higher) j
          (Contains-append_right (i ∷ []) higher j (Contains-filter (λ x. nat_lt i x) found j (lt-ltb i j (omega (arith, apart, high))) has))
    ]
  ]

  not_same : (j : ℕ) → not (eqb j i) ≡ true → j ≢ i
  not_same j passes same = by_test (eqb j i) passes (subst (λ x. eqb j x ≡ true) same (same_eqb j))
    where
      same_eqb : (x : ℕ) → eqb x x ≡ true
      same_eqb x = eq-eqb x x refl

      by_test : (t : Bool) → not t ≡ true → t ≡ true → ⊥
      by_test true p q = cc
      by_test false p q = cc

  pub in_without_block : (j : ℕ) → Contains (without_block i found) j → (j ≢ i) × Contains found j
  in_without_block j has = (let h = Contains-from_filter (λ x. not (eqb x i)) found j has in (not_same j h.0, h.1))

  pub without_block_keeps : (j : ℕ) → j ≢ i → Contains found j → Contains (without_block i found) j
  without_block_keeps j ne has = Contains-filter (λ x. not (eqb x i)) found j (ap not (ne_eqb j i ne)) has

pub in_below : (count j : ℕ) (found : List ℕ) → Contains (filter (λ x. nat_lt x count) found) j → (j < count) × Contains found j
in_below count j found has = (let h = Contains-from_filter (λ x. nat_lt x count) found j has in (ltb-true j count h.0, h.1))

pub below_keeps : (count j : ℕ) (found : List ℕ) → j < count → Contains found j → Contains (filter (λ x. nat_lt x count) found) j
below_keeps count j found low has = Contains-filter (λ x. nat_lt x count) found j (lt-ltb j count low) has
