-- That there is room for one more block.
use Rattle.std.proofs.Common.{◌≡◌, ℕ, zero, suc, ◌+◌, ◌<◌, ◌≤◌, inl, inr, List, length, get_or, refl, arith}
use Rattle.std.specs.List.{All}
use Rattle.std.specs.List.Sorted.{IsStrictlyIncreasing}
use Rattle.std.proofs.lemmas.Bool.{cases_lt}
use Rattle.ram_scrub.specs.Search.{IsGapAt}

module _ (found : List ℕ) (rise : IsStrictlyIncreasing found) where
  -- a block is no lower than its index
  no_lower : (k : ℕ) → k < length found → k ≤ get_or found k 0
  no_lower zero within = omega arith
  no_lower (suc k) within =
      let step : suc k ≡ k + 1 = omega arith in
      rw step (let h = rise k (omega (arith, within)) in let before = no_lower k (omega (arith, within)) in omega (arith, h, before))

  module _ (block index most : ℕ) (low : All (λ j. j < most) found) (inside : block < most) (gap : IsGapAt found block index) where
    -- behind the gap it is higher
    higher : (k : ℕ) → index ≤ k → k < length found → k < get_or found k 0
    higher zero from within = let h = gap.higher zero from within in omega (arith, h)
    higher (suc k) from within =
        let step : suc k ≡ k + 1 = omega arith in
        let rises : get_or found k 0 < get_or found (suc k) 0 = rw step (rise k (omega (arith, within))) in
        elim (cases_lt k index) [
          | inl before ↦ (let a = no_lower k (omega (arith, within)) in
              let b = gap.lower k before in
              let c = gap.higher (suc k) from within in
              omega (arith, a, b, c))
          | inr behind ↦ (let a = higher k behind (omega (arith, within)) in omega (arith, a, rises))
        ]

    -- so a block that is missing leaves room for itself
    pub one_more : length found < most
    one_more = by_length (length found) refl
      where
        by_length : (n : ℕ) → length found ≡ n → length found < most
        by_length zero is = omega (arith, is, inside)
        by_length (suc k) is =
            let last : get_or found k 0 < most = low k 0 (omega (arith, is)) in
            elim (cases_lt k index) [
              | inl before ↦ (let a = no_lower k (omega (arith, is)) in
                  let b = gap.lower k before in
                  omega (arith, is, a, b, inside))
              | inr behind ↦ (let a = higher k behind (omega (arith, is)) in omega (arith, is, a, last))
            ]
