-- What the search by halving finds among blocks that rise, and what an edit there makes of them.
use Rattle.std.proofs.Common.{◌≡◌, ◌≢◌, ℕ, zero, suc, ◌<◌, ◌≤◌, inl, inr, Bool, true, false, not, nat_lt, eqb, List, [], ◌∷◌, ◌++◌, length, get_or, take, drop, filter, refl, sym, ◌∙◌, ap, ap₂, arith}
use Rattle.std.specs.List.{insert, remove}
use Rattle.std.specs.Prelude.{Result, Ok, Err, MatchResult}
use Rattle.std.specs.List.Sorted.{IsBinarySearchResult}
use Rattle.std.specs.Ordering.{nat_cmp}
use Rattle.std.proofs.lemmas.List.Sorted.{searched}
use Rattle.std.specs.List.Sorted.{IsStrictlyIncreasing}
use Rattle.std.proofs.lemmas.Bool.{cases_eq, cases_lt, lt-ltb, le-ltb, ne_eqb, eq-eqb}
use Rattle.std.proofs.lemmas.List.Kept.{AllPairs-from_increasing}
use Rattle.model_scrub.specs.Scrubs.{with_found, without_block}
use Rattle.ram_scrub.specs.Search.{IsFoundAt, IsGapAt}

-- what passes is the first i
filter_header : (p : ℕ → Bool) (xs : List ℕ) (i : ℕ) → ((k : ℕ) → k < i → k < length xs → p (get_or xs k 0) ≡ true) → ((k : ℕ) → i ≤ k → k < length xs → p (get_or xs k 0) ≡ false) → filter p xs ≡ take i xs
filter_header p [] zero passes fails = refl
filter_header p [] (suc i) passes fails = refl
filter_header p (x ∷ xs) zero passes fails =
    let first : p x ≡ false = fails 0 (omega arith) (omega arith) in
    rw first (filter_header p xs zero (λ k below. absurd (omega arith)) (λ k from below. fails (suc k) (omega arith) (omega arith)))
filter_header p (x ∷ xs) (suc i) passes fails =
    let first : p x ≡ true = passes 0 (omega arith) (omega arith) in
    rw first (ap (λ (l : List ℕ). x ∷ l) (filter_header p xs i (λ k low below. passes (suc k) (omega arith) (omega arith)) (λ k from below. fails (suc k) (omega arith) (omega arith))))

-- what passes is what lies from i on
filter_back : (p : ℕ → Bool) (xs : List ℕ) (i : ℕ) → ((k : ℕ) → k < i → k < length xs → p (get_or xs k 0) ≡ false) → ((k : ℕ) → i ≤ k → k < length xs → p (get_or xs k 0) ≡ true) → filter p xs ≡ drop i xs
filter_back p [] zero fails passes = refl
filter_back p [] (suc i) fails passes = refl
filter_back p (x ∷ xs) zero fails passes =
    let first : p x ≡ true = passes 0 (omega arith) (omega arith) in
    rw first (ap (λ (l : List ℕ). x ∷ l) (filter_back p xs zero (λ k below. absurd (omega arith)) (λ k from below. passes (suc k) (omega arith) (omega arith))))
filter_back p (x ∷ xs) (suc i) fails passes =
    let first : p x ≡ false = fails 0 (omega arith) (omega arith) in
    rw first (filter_back p xs i (λ k low below. fails (suc k) (omega arith) (omega arith)) (λ k from below. passes (suc k) (omega arith) (omega arith)))

-- what passes is all but one
filter_but : (p : ℕ → Bool) (xs : List ℕ) (i : ℕ) → i < length xs → p (get_or xs i 0) ≡ false → ((k : ℕ) → k ≢ i → k < length xs → p (get_or xs k 0) ≡ true) → filter p xs ≡ take i xs ++ drop (suc i) xs
filter_but p [] i inside fails passes = absurd (omega (arith, inside))
filter_but p (x ∷ xs) zero inside fails passes = rw fails (filter_back p xs zero (λ k below. absurd (omega arith)) (λ k from below. passes (suc k) (omega arith) (omega arith)) ∙ drop_none xs)
  where
    drop_none : (ys : List ℕ) → drop 0 ys ≡ ys
    drop_none [] = refl
    drop_none (y ∷ ys) = refl
filter_but p (x ∷ xs) (suc i) inside fails passes =
    let first : p x ≡ true = passes 0 (omega arith) (omega arith) in
    rw first (ap (λ (l : List ℕ). x ∷ l) (filter_but p xs i (omega (arith, inside)) fails (λ k ne below. passes (suc k) (omega (arith, ne)) (omega arith))))

-- what passes is all
filter_all : (p : ℕ → Bool) (xs : List ℕ) → ((k : ℕ) → k < length xs → p (get_or xs k 0) ≡ true) → filter p xs ≡ xs
filter_all p [] passes = refl
filter_all p (x ∷ xs) passes =
    let first : p x ≡ true = passes 0 (omega arith) in
    rw first (ap (λ (l : List ℕ). x ∷ l) (filter_all p xs (λ k below. passes (suc k) (omega arith))))

-- rising blocks, by their indexes
pub rising : (found : List ℕ) (j k : ℕ) → IsStrictlyIncreasing found → j < k → k < length found → get_or found j 0 < get_or found k 0
rising found j k rise low below = AllPairs-from_increasing found rise j k 0 low below

pub never_falls : (found : List ℕ) → IsStrictlyIncreasing found → (i j : ℕ) → i ≤ j → j < length found → get_or found i 0 ≤ get_or found j 0
never_falls found rise i j low below = elim (cases_eq i j) [
  | inl same ↦ (let h : get_or found i 0 ≡ get_or found j 0 = ap (λ (k : ℕ). get_or found k 0) same in omega (arith, h))
  | inr other ↦ (let h = rising found i j rise (omega (arith, low, other)) below in omega (arith, h))
]

module _ (found : List ℕ) (block index : ℕ) (rise : IsStrictlyIncreasing found) where
  pub kept_at_index : IsFoundAt found block index → take index found ≡ filter (λ j. nat_lt j block) found
  kept_at_index at = sym (filter_header (λ j. nat_lt j block) found index
      (λ k low below. lt-ltb (get_or found k 0) block (let h = rising found k index rise low at.inside in let e = at.here in omega (arith, h, e)))
      (λ k from below. le-ltb (get_or found k 0) block (let h = never_falls found rise index k from below in let e = at.here in omega (arith, h, e))))

  pub kept_at_gap : IsGapAt found block index → take index found ≡ filter (λ j. nat_lt j block) found
  kept_at_gap at = sym (filter_header (λ j. nat_lt j block) found index
      (λ k low below. lt-ltb (get_or found k 0) block (at.lower k low))
      (λ k from below. le-ltb (get_or found k 0) block (let h = at.higher k from below in omega (arith, h))))

  higher_at_gap : IsGapAt found block index → drop index found ≡ filter (λ j. nat_lt block j) found
  higher_at_gap at = sym (filter_back (λ j. nat_lt block j) found index
      (λ k low below. le-ltb block (get_or found k 0) (let h = at.lower k low in omega (arith, h)))
      (λ k from below. lt-ltb block (get_or found k 0) (at.higher k from below)))

  higher_at_index : IsFoundAt found block index → drop (suc index) found ≡ filter (λ j. nat_lt block j) found
  higher_at_index at = sym (filter_back (λ j. nat_lt block j) found (suc index)
      (λ k low below. le-ltb block (get_or found k 0) (let h = never_falls found rise k index (omega (arith, low)) at.inside in let e = at.here in omega (arith, h, e)))
      (λ k from below. lt-ltb block (get_or found k 0) (let h = rising found index k rise (omega (arith, from)) below in let e = at.here in omega (arith, h, e))))

  pub put_at_gap : IsGapAt found block index → insert found index block ≡ with_found block found
  put_at_gap at = ap₂ (λ (u v : List ℕ). u ++ block ∷ v) (kept_at_gap at) (higher_at_gap at)

  split_at : (xs : List ℕ) (k : ℕ) → k < length xs → xs ≡ take k xs ++ get_or xs k 0 ∷ drop (suc k) xs
  split_at [] k inside = absurd (omega (arith, inside))
  split_at (x ∷ xs) zero inside = ap (λ (l : List ℕ). x ∷ l) (same xs)
    where
      same : (ys : List ℕ) → ys ≡ drop 0 ys
      same [] = refl
      same (y ∷ ys) = refl
  split_at (x ∷ xs) (suc k) inside = ap (λ (l : List ℕ). x ∷ l) (split_at xs k (omega (arith, inside)))

  pub there_at_index : IsFoundAt found block index → found ≡ with_found block found
  there_at_index at =
      split_at found index at.inside
      ∙ ap (λ (b : ℕ). take index found ++ b ∷ drop (suc index) found) at.here
      ∙ ap₂ (λ (u v : List ℕ). u ++ block ∷ v) (kept_at_index at) (higher_at_index at)

  pub out_at_index : IsFoundAt found block index → remove found index ≡ without_block block found
  out_at_index at = sym (filter_but (λ j. not (eqb j block)) found index at.inside
      (ap not (eq-eqb (get_or found index 0) block at.here))
      (λ k ne below. ap not (ne_eqb (get_or found k 0) block (λ same. apart k ne below same))))
    where
      apart : (k : ℕ) → k ≢ index → k < length found → get_or found k 0 ≡ block → ⊥
      apart k ne below same = elim (cases_lt k index) [
        | inl low ↦ (let h = rising found k index rise low at.inside in let e = at.here in omega (arith, h, e, same))
        | inr from ↦ (let h = rising found index k rise (omega (arith, from, ne)) below in let e = at.here in omega (arith, h, e, same))
      ]

  pub out_at_gap : IsGapAt found block index → found ≡ without_block block found
  out_at_gap at = sym (filter_all (λ j. not (eqb j block)) found
      (λ k below. ap not (ne_eqb (get_or found k 0) block (λ same. elim (cases_lt k index) [
        | inl low ↦ (let h = at.lower k low in omega (arith, h, same))
        | inr from ↦ (let h = at.higher k from below in omega (arith, h, same))
      ]))))

-- what the search by halving finds
index_from : (found : List ℕ) (block : ℕ) (r : Result ℕ ℕ)
    → MatchResult r (λ i. (i < length found) × (get_or found i 0 ≡ block))
    (λ i. (i ≤ length found) × ((k : ℕ) → k < i → get_or found k 0 < block) × ((k : ℕ) → i ≤ k → k < length found → block < get_or found k 0))
    → MatchResult r (IsFoundAt found block) (IsGapAt found block)
index_from found block (Ok i) h = record { inside = h.0; here = h.1 }
index_from found block (Err i) h = record { within = h.0; lower = h.1; higher = h.2 }

pub found_index : (found : List ℕ) (block : ℕ) (r : Result ℕ ℕ) → IsStrictlyIncreasing found → IsBinarySearchResult (λ y. nat_cmp y block) found r
    → MatchResult r (IsFoundAt found block) (IsGapAt found block)
found_index found block r rise position = index_from found block r (searched found block r position (never_falls found rise))
