-- What holds of a table of runs, run by run.
use Rattle.std.proofs.Common.{◌≡◌, ℕ, zero, suc, ◌+◌, ◌-◌, ◌<◌, ◌≤◌, ⊎_elim, List, [], ◌∷◌, ◌++◌, length, get_or, Some, None, refl, sym, ap, ◌∙◌, arith}
use Rattle.std.specs.Prelude.{slice_get}
use Rattle.std.specs.List.{range_with_len, Contains}
use Rattle.std.proofs.lemmas.List.{length-append}
use Rattle.std.proofs.lemmas.List.Elements.{Contains-append_cases}
use Rattle.std.proofs.lemmas.List.FromFn.{length-range_with_len, get_or-range_with_len}
use Rattle.std.proofs.lemmas.Option.{slice_get-get_or}
use Rattle.ram_runs.specs.declared.Run.{Run}
use Rattle.ram_runs.specs.Runs.{blocks_in, AreRunsFrom, end_of}

slice_get-append_left : (xs ys : List ℕ) (k x : ℕ) → slice_get xs k ≡ Some x → slice_get (xs ++ ys) k ≡ Some x
slice_get-append_left [] ys k x h = absurd (let none : None ≡ Some x = h in cc)
slice_get-append_left (y ∷ xs) ys zero x h = h
slice_get-append_left (y ∷ xs) ys (suc k) x h = slice_get-append_left xs ys k x h

slice_get-append_right : (xs ys : List ℕ) (k n : ℕ) → length xs + k ≡ n → slice_get (xs ++ ys) n ≡ slice_get ys k
slice_get-append_right [] ys k n h = let e : n ≡ k = omega (arith, h) in rw e refl
slice_get-append_right (x ∷ xs) ys k zero h = absurd (omega (arith, h))
slice_get-append_right (x ∷ xs) ys k (suc n) h = slice_get-append_right xs ys k n (omega (arith, h))

slice_get-range_with_len : (a n k : ℕ) → k < n → slice_get (range_with_len a n) k ≡ Some (a + k)
slice_get-range_with_len a n k h =
    slice_get-get_or (range_with_len a n) k 0 (omega (arith, h, length-range_with_len a n)) ∙ ap Some (get_or-range_with_len a n k 0 h)

-- a number of a range lies in it
in_range : (a n x : ℕ) → Contains (range_with_len a n) x → (a ≤ x) × (x < a + n)
in_range a n x (k, within, is) =
    let below : k < n = omega (arith, within, length-range_with_len a n) in
    let at : x ≡ a + k = sym is ∙ get_or-range_with_len a n k x below in
    (omega (arith, at), omega (arith, at, below))

module _ (d : Run) where
  -- each run comes from its beginning on
  pub run_later : (b i : ℕ) (runs : List Run) (k : ℕ) → AreRunsFrom b i runs → k < length runs → (b ≤ (get_or runs k d).first) × (i ≤ (get_or runs k d).index)
  run_later b i [] k t below = absurd (omega (arith, below))
  run_later b i (r ∷ rs) zero t below = let first = t.0 in let index = t.1 in (first, omega (arith, index))
  run_later b i (r ∷ rs) (suc k) t below =
      let on = run_later (r.first + r.len + 1) (i + r.len) rs k t.3 (omega (arith, below)) in
      let block = on.0 in
      let place = on.1 in
      let first = t.0 in
      (omega (arith, block, first), omega (arith, place))

  -- a run ends before a later one begins
  pub runs_apart : (b i : ℕ) (runs : List Run) (j k : ℕ) → AreRunsFrom b i runs → j < k → k < length runs
      → ((get_or runs j d).first + (get_or runs j d).len + 1 ≤ (get_or runs k d).first) × ((get_or runs j d).index + (get_or runs j d).len ≤ (get_or runs k d).index)
  runs_apart b i [] j k t low below = absurd (omega (arith, below))
  runs_apart b i (r ∷ rs) j zero t low below = absurd (omega (arith, low))
  runs_apart b i (r ∷ rs) zero (suc k) t low below =
      let on = run_later (r.first + r.len + 1) (i + r.len) rs k t.3 (omega (arith, below)) in
      let index = t.1 in
      let place = on.1 in
      (on.0, omega (arith, place, index))
  runs_apart b i (r ∷ rs) (suc j) (suc k) t low below = runs_apart (r.first + r.len + 1) (i + r.len) rs j k t.3 (omega (arith, low)) (omega (arith, below))

  pub run_some : (b i : ℕ) (runs : List Run) (k : ℕ) → AreRunsFrom b i runs → k < length runs → 1 ≤ (get_or runs k d).len
  run_some b i [] k t below = absurd (omega (arith, below))
  run_some b i (r ∷ rs) zero t below = t.2
  run_some b i (r ∷ rs) (suc k) t below = run_some (r.first + r.len + 1) (i + r.len) rs k t.3 (omega (arith, below))

  -- the next run has the number of the blocks before it
  pub run_next : (b i : ℕ) (runs : List Run) (k : ℕ) → AreRunsFrom b i runs → suc k < length runs → (get_or runs (suc k) d).index ≡ (get_or runs k d).index + (get_or runs k d).len
  run_next b i [] k t below = absurd (omega (arith, below))
  run_next b i (r ∷ []) zero t below = absurd (omega (arith, below))
  run_next b i (r ∷ s ∷ rs) zero t below = let here = t.1 in let there = t.3.1 in omega (arith, here, there)
  run_next b i (r ∷ rs) (suc k) t below = run_next (r.first + r.len + 1) (i + r.len) rs k t.3 (omega (arith, below))

  -- the last run ends with all blocks
  pub run_last : (b i : ℕ) (runs : List Run) (k : ℕ) → AreRunsFrom b i runs → suc k ≡ length runs → (get_or runs k d).index + (get_or runs k d).len ≡ i + length (blocks_in runs)
  run_last b i [] k t all = absurd (omega (arith, all))
  run_last b i (r ∷ []) zero t all =
      let index = t.1 in
      omega (arith, index, length-append (range_with_len r.first r.len) [], length-range_with_len r.first r.len)
  run_last b i (r ∷ s ∷ rs) zero t all = absurd (omega (arith, all))
  run_last b i (r ∷ rs) (suc k) t all =
      let on = run_last (r.first + r.len + 1) (i + r.len) rs k t.3 (omega (arith, all)) in
      omega (arith, on, length-append (range_with_len r.first r.len) (blocks_in rs), length-range_with_len r.first r.len)

  -- a run lies before the end of all
  pub run_ends : (b i : ℕ) (runs : List Run) (k : ℕ) → AreRunsFrom b i runs → k < length runs → (get_or runs k d).first + (get_or runs k d).len + 1 ≤ end_of b runs
  run_ends b i [] k t below = absurd (omega (arith, below))
  run_ends b i (r ∷ rs) zero t below = end_later (r.first + r.len + 1) (i + r.len) rs t.3
    where
      end_later : (b i : ℕ) (runs : List Run) → AreRunsFrom b i runs → b ≤ end_of b runs
      end_later b i [] t = omega arith
      end_later b i (r ∷ rs) t =
          let on = end_later (r.first + r.len + 1) (i + r.len) rs t.3 in
          let first = t.0 in
          omega (arith, on, first)
  run_ends b i (r ∷ rs) (suc k) t below = run_ends (r.first + r.len + 1) (i + r.len) rs k t.3 (omega (arith, below))

  -- places are no greater than blocks, where they are not to begin with
  pub place_below : (b i : ℕ) (runs : List Run) (k : ℕ) → AreRunsFrom b i runs → i ≤ b → k < length runs → (get_or runs k d).index ≤ (get_or runs k d).first
  place_below b i [] k t least below = absurd (omega (arith, below))
  place_below b i (r ∷ rs) zero t least below = let first = t.0 in let index = t.1 in omega (arith, first, index, least)
  place_below b i (r ∷ rs) (suc k) t least below =
      let first = t.0 in
      place_below (r.first + r.len + 1) (i + r.len) rs k t.3 (omega (arith, first, least)) (omega (arith, below))

  -- the blocks of a run stand at its places
  pub at_run : (b i : ℕ) (runs : List Run) (k m j : ℕ) → AreRunsFrom b i runs → k < length runs → j < (get_or runs k d).len → i + m ≡ (get_or runs k d).index + j
      → slice_get (blocks_in runs) m ≡ Some ((get_or runs k d).first + j)
  at_run b i [] k m j t below inside place = absurd (omega (arith, below))
  at_run b i (r ∷ rs) zero m j t below inside place =
      let index = t.1 in
      let same : m ≡ j = omega (arith, index, place) in
      slice_get-append_left (range_with_len r.first r.len) (blocks_in rs) m (r.first + j) (ap (slice_get (range_with_len r.first r.len)) same ∙ slice_get-range_with_len r.first r.len j inside)
  at_run b i (r ∷ rs) (suc k) m j t below inside place =
      let on = run_later (r.first + r.len + 1) (i + r.len) rs k t.3 (omega (arith, below)) in
      let from = on.1 in
      let back : length (range_with_len r.first r.len) + (m - r.len) ≡ m = omega (arith, from, place, length-range_with_len r.first r.len) in
      slice_get-append_right (range_with_len r.first r.len) (blocks_in rs) (m - r.len) m back
      ∙ at_run (r.first + r.len + 1) (i + r.len) rs k (m - r.len) j t.3 (omega (arith, below)) inside (omega (arith, from, place))

  -- a block of runs lies in one of them
  pub in_some : (runs : List Run) (x : ℕ) → Contains (blocks_in runs) x → (k : ℕ) × (k < length runs) × ((get_or runs k d).first ≤ x) × (x < (get_or runs k d).first + (get_or runs k d).len)
  in_some [] x (k, within, is) = absurd (omega (arith, within))
  in_some (r ∷ rs) x has = ⊎_elim
      (λ here. let in_it = in_range r.first r.len x here in (0, omega arith, in_it.0, in_it.1))
      (λ later. let on = in_some rs x later in let below = on.1 in (suc on.0, omega (arith, below), on.2, on.3))
      (Contains-append_cases (range_with_len r.first r.len) (blocks_in rs) x has)
