-- What a search by halving finds in a table of runs.
use Rattle.std.proofs.Common.{◌≡◌, ◌≢◌, ℕ, suc, ◌+◌, ◌-◌, ◌<◌, ◌≤◌, inl, inr, leb, true, false, List, [], ◌∷◌, length, get_or, map, Some, refl, sym, ap, ◌∙◌, arith}
use Rattle.std.specs.Prelude.{slice_get, slice_index}
use Rattle.std.specs.List.{Contains}
use Rattle.std.specs.List.Sorted.{IsNonDecreasingBy, IsPartitionPoint}
use Rattle.std.proofs.lemmas.Bool.{cases_eq, cases_lt, leb-true, leb-false}
use Rattle.std.proofs.lemmas.List.{get_or-map, length-map}
use Rattle.std.proofs.lemmas.Option.{get_or_from_slice_get}
use Rattle.ram_runs.specs.declared.Run.{Run}
use Rattle.ram_runs.specs.Runs.{blocks_in, IsTable, IsCountUpTo, end_of, firsts, indexes}
use Rattle.ram_runs.proofs.Tables.{runs_apart, run_next, run_last, run_ends, place_below, at_run, in_some}

-- a run in whose place there is none
abbrev pub no_run : Run
no_run = record { first = 0; index = 0; len = 0 }

abbrev index_of : Run → ℕ
index_of run = run.index

abbrev first_of : Run → ℕ
first_of run = run.first

-- both keys rise
pub rising : (runs : List Run) → IsTable runs → IsNonDecreasingBy (λ (run : Run). run.index) runs × IsNonDecreasingBy (λ (run : Run). run.first) runs
rising runs table = (
  λ i j d low below. elim (cases_eq i j) [
    | inl same ↦ (let h : (get_or runs i d).index ≡ (get_or runs j d).index = ap (λ (k : ℕ). (get_or runs k d).index) same in omega (arith, h))
    | inr other ↦ (let h = (runs_apart d 0 0 runs i j table (omega (arith, low, other)) below).1 in omega (arith, h))
  ],
  λ i j d low below. elim (cases_eq i j) [
    | inl same ↦ (let h : (get_or runs i d).first ≡ (get_or runs j d).first = ap (λ (k : ℕ). (get_or runs k d).first) same in omega (arith, h))
    | inr other ↦ (let h = (runs_apart d 0 0 runs i j table (omega (arith, low, other)) below).0 in omega (arith, h))
  ],
)

-- a partition point is the count
pub count_from_point : (key : Run → ℕ) (runs : List Run) (most count : ℕ) → count ≤ length runs
    → IsPartitionPoint (λ (r : Run). leb (key r) most ≡ true) (λ (r : Run). leb (key r) most ≡ false) runs count → IsCountUpTo (map key runs) most count
count_from_point key runs most count within point = record {
  within = omega (arith, within, length-map runs key);
  low = λ k before.
      let low = leb-true (key (get_or runs k no_run)) most (point.0 k no_run (omega arith) before) in
      omega (arith, low, get_or-map key runs k no_run 0 (omega (arith, before, within)));
  high = λ k from below.
      let inside : k < length runs = omega (arith, below, length-map runs key) in
      let high = leb-false (key (get_or runs k no_run)) most (point.1 k no_run from inside) in
      omega (arith, high, get_or-map key runs k no_run 0 inside);
}

-- ---- from a place to its block

module _ (d : Run) (runs : List Run) (table : IsTable runs) (place count : ℕ) (found : IsCountUpTo (indexes runs) place count) (inside : place < length (blocks_in runs)) where
  -- there is a run that begins there or before
  pub some_begun : 1 ≤ count
  some_begun = elim (cases_eq count 0) [
    | inr some ↦ omega (arith, some)
    | inl none ↦ absurd (by_runs runs table inside (λ below. found.high 0 (omega (arith, none)) below))
  ]
    where
      by_runs : (runs : List Run) → IsTable runs → place < length (blocks_in runs) → (0 < length (indexes runs) → place < slice_index (indexes runs) 0) → ⊥
      by_runs [] table inside high = omega (arith, inside)
      by_runs (r ∷ rs) table inside high = let h = high (omega arith) in let index = table.1 in omega (arith, h, index)

  pub begun_within : count ≤ length runs
  begun_within = let h = found.within in omega (arith, h, length-map runs index_of)

  last : count - 1 < length runs
  last = omega (arith, some_begun, begun_within)

  abbrev run : Run
  run = get_or runs (count - 1) d

  pub begins : run.index ≤ place
  begins =
      let low = found.low (count - 1) (omega (arith, some_begun)) in
      omega (arith, low, get_or-map index_of runs (count - 1) d 0 last)

  pub ends : place < run.index + run.len
  ends = elim (cases_lt count (length runs)) [
    | inl more ↦
        let next = run_next d 0 0 runs (count - 1) table (omega (arith, more, some_begun)) in
        let high = found.high count (omega arith) (omega (arith, more, length-map runs index_of)) in
        let same : suc (count - 1) ≡ count = omega (arith, some_begun) in
        let next' : (get_or runs count d).index ≡ run.index + run.len = ap (λ (k : ℕ). (get_or runs k d).index) (sym same) ∙ next in
        omega (arith, high, next', get_or-map index_of runs count d 0 more)
    | inr all ↦
        let whole = run_last d 0 0 runs (count - 1) table (omega (arith, all, some_begun, begun_within)) in
        omega (arith, whole, inside)
  ]

  pub block_there : slice_get (blocks_in runs) place ≡ Some (run.first + (place - run.index))
  block_there = at_run d 0 0 runs (count - 1) place (place - run.index) table last (omega (arith, begins, ends)) (omega (arith, begins))

  pub block_small : (most : ℕ) → end_of 0 runs < most → run.first + (place - run.index) < most
  block_small most small =
      let end = run_ends d 0 0 runs (count - 1) table last in
      omega (arith, end, small, begins, ends)

  pub block_is : run.first + (place - run.index) ≡ slice_index (blocks_in runs) place
  block_is = sym (get_or_from_slice_get (blocks_in runs) place (run.first + (place - run.index)) 0 block_there)

-- ---- from a block to its place

module _ (d : Run) (runs : List Run) (table : IsTable runs) (block count : ℕ) (found : IsCountUpTo (firsts runs) block count) where
  count_within : count ≤ length runs
  count_within = let h = found.within in omega (arith, h, length-map runs first_of)

  pub none_begun : count ≡ 0 → ¬ Contains (blocks_in runs) block
  none_begun none has =
      let in_run = in_some d runs block has in
      let below = in_run.1 in
      let from = in_run.2 in
      let high = found.high in_run.0 (omega (arith, none)) (omega (arith, below, length-map runs first_of)) in
      omega (arith, high, from, get_or-map first_of runs in_run.0 d 0 below)

  module _ (some : count ≢ 0) where
    there : count - 1 < length runs
    there = omega (arith, some, count_within)

    abbrev last_run : Run
    last_run = get_or runs (count - 1) d

    pub from_first : last_run.first ≤ block
    from_first =
        let low = found.low (count - 1) (omega (arith, some)) in
        omega (arith, low, get_or-map first_of runs (count - 1) d 0 there)

    pub place_there : block - last_run.first < last_run.len → slice_get (blocks_in runs) (last_run.index + (block - last_run.first)) ≡ Some block
    place_there inside =
        at_run d 0 0 runs (count - 1) (last_run.index + (block - last_run.first)) (block - last_run.first) table there inside (omega arith)
        ∙ ap Some (omega (arith, from_first))

    pub place_small : last_run.index + (block - last_run.first) ≤ block
    place_small =
        let below = place_below d 0 0 runs (count - 1) table (omega arith) there in
        omega (arith, below, from_first)

    pub past_run : last_run.len ≤ block - last_run.first → ¬ Contains (blocks_in runs) block
    past_run past has =
        let in_run = in_some d runs block has in
        let k = in_run.0 in
        let below = in_run.1 in
        let from = in_run.2 in
        let before = in_run.3 in
        elim (cases_lt k count) [
          | inr later ↦
              (let high = found.high k later (omega (arith, below, length-map runs first_of)) in
              omega (arith, high, from, get_or-map first_of runs k d 0 below))
          | inl begun ↦ elim (cases_eq k (count - 1)) [
            | inl same ↦
                (let first : (get_or runs k d).first ≡ last_run.first = ap (λ (j : ℕ). (get_or runs j d).first) same in
                let len : (get_or runs k d).len ≡ last_run.len = ap (λ (j : ℕ). (get_or runs j d).len) same in
                omega (arith, before, past, first, len, from_first))
            | inr other ↦
                (let apart = (runs_apart d 0 0 runs k (count - 1) table (omega (arith, begun, other)) there).0 in
                omega (arith, apart, before, from_first))
          ]
        ]

-- ---- how many there are

pub count_is : (d : Run) (runs : List Run) → IsTable runs → length runs ≢ 0 → (get_or runs (length runs - 1) d).index + (get_or runs (length runs - 1) d).len ≡ length (blocks_in runs)
count_is d runs table some = run_last d 0 0 runs (length runs - 1) table (omega (arith, some)) ∙ omega arith

pub count_small : (d : Run) (runs : List Run) (most : ℕ) → IsTable runs → length runs ≢ 0 → end_of 0 runs < most → (get_or runs (length runs - 1) d).index + (get_or runs (length runs - 1) d).len < most
count_small d runs most table some small =
    let there : length runs - 1 < length runs = omega (arith, some) in
    let below = place_below d 0 0 runs (length runs - 1) table (omega arith) there in
    let end = run_ends d 0 0 runs (length runs - 1) table there in
    omega (arith, below, end, small)

pub none_count : (runs : List Run) → length runs ≡ 0 → length (blocks_in runs) ≡ 0
none_count [] none = refl
none_count (r ∷ rs) none = absurd (omega (arith, none))
