-- Blocks in runs of consecutive numbers: which blocks they are, and what a table of runs is. (This project's own.)
use Rattle.std.specs.Prelude.{◌≡◌, ℕ, ◌+◌, ◌<◌, ◌≤◌, not, List, [], ◌∷◌, ◌++◌, length, map, slice_index}
use Rattle.std.specs.List.{range_with_len, filter}
use Rattle.model_pools.specs.Listed.{is_listed}
use Rattle.ram_runs.specs.declared.Run.{Run}

-- the blocks of runs, one run after another
abbrev pub blocks_in : List Run → List ℕ
blocks_in [] = []
blocks_in (run ∷ runs) = range_with_len run.first run.len ++ blocks_in runs

-- These runs are a table from this block and this place on: none is empty, each has the number of the blocks before it, and
-- between two of them a number is missing.
abbrev pub AreRunsFrom : (block index : ℕ) → List Run → Type 0
AreRunsFrom block index [] = Unit {0}
AreRunsFrom block index (run ∷ runs) = (block ≤ run.first) × (run.index ≡ index) × (1 ≤ run.len)
    × AreRunsFrom (run.first + run.len + 1) (index + run.len) runs

-- a table of the longest runs
abbrev pub IsTable : List Run → Type 0
IsTable runs = AreRunsFrom 0 0 runs

-- the first block that may be the first of a run after these
abbrev pub end_of : ℕ → List Run → ℕ
end_of block [] = block
end_of block (run ∷ runs) = end_of (run.first + run.len + 1) runs

-- n of these numbers, which rise, are this one at most
pub record IsCountUpTo (keys : List ℕ) (most count : ℕ) : Type 0 where
  pub within : count ≤ length keys
  pub low : (k : ℕ) → k < count → slice_index keys k ≤ most
  pub high : (k : ℕ) → count ≤ k → k < length keys → most < slice_index keys k

-- n of these numbers, which rise, are less than this one
pub record IsCountBelow (keys : List ℕ) (limit count : ℕ) : Type 0 where
  pub within : count ≤ length keys
  pub lower : (k : ℕ) → k < count → slice_index keys k < limit
  pub others : (k : ℕ) → count ≤ k → k < length keys → limit ≤ slice_index keys k

-- the first blocks of runs, and their places
abbrev pub firsts : List Run → List ℕ
firsts runs = map (λ (run : Run). run.first) runs

abbrev pub indexes : List Run → List ℕ
indexes runs = map (λ (run : Run). run.index) runs

-- the blocks of a range that are not slipped
abbrev pub kept_of : List ℕ → (first len : ℕ) → List ℕ
kept_of slipped first len = filter (λ block. not (is_listed slipped block)) (range_with_len first len)
