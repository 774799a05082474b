-- At which turn a spare comes in the order of its pool, and which free one comes next: for the searches. (This project's own, as
-- all here.)
use Rattle.std.specs.Prelude.{◌≡◌, ◌≢◌, ℕ, ◌+◌, ◌<◌, ◌≤◌, Bool, true, false, nat_lt, if◌then◌else◌, Option, Some, None, List, length, drop, slice_get, slice_index, vec_capacity}
use Rattle.std.specs.List.{filter, position_or_len}
use Rattle.std.specs.List.Sorted.{IsNonDecreasing, IsPermutation}
use Rattle.model_lists.specs.declared.sdl.SdlEntry.{SdlEntry}
use Rattle.model_pools.specs.Listed.{replacements}
use Rattle.model_pools.specs.Pools.{Pool, spares_at, is_unnamed}
use Rattle.ram_spare.specs.declared.spare.FreeSpare.{FreeSpare}
use Rattle.ram_spare.specs.declared.cursors.Cursors.TheInside.{Inside}

-- there are no more cursors than a disc has zones, and room for n
pub record AreFewCursors (cursors : Inside) : Type 0 where
  pub few : length cursors.at.items ≤ 35
  pub roomy : 35 ≤ vec_capacity cursors.at

-- the block stands at this turn, and at none before
pub record IsFirstTurn (spares : List ℕ) (block turn : ℕ) : Type 0 where
  pub within : turn < length spares
  pub here : slice_index spares turn ≡ block
  pub not_before : (k : ℕ) → k < turn → slice_index spares k ≢ block

-- A search begins at this turn: at the cursor, or behind the spare that was given last, whichever is later.
abbrev pub BeginsAfter : (spares : List ℕ) (cursor first : ℕ) → Option ℕ → Type 0
BeginsAfter spares cursor first None = first ≡ cursor
BeginsAfter spares cursor first (Some last) =
    (turn : ℕ) × IsFirstTurn spares last turn × (first ≡ (if nat_lt cursor (turn + 1) then turn + 1 else cursor))

module _ (is_free : ℕ → Bool) (spares : List ℕ) where
  -- the spares of these turns are not free: those from the first on and before the second
  abbrev pub AreUsed : (first end : ℕ) → Type 0
  AreUsed first end = (k block : ℕ) → first ≤ k → k < end → slice_get spares k ≡ Some block → is_free block ≡ false

  -- the first free spare from a turn on
  pub record IsNextFree (first : ℕ) (found : FreeSpare) : Type 0 where
    pub from : first ≤ found.turn
    pub here : slice_get spares found.turn ≡ Some found.block
    pub free : is_free found.block ≡ true
    pub used : AreUsed first found.turn

  -- that one, or there is none
  abbrev pub FindsFree : (first : ℕ) → Option FreeSpare → Type 0
  FindsFree first None = AreUsed first (length spares)
  FindsFree first (Some found) = IsNextFree first found

  -- Before this turn come just n free spares: those after them are the free ones from this turn on, and each free one
  -- before this turn is one of them.
  pub record ArePassed (count turn : ℕ) : Type 0 where
    pub few : count ≤ length (filter is_free spares)
    pub rest : drop count (filter is_free spares) ≡ filter is_free (drop turn spares)
    pub passed : (k block : ℕ) → k < turn → slice_get spares k ≡ Some block → is_free block ≡ true
        → (j : ℕ) × (j < count) × (slice_index (filter is_free spares) j ≡ block)

-- ---- where the cursors of a mount stand

-- the blocks are the replacements of the entries, the least first
pub record AreSortedReplacements (entries : List SdlEntry) (blocks : List ℕ) : Type 0 where
  pub rise : IsNonDecreasing blocks
  pub all : IsPermutation (replacements entries) blocks

-- The turn of the first spare of a pool that no entry names: as many spares before it are all named. Where each is named, it is
-- how many spares the pool has.
abbrev pub first_free_turn : List Pool → List SdlEntry → (pool : ℕ) → ℕ
first_free_turn pools entries pool = position_or_len (is_unnamed entries) (spares_at pools pool)

-- the cursor of each pool is at its first free spare, or behind its last one where none is free
abbrev pub AreAtFirstFree : List Pool → List SdlEntry → (cursors : List ℕ) → Type 0
AreAtFirstFree pools entries cursors =
    (pool : ℕ) → pool < length cursors → slice_index cursors pool ≡ first_free_turn pools entries pool
