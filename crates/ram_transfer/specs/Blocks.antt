-- What a drive does with one logical block: a fetch of it. For reads and writes of requests. The home of the logical block
-- `i` is the block `place` of the medium; `held` are the blocks that were buffered before, `held'` those after it, and
-- `bytes` what the fetch gave. (This project's own, as all here.)
use Rattle.std.specs.Prelude.{◌≡◌, ◌≢◌, ℕ, ◌⊎◌, Bool, IsTrue, MatchBool, Some, List, length, ◌≤◌}
use Rattle.std.specs.Bool.{OnTrue}
use Rattle.model_medium.specs.Cells.{Cell, Good, IsGood, IsSameOrDead, cell_at}
use Rattle.model_medium.specs.World.{World, Span}
use Rattle.model_buffer.specs.Buffer.{bytes_at, with_newest, numbers_in}
use Rattle.model_buffer.specs.declared.TheConstants.{BUFFERED_BLOCKS}
use Rattle.model_sectors.specs.Uses.{is_buffered}
use Rattle.model_stops.specs.Stops.{Continues, Stops}
use Rattle.model_stops.specs.declared.Stop.{Stop}

-- no cell changed but that of this block, which is as it was or dead
pub record DiesAtMost (old new : List Cell) (block : ℕ) : Type 0 where
  pub others : (other : ℕ) → other ≢ block → cell_at new other ≡ cell_at old other
  pub left : IsSameOrDead (cell_at old block) (cell_at new block)

module _ {M : Type 0} (world : M → World) (reaches : M → M → Span → Type 0) (old new : M)
    (held : List (ℕ × List ℕ)) (i home : ℕ) where
  -- a fetch was stopped: the block was not buffered, and its home is as it was or dead
  pub record FetchStopped (stop : Stop) : Type 0 where
    pub stops : Stops world reaches old new 1 stop
    pub not_buffered : ¬ IsTrue (is_buffered (numbers_in held) i)
    pub dies : DiesAtMost (world old).cells (world new).cells home
    pub few : length held ≤ BUFFERED_BLOCKS

  -- the block is not buffered, and its home has no whole bytes
  pub record CannotBeRead (held' : List (ℕ × List ℕ)) : Type 0 where
    pub continues : Continues world reaches old new 1
    pub not_buffered : ¬ IsTrue (is_buffered (numbers_in held) i)
    pub buffer_is : held' ≡ held
    pub dies : DiesAtMost (world old).cells (world new).cells home
    pub not_good : ¬ IsGood (cell_at (world new).cells home)
    pub few : length held ≤ BUFFERED_BLOCKS

  module _ (bytes : List ℕ) where
    -- the block came out of the buffer
    pub record FromBuffer : Type 0 where
      pub unused : new ≡ old
      pub was_there : bytes_at i held ≡ Some bytes

    -- the block came from its home
    pub record FromHome : Type 0 where
      pub continues : Continues world reaches old new 1
      pub not_buffered : ¬ IsTrue (is_buffered (numbers_in held) i)
      pub same_cells : (world new).cells ≡ (world old).cells
      pub gives : OnTrue (world old).known (cell_at (world new).cells home ≡ Good bytes)

    module _ (held' : List (ℕ × List ℕ)) where
      -- the block was fetched, and is buffered
      pub record IsFetched : Type 0 where
        pub buffer_is : held' ≡ with_newest i bytes held
        pub came : FromBuffer ⊎ FromHome
        pub few : length held ≤ BUFFERED_BLOCKS

      -- what a fetch of a block does, by whether it can be read
      abbrev pub Fetches : Bool → Type 0
      Fetches found = MatchBool found IsFetched (CannotBeRead held')
