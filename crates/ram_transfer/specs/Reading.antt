-- What a read does with the parts of its request. `held` are the blocks that were buffered before, and `held'` those after it.
-- (This project's own, as all here.)
use Rattle.std.specs.Prelude.{◌≡◌, ℕ, zero, suc, ◌+◌, ◌-◌, ◌*◌, ◌<◌, ◌≤◌, ◌⊎◌, Bool, true, false, IsTrue, if◌then◌else◌, MatchBool, Option, Some, None, Result, Ok, Err, List, length, take}
use Rattle.model_geometry.specs.Geometry.{Shape}
use Rattle.model_medium.specs.Cells.{Cell, IsGood, cell_at}
use Rattle.model_medium.specs.World.{World, Span}
use Rattle.model_buffer.specs.Buffer.{numbers_in, bytes_at, with_newest}
use Rattle.model_buffer.specs.declared.TheConstants.{BUFFERED_BLOCKS}
use Rattle.model_sectors.specs.Discs.{sectors_of}
use Rattle.model_sectors.specs.Requests.{block_with, blocks_covered, start_in, is_partly, merged_in, filled_by}
use Rattle.model_sectors.specs.Uses.{touched_from, is_buffered, is_at_hand, read_uses}
use Rattle.model_sectors.specs.declared.ReadOut.{ReadOut}
use Rattle.model_sectors.specs.declared.ReadOut.TheVariants as outs
use Rattle.model_stops.specs.Stops.{Continues, Stops}
use Rattle.model_stops.specs.declared.Stop.{Stop}
use Rattle.model_places.specs.Places.{Lists, home_of}
use Rattle.model_drive.specs.Shown.{HoldsBlocksOf, StandsUnder}
use Rattle.ram_buffer.specs.Held.{IsOneFrom}
use Rattle.ram_transfer.specs.Blocks.{DiesAtMost, IsFetched, CannotBeRead}

-- How a read ends that was not stopped: well, or at the block after n, which it names by the first sector of the
-- request in it, and by its home.
abbrev pub read_end_at : Shape → Lists → (lba : ℕ) → Option ℕ → ReadOut
read_end_at shape lists lba None = outs.Good
read_end_at shape lists lba (Some before) =
    outs.Unread (start_in lba (block_with lba + before)) (home_of shape lists (block_with lba + before))

-- a drive with these lists in use, and this medium and buffer, stood for the disc
abbrev pub StoodFor : Shape → Lists → World → List (ℕ × List ℕ) → List ℕ → Type 0
StoodFor shape lists world held disc = (world.known ≡ true) × StandsUnder shape world.cells lists held disc

-- each of n logical blocks from this one on has whole bytes in its home, or was buffered before
abbrev pub HaveBytes : Shape → Lists → List Cell → List ℕ → (first count : ℕ) → Type 0
HaveBytes shape lists cells buffered first count = (k : ℕ) → k < count
    → IsGood (cell_at cells (home_of shape lists (first + k))) ⊎ IsTrue (is_buffered buffered (first + k))

-- the bytes of a request before its part in a block are as they were
abbrev pub KeepsBefore : (lba block : ℕ) → (into into' : List ℕ) → Type 0
KeepsBefore lba block into into' =
    take (2048 * (start_in lba block - lba)) into' ≡ take (2048 * (start_in lba block - lba)) into

-- A request covers n blocks, none of them buffered, that those before its last ones may be read past the buffer.
pub record IsLong (lba n : ℕ) (held : List (ℕ × List ℕ)) : Type 0 where
  pub many : 16 ≤ blocks_covered lba n
  pub none : (i : ℕ) → IsOneFrom (block_with lba) (blocks_covered lba n) i → bytes_at i held ≡ None

-- A block may be read past the buffer: it is covered whole, and not buffered.
pub record MayPass (lba n block : ℕ) (held : List (ℕ × List ℕ)) : Type 0 where
  pub all : is_partly lba n block ≡ false
  pub none : bytes_at block held ≡ None
  pub few : length held ≤ BUFFERED_BLOCKS

-- A block is the one used last: it was buffered, or its bytes came out of those of a request. `room` is what the block had
-- through which they went.
pub record PutsNewest (lba n block : ℕ) (into room : List ℕ) (held held' : List (ℕ × List ℕ)) : Type 0 where
  pub bytes : List ℕ
  pub buffer_is : held' ≡ with_newest block bytes held
  pub came : (bytes_at block held ≡ Some bytes)
      ⊎ ((bytes_at block held ≡ None) × (length room ≡ 32768) × (bytes ≡ merged_in lba n into block room))

-- So many blocks of a request from this one on are those used last, one after another. `into` are the bytes of the request.
abbrev pub PutsFrom : (lba n : ℕ) → List ℕ → (first count : ℕ) → (held held' : List (ℕ × List ℕ)) → Type 0
PutsFrom lba n into first zero held held' = held' ≡ held
PutsFrom lba n into first (suc count) held held' = (mid : List (ℕ × List ℕ)) × (room : List ℕ)
    × PutsFrom lba n into first count held mid × PutsNewest lba n (first + count) into room mid held'

module _ {M : Type 0} (world : M → World) (reaches : M → M → Span → Type 0) (old new : M)
    (held : List (ℕ × List ℕ)) where
  module _ (lba n i home : ℕ) where
    -- the block was fetched, with these bytes, and what the request covers of it was copied
    pub record IsCopied (held' : List (ℕ × List ℕ)) (into into' : List ℕ) : Type 0 where
      pub bytes : List ℕ
      pub fetched : IsFetched world reaches old new held i home bytes held'
      pub copied : into' ≡ filled_by lba n i bytes into

    module _ (past : Bool) (held' : List (ℕ × List ℕ)) (into into' : List ℕ) where
      -- The part was read, past the buffer, which is as it was, or so that the block is buffered.
      pub record IsReadPart : Type 0 where
        pub due : List (ℕ × List ℕ)
        pub copied : IsCopied due into into'
        pub kept : held' ≡ (if past then held else due)

      -- its block cannot be read, and the parts before it are as they were
      pub record IsUnreadPart : Type 0 where
        pub unread : CannotBeRead world reaches old new held i home held'
        pub before : KeepsBefore lba i into into'

      -- what a read of a part does, by whether its block can be read
      abbrev pub ReadsPart : Bool → Type 0
      ReadsPart found = MatchBool found IsReadPart IsUnreadPart

  module _ (shape : Shape) (lists : Lists) (lba n : ℕ) where
    -- The block after n is one of the request, and was not at hand. No cell changed but that of its home.
    pub record EndsInBlock (before : ℕ) : Type 0 where
      pub covered : before < blocks_covered lba n
      pub not_at_hand : ¬ IsTrue (is_at_hand (numbers_in held) (block_with lba) before)
      pub few : length (numbers_in held) ≤ BUFFERED_BLOCKS
      pub dies : DiesAtMost (world old).cells (world new).cells (home_of shape lists (block_with lba + before))

    -- the read was stopped in some block
    pub record StopsInBlock (stop : Stop) : Type 0 where
      pub before : ℕ
      pub ended : EndsInBlock before
      pub stops : Stops world reaches old new
          (read_uses (numbers_in held) (block_with lba) (blocks_covered lba n)) stop

    module _ (held' : List (ℕ × List ℕ)) where
      -- the first k blocks of the request were read
      pub record HasReadUpTo (k : ℕ) : Type 0 where
        pub continues : Continues world reaches old new (read_uses (numbers_in held) (block_with lba) k)
        pub touched : numbers_in held' ≡ touched_from (numbers_in held) (block_with lba) k
        pub same_cells : (world new).cells ≡ (world old).cells
        pub few : (k ≡ 0) ⊎ (length (numbers_in held) ≤ BUFFERED_BLOCKS)
        pub unused : read_uses (numbers_in held) (block_with lba) k ≡ 0 → new ≡ old
        pub readable : (world old).known ≡ true
            → HaveBytes shape lists (world new).cells (numbers_in held) (block_with lba) k
        pub holds : (disc : List ℕ) → StoodFor shape lists (world old) held disc → HoldsBlocksOf disc held'

      -- all blocks were read, and gave the sectors of the disc
      pub record ReadsParts (into : List ℕ) : Type 0 where
        pub all : HasReadUpTo (blocks_covered lba n)
        pub gives : (disc : List ℕ) → StoodFor shape lists (world old) held disc → into ≡ sectors_of disc lba n

      -- the block after n has no whole bytes in its home
      pub record MeetsBlock (before : ℕ) : Type 0 where
        pub ended : EndsInBlock before
        pub continues : Continues world reaches old new (read_uses (numbers_in held) (block_with lba) before + 1)
        pub touched : numbers_in held' ≡ touched_from (numbers_in held) (block_with lba) before
        pub readable : (world old).known ≡ true
            → HaveBytes shape lists (world new).cells (numbers_in held) (block_with lba) before
        pub not_good : ¬ IsGood (cell_at (world new).cells (home_of shape lists (block_with lba + before)))
        pub holds : (disc : List ℕ) → StoodFor shape lists (world old) held disc → HoldsBlocksOf disc held'

      -- How the reading of all parts ends: all were read, or the block after n cannot be, or it was stopped.
      abbrev pub PartsEnd : List ℕ → Result (Option ℕ) Stop → Type 0
      PartsEnd into (Ok None) = ReadsParts into
      PartsEnd into (Ok (Some before)) = MeetsBlock before
      PartsEnd into (Err stop) = StopsInBlock stop
