-- How the blocks of a write come into the cache: for the code of a drive with a write cache. (This project's own.)
use Rattle.std.specs.Prelude.{◌≡◌, ℕ, ◌+◌, ◌*◌, ◌<◌, ◌≤◌, true, Option, Some, None, Result, Ok, Err, List, [], ◌∷◌, ◌++◌, length}
use Rattle.std.specs.List.{Contains}
use Rattle.model_buffer.specs.Buffer.{bytes_at, numbers_in}
use Rattle.model_sectors.specs.Discs.{block_of}
use Rattle.model_sectors.specs.Requests.{block_with, blocks_covered, is_partly, merged_in}
use Rattle.model_sectors.specs.declared.ReadOut.{ReadOut}
use Rattle.model_sectors.specs.declared.ReadOut.TheVariants as reads
use Rattle.model_drive.specs.declared.WriteOut.{WriteOut}
use Rattle.model_drive.specs.declared.WriteOut.TheVariants as writes
use Rattle.model_drive.specs.Shown.{IsOn, IsFormatted, block_count}
use Rattle.model_cache.specs.Values.{Values, Contents, Has, MayHave}
use Rattle.model_cache.specs.Shown.{CacheShown, AreApart}
use Rattle.model_cache.specs.Chains.{ReadsDisc, leaves_pending}
use Rattle.model_cache.specs.Causes.{ReadsRest, ReadsRests, EndsRest, ComesIn, fresh_blocks}

-- A block that is not pending is the next of those to come, with the bytes of the request over some whole ones.
abbrev pub IsNextStaged : (lba n : ℕ) → List ℕ → (block : ℕ) → Option (List ℕ) → (was now : List (ℕ × List ℕ))
    → (staged more : ℕ) → Type 0
IsNextStaged lba n bytes block (Some held) was now staged more = (now ≡ was) × (more ≡ staged)
IsNextStaged lba n bytes block None was now staged more =
    (rest : List ℕ) × (length rest ≡ 32768) × (now ≡ was ++ (block, merged_in lba n bytes block rest) ∷ [])
    × (more ≡ staged + 1)

-- The block is pending, or is one of those to come.
pub record IsStaged (old new : CacheShown) (lba n block : ℕ) (bytes : List ℕ) (was now : List (ℕ × List ℕ)) (staged more : ℕ) : Type 0 where
  pub rest : ReadsRest old new block (is_partly lba n block) (bytes_at block old.pending)
  pub same_pending : new.pending ≡ old.pending
  pub fresh : IsNextStaged lba n bytes block (bytes_at block old.pending) was now staged more

-- the rest of the block could not be read
pub record LacksRestOf (old new : CacheShown) (lba n block : ℕ) (out : WriteOut) : Type 0 where
  pub partly : is_partly lba n block ≡ true
  pub read_out : ReadOut
  pub ends : ReadsDisc old.drive new.drive (16 * block) 16 read_out
  pub tells : EndsRest lba block read_out out
  pub left : new.pending ≡ leaves_pending out old.pending
  pub same_mode : new.caches ≡ old.caches

-- how a block is made ready for the cache
abbrev pub StagesNext : CacheShown → CacheShown → (lba n block : ℕ) → List ℕ → (was : List (ℕ × List ℕ))
    → (now : ℕ → List (ℕ × List ℕ)) → (staged : ℕ)
    → Result ℕ WriteOut → Type 0
StagesNext old new lba n block bytes was now staged (Ok more) =
    IsStaged old new lba n block bytes was (now more) staged more
StagesNext old new lba n block bytes was now staged (Err out) = (bytes_at block old.pending ≡ None)
    × LacksRestOf old new lba n block out

-- how the rest of a block is read, where it is needed
abbrev pub RestOf : CacheShown → CacheShown → (lba n block : ℕ) → Result (Unit {0}) WriteOut → Type 0
RestOf old new lba n block (Ok done) = ReadsRest old new block (is_partly lba n block) None
    × (new.pending ≡ old.pending)
RestOf old new lba n block (Err out) = LacksRestOf old new lba n block out

-- What a write that could not read a rest leaves: nothing new.
abbrev pub StoppedContents : (Contents → Type 0) → Values → WriteOut → Type 0
StoppedContents after v writes.Cut = after (MayHave (v ∷ []))
StoppedContents after v writes.Fault = after (MayHave (v ∷ []))
StoppedContents after v _ = after (Has v)

-- What that makes of a disc with these values: nothing new; and the room has the block's bytes, where they are needed.
abbrev pub RestContents : (Contents → Type 0) → Values → (lba n block : ℕ) → (room : List ℕ)
    → Result (Unit {0}) WriteOut → Type 0
RestContents after v lba n block room (Ok done) = after (Has v)
    × (is_partly lba n block ≡ true → room ≡ block_of v.disc block)
RestContents after v lba n block room (Err out) = StoppedContents after v out

-- What that makes of a disc with these values: nothing new; and the block has its bytes with those of the request over them.
abbrev pub StagedContents : (Contents → Type 0) → Values → (lba n block : ℕ) → List ℕ → Option (List ℕ)
    → (was : List (ℕ × List ℕ)) → (now : ℕ → List (ℕ × List ℕ)) → Result ℕ WriteOut → Type 0
StagedContents after v lba n block bytes (Some held) was now (Ok more) = after (Has v)
StagedContents after v lba n block bytes None was now (Ok more) =
    after (Has v) × (now more ≡ was ++ (block, merged_in lba n bytes block (block_of v.disc block)) ∷ [])
StagedContents after v lba n block bytes (Some held) was now (Err out) = StoppedContents after v out
StagedContents after v lba n block bytes None was now (Err out) = StoppedContents after v out

-- The first k covered blocks are pending or to come.
pub record StagedSoFar (start now : CacheShown) (lba n k : ℕ) (bytes : List ℕ) (list : List (ℕ × List ℕ)) (staged : ℕ) (before after : Contents → Type 0) : Type 0 where
  pub rests : ReadsRests start now lba n k
  pub same_pending : now.pending ≡ start.pending
  pub same_mode : now.caches ≡ start.caches
  pub on : IsOn now.drive
  pub formatted : IsFormatted now.drive
  pub same_shape : now.drive.shape ≡ start.drive.shape
  pub same_count : block_count now.drive ≡ block_count start.drive
  pub numbers : numbers_in list ≡ fresh_blocks start.pending (block_with lba) k
  pub many : length list ≡ staged
  pub apart : AreApart (start.pending ++ list)
  pub have : (i : ℕ) (held : List ℕ) → Contains list (i, held)
      → (rest : List ℕ) × (length rest ≡ 32768) × (held ≡ merged_in lba n bytes i rest)
  pub gives : (v : Values) → before (Has v)
      → after (Has v) × ((i : ℕ) (held : List ℕ) → Contains list (i, held)
      → held ≡ merged_in lba n bytes i (block_of v.disc i))

-- all covered blocks came into the cache
pub record ComesAll (old new : CacheShown) (lba n : ℕ) (bytes : List ℕ) : Type 0 where
  pub late : CacheShown
  pub rests : ReadsRests old late lba n (blocks_covered lba n)
  pub comes : ComesIn late new lba n bytes

-- the rest of one could not be read
pub record EndsComing (old new : CacheShown) (lba n : ℕ) (out : WriteOut) : Type 0 where
  pub before : ℕ
  pub covered : before < blocks_covered lba n
  pub late : CacheShown
  pub same_mode : late.caches ≡ old.caches
  pub rests : ReadsRests old late lba n before
  pub not_pending : bytes_at (block_with lba + before) late.pending ≡ None
  pub lacks : LacksRestOf late new lba n (block_with lba + before) out

-- How the covered blocks come into the cache.
abbrev pub TakesIn : CacheShown → CacheShown → (lba n : ℕ) → List ℕ → WriteOut → Type 0
TakesIn old new lba n bytes writes.Good = ComesAll old new lba n bytes
TakesIn old new lba n bytes out = EndsComing old new lba n out

-- how the end of a read of a block's rest is told of a write
abbrev pub rest_out : ReadOut → ℕ → Result (Unit {0}) WriteOut
rest_out reads.Good lba = Ok tt
rest_out (reads.Unread named home) lba = Err (writes.Unread lba home)
rest_out reads.Cut lba = Err writes.Cut
rest_out reads.Fault lba = Err writes.Fault
rest_out _ lba = Err writes.Off

-- How all blocks that are not pending are made ones to come, and what that makes of what the drive stands for.
abbrev pub StagesAll : CacheShown → CacheShown → (lba n : ℕ) → List ℕ → (list : ℕ → List (ℕ × List ℕ))
    → (before after : Contents → Type 0) → Result ℕ WriteOut → Type 0
StagesAll old new lba n bytes list before after (Ok staged) =
    StagedSoFar old new lba n (blocks_covered lba n) bytes (list staged) staged before after
StagesAll old new lba n bytes list before after (Err out) =
    EndsComing old new lba n out × ((v : Values) → before (Has v) → StoppedContents after v out)

-- there is room for the covered blocks that are not pending
abbrev pub HasRoomForBlocks : List (ℕ × List ℕ) → (lba n : ℕ) → Type 0
HasRoomForBlocks pending lba n =
    length pending + length (fresh_blocks pending (block_with lba) (blocks_covered lba n)) ≤ 32
