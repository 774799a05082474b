-- Why each answer of a drive with a write cache comes, and what it shows then. (This project's own, as all here.)
use Rattle.std.specs.Prelude.{◌≡◌, ℕ, zero, suc, ◌+◌, ◌-◌, ◌*◌, ◌<◌, ◌⊎◌, if◌then◌else◌, Bool, true, false, MatchBool, Option, Some, None, is_some, List, [], ◌∷◌, ◌++◌, length, map}
use Rattle.std.specs.List.{Contains}
use Rattle.model_buffer.specs.Buffer.{bytes_at, numbers_in}
use Rattle.model_sectors.specs.Requests.{block_with, blocks_covered, start_in, end_in, is_partly, merged_in}
use Rattle.model_sectors.specs.declared.ReadOut.{ReadOut}
use Rattle.model_sectors.specs.declared.ReadOut.TheVariants as reads
use Rattle.model_sectors.specs.declared.PowerOut.{PowerOut}
use Rattle.model_drive.specs.declared.WriteOut.{WriteOut}
use Rattle.model_drive.specs.declared.WriteOut.TheVariants as writes
use Rattle.model_drive.specs.declared.FormatOut.{FormatOut}
use Rattle.model_drive.specs.declared.FormatOut.TheVariants as formats
use Rattle.model_drive.specs.declared.ExpandOut.{ExpandOut}
use Rattle.model_drive.specs.declared.ExpandOut.TheVariants as expands
use Rattle.model_drive.specs.declared.Kind.{Kind}
use Rattle.model_drive.specs.declared.Kind.TheVariants as kinds
use Rattle.model_drive.specs.Shown.{IsOn, IsFormatted, block_count}
use Rattle.model_drive.specs.Parts.{IsOutOfRange, IsInRange}
use Rattle.model_drive.specs.Reads.{VerifyCause}
use Rattle.model_drive.specs.Writes.{WriteCause}
use Rattle.model_drive.specs.Formats.{FormatCause}
use Rattle.model_drive.specs.Expands.{ExpandCause}
use Rattle.model_drive.specs.Power.{PowerCause}
use Rattle.model_cache.specs.declared.TheConstants.{CACHED_BLOCKS}
use Rattle.model_cache.specs.declared.SyncOut.{SyncOut}
use Rattle.model_cache.specs.declared.SyncOut.TheVariants as syncs
use Rattle.model_cache.specs.declared.TickOut.{TickOut}
use Rattle.model_cache.specs.declared.TickOut.TheVariants as ticks
use Rattle.model_places.specs.Places.{Lists}
use Rattle.model_cache.specs.Values.{is_among}
use Rattle.model_cache.specs.Shown.{CacheShown, dropped, pending_in, pending_below, goes_into_cache, pending_covered}
use Rattle.model_cache.specs.Chains.{LeavesSound, ReadsDisc, leaves_pending}
use Rattle.model_cache.specs.Drains.{DrainCause}

-- The power was off, and nothing changed.
pub record CacheWasOff (old new : CacheShown) : Type 0 where
  pub off : ¬ IsOn old.drive
  pub nothing : new ≡ old

-- The power is on and the disc is not formatted. Nothing is pending then.
pub record CacheUnformatted (old new : CacheShown) : Type 0 where
  pub on : IsOn old.drive
  pub unformatted : ¬ IsFormatted old.drive
  pub nothing : new ≡ dropped old

-- Some sector is none of the disc's; the capacity is told.
pub record CacheOutOfRange (old new : CacheShown) (lba n known : ℕ) : Type 0 where
  pub past : IsOutOfRange old.drive new.drive lba n known
  pub nothing : new ≡ dropped old

-- the cache is as before, and so are the pending blocks
abbrev pub KeepsCache : CacheShown → CacheShown → Type 0
KeepsCache old new = (new.pending ≡ old.pending) × (new.caches ≡ old.caches)

-- A call of the disc that drops all pending blocks.
abbrev pub DropsCache : CacheShown → CacheShown → Type 0
DropsCache old new = (new.pending ≡ []) × (new.caches ≡ old.caches)

-- what a read that is done on the disc leaves of the pending blocks
abbrev pub leaves_after_read : ReadOut → List (ℕ × List ℕ) → List (ℕ × List ℕ)
leaves_after_read reads.Cut pending = []
leaves_after_read reads.Fault pending = []
leaves_after_read _ pending = pending

-- One block of a read was taken from the cache, or its sectors were read from the disc.
abbrev pub ReadsPart : CacheShown → CacheShown → (lba n block : ℕ) → Option (List ℕ) → ReadOut → Type 0
ReadsPart old new lba n block (Some bytes) out = (out ≡ reads.Good) × (new ≡ old)
ReadsPart old new lba n block None out =
    ReadsDisc old.drive new.drive (start_in lba block) (end_in lba n block - start_in lba block) out
    × (new.pending ≡ leaves_after_read out old.pending) × (new.caches ≡ old.caches)

-- the first n blocks of a read were read, in rising order
abbrev pub ReadsParts : CacheShown → CacheShown → (lba n : ℕ) → ℕ → Type 0
ReadsParts old new lba n zero = new ≡ old
ReadsParts old new lba n (suc k) = (mid : CacheShown) × ReadsParts old mid lba n k
    × ReadsPart mid new lba n (block_with lba + k) (bytes_at (block_with lba + k) old.pending) reads.Good

-- the read ended at a block that was not pending
pub record EndsReading (old new : CacheShown) (lba n : ℕ) (out : ReadOut) : Type 0 where
  pub inside : IsInRange old.drive lba n
  pub before : ℕ
  pub covered : before < blocks_covered lba n
  pub mid : CacheShown
  pub parts : ReadsParts old mid lba n before
  pub not_pending : bytes_at (block_with lba + before) old.pending ≡ None
  pub ends : ReadsPart mid new lba n (block_with lba + before) None out

-- A read while blocks are pending: block after block.
abbrev pub ReadPartsCause : CacheShown → CacheShown → (lba n : ℕ) → ReadOut → Type 0
ReadPartsCause old new lba n reads.Good = IsInRange old.drive lba n × ReadsParts old new lba n (blocks_covered lba n)
ReadPartsCause old new lba n reads.NotFormatted = ⊥
ReadPartsCause old new lba n (reads.Range known) = CacheOutOfRange old new lba n known
ReadPartsCause old new lba n (reads.Unread named block) = EndsReading old new lba n (reads.Unread named block)
ReadPartsCause old new lba n reads.Cut = EndsReading old new lba n reads.Cut
ReadPartsCause old new lba n reads.Off = ⊥
ReadPartsCause old new lba n reads.Fault = EndsReading old new lba n reads.Fault

-- A read: one of the disc where nothing is pending.
abbrev pub CacheReadBy : List (ℕ × List ℕ) → CacheShown → CacheShown → (lba n : ℕ) → ReadOut → Type 0
CacheReadBy [] old new lba n out = ReadsDisc old.drive new.drive lba n out × DropsCache old new
CacheReadBy (held ∷ pending) old new lba n out = ReadPartsCause old new lba n out

-- The cause of each answer of a read of n sectors from lba on, and what the drive shows then.
abbrev pub CacheReadCause : CacheShown → CacheShown → (lba n : ℕ) → ReadOut → Type 0
CacheReadCause old new lba n reads.Off = CacheWasOff old new
CacheReadCause old new lba n out = CacheReadBy ((dropped old).pending) (dropped old) new lba n out

-- The cause of each answer of a verification: the disc alone is asked.
abbrev pub CacheVerifyCause : CacheShown → CacheShown → (lba n : ℕ) → ReadOut → Type 0
CacheVerifyCause old new lba n out = VerifyCause old.drive new.drive lba n out
    × (new.pending ≡ leaves_after_read out old.pending) × (new.caches ≡ old.caches)

-- The pending blocks that the request covers were drained, all of them.
abbrev pub DrainsCovered : CacheShown → CacheShown → (lba n : ℕ) → WriteOut → Type 0
DrainsCovered old new lba n out =
    DrainCause old new (pending_covered true old lba n) (length (pending_covered true old lba n)) out

-- A write on the disc itself, after all covered blocks that were pending had left.
pub record WritesThrough (old new : CacheShown) (lba n : ℕ) (out : WriteOut) : Type 0 where
  pub mid : CacheShown
  pub drained : DrainsCovered old mid lba n writes.Good
  pub wrote : WriteCause mid.drive new.drive lba n out
  pub leaves : LeavesSound mid.drive new.drive
  pub left : new.pending ≡ leaves_pending out mid.pending
  pub same_mode : new.caches ≡ old.caches

-- some of those blocks did not leave, and no write on the disc was made; or that was refused or stopped
abbrev pub StopsWritingThrough : CacheShown → CacheShown → (lba n : ℕ) → WriteOut → Type 0
StopsWritingThrough old new lba n out = IsInRange old.drive lba n
    × (DrainsCovered old new lba n out ⊎ WritesThrough old new lba n out)

-- The cause of each answer of a write through the cache of a disc that has all pending blocks.
abbrev pub ThroughCauseOf : CacheShown → CacheShown → (lba n : ℕ) → WriteOut → Type 0
ThroughCauseOf old new lba n writes.Good = IsInRange old.drive lba n × WritesThrough old new lba n writes.Good
ThroughCauseOf old new lba n writes.NotFormatted = ⊥
ThroughCauseOf old new lba n (writes.Range known) = CacheOutOfRange old new lba n known
ThroughCauseOf old new lba n (writes.Unread named block) = IsInRange old.drive lba n
    × WritesThrough old new lba n (writes.Unread named block)
ThroughCauseOf old new lba n writes.Off = ⊥
ThroughCauseOf old new lba n out = StopsWritingThrough old new lba n out

abbrev pub ThroughCause : CacheShown → CacheShown → (lba n : ℕ) → WriteOut → Type 0
ThroughCause old new lba n writes.NotFormatted = CacheUnformatted old new
ThroughCause old new lba n writes.Off = CacheWasOff old new
ThroughCause old new lba n out = ThroughCauseOf (dropped old) new lba n out

-- How many blocks have to leave the cache before n others come in.
abbrev pub leave_first : CacheShown → (lba n : ℕ) → ℕ
leave_first shown lba n = (length (pending_covered false shown lba n) + blocks_covered lba n) - CACHED_BLOCKS

-- As many of those that are not covered were drained.
abbrev pub MakesRoom : CacheShown → CacheShown → (lba n : ℕ) → WriteOut → Type 0
MakesRoom old new lba n out = DrainCause old new (pending_covered false old lba n) (leave_first old lba n) out

-- the rests of the first n blocks were read from the disc, where they are needed
abbrev pub ReadsRest : CacheShown → CacheShown → (block : ℕ) → (partly : Bool) → Option (List ℕ) → Type 0
ReadsRest old new block true None = ReadsDisc old.drive new.drive (16 * block) 16 reads.Good × KeepsCache old new
ReadsRest old new block _ _ = new ≡ old

abbrev pub ReadsRests : CacheShown → CacheShown → (lba n : ℕ) → ℕ → Type 0
ReadsRests old new lba n zero = new ≡ old
ReadsRests old new lba n (suc k) = (mid : CacheShown) × ReadsRests old mid lba n k
    × ReadsRest mid new (block_with lba + k) (is_partly lba n (block_with lba + k)) (bytes_at (block_with lba + k) mid.pending)

-- the bytes of a pending block with those of a request over them, where it is covered
abbrev pub put_over : (lba n : ℕ) → List ℕ → (ℕ × List ℕ) → (ℕ × List ℕ)
put_over lba n bytes held = (
  held.0,
  if is_among (block_with lba) (blocks_covered lba n) held.0 then merged_in lba n bytes held.0 held.1 else held.1,
)

-- the covered blocks that are not pending, rising
abbrev pub fresh_blocks : List (ℕ × List ℕ) → (first : ℕ) → (count : ℕ) → List ℕ
fresh_blocks pending first zero = []
fresh_blocks pending first (suc k) =
    fresh_blocks pending first k ++ (if is_some (bytes_at (first + k) pending) then [] else (first + k) ∷ [])

-- Then all covered blocks are pending. A block that was pending keeps its place, and the others come behind, in rising order,
-- each with the bytes of the request over whole ones.
pub record ComesIn (old new : CacheShown) (lba n : ℕ) (bytes : List ℕ) : Type 0 where
  pub same_drive : new.drive ≡ old.drive
  pub same_mode : new.caches ≡ old.caches
  pub fresh : List (ℕ × List ℕ)
  pub pending_are : new.pending ≡ map (put_over lba n bytes) old.pending ++ fresh
  pub fresh_are : numbers_in fresh ≡ fresh_blocks old.pending (block_with lba) (blocks_covered lba n)
  pub fresh_have : (i : ℕ) (held : List ℕ) → Contains fresh (i, held)
      → (rest : List ℕ) × (length rest ≡ 32768) × (held ≡ merged_in lba n bytes i rest)

-- All covered blocks went into the cache, behind those that left it.
pub record GoesIntoCache (old new : CacheShown) (lba n : ℕ) (bytes : List ℕ) : Type 0 where
  pub inside : IsInRange old.drive lba n
  pub mid : CacheShown
  pub drained : MakesRoom old mid lba n writes.Good
  pub late : CacheShown
  pub rests : ReadsRests mid late lba n (blocks_covered lba n)
  pub comes : ComesIn late new lba n bytes

-- how a read of a rest ends a write
abbrev pub EndsRest : (lba block : ℕ) → ReadOut → WriteOut → Type 0
EndsRest lba block (reads.Unread named home) out = out ≡ writes.Unread (start_in lba block) home
EndsRest lba block reads.Cut out = out ≡ writes.Cut
EndsRest lba block reads.Fault out = out ≡ writes.Fault
EndsRest lba block _ out = ⊥

-- The rest of a block could not be read.
pub record LacksRestInCache (old new : CacheShown) (lba n : ℕ) (out : WriteOut) : Type 0 where
  pub mid : CacheShown
  pub drained : MakesRoom old mid lba n writes.Good
  pub before : ℕ
  pub covered : before < blocks_covered lba n
  pub late : CacheShown
  pub rests : ReadsRests mid late lba n before
  pub partly : is_partly lba n (block_with lba + before) ≡ true
  pub not_pending : bytes_at (block_with lba + before) late.pending ≡ None
  pub read_out : ReadOut
  pub ends : ReadsDisc late.drive new.drive (16 * (block_with lba + before)) 16 read_out
  pub tells : EndsRest lba (block_with lba + before) read_out out
  pub left : new.pending ≡ leaves_pending out late.pending
  pub same_mode : new.caches ≡ old.caches

-- The cause of each answer of a write into the cache of a disc that has all pending blocks.
abbrev pub CachedCauseOf : CacheShown → CacheShown → (lba n : ℕ) → List ℕ → WriteOut → Type 0
CachedCauseOf old new lba n bytes writes.Good = GoesIntoCache old new lba n bytes
CachedCauseOf old new lba n bytes writes.NotFormatted = ⊥
CachedCauseOf old new lba n bytes (writes.Range known) = CacheOutOfRange old new lba n known
CachedCauseOf old new lba n bytes (writes.Unread named block) =
    IsInRange old.drive lba n × LacksRestInCache old new lba n (writes.Unread named block)
CachedCauseOf old new lba n bytes writes.Off = ⊥
CachedCauseOf old new lba n bytes writes.Cut = IsInRange old.drive lba n
    × (MakesRoom old new lba n writes.Cut ⊎ LacksRestInCache old new lba n writes.Cut)
CachedCauseOf old new lba n bytes writes.Fault = IsInRange old.drive lba n
    × (MakesRoom old new lba n writes.Fault ⊎ LacksRestInCache old new lba n writes.Fault)
CachedCauseOf old new lba n bytes out = IsInRange old.drive lba n × MakesRoom old new lba n out

abbrev pub CachedCause : CacheShown → CacheShown → (lba n : ℕ) → List ℕ → WriteOut → Type 0
CachedCause old new lba n bytes writes.NotFormatted = CacheUnformatted old new
CachedCause old new lba n bytes writes.Off = CacheWasOff old new
CachedCause old new lba n bytes out = CachedCauseOf (dropped old) new lba n bytes out

-- The cause of each answer of a write.
abbrev pub CacheWriteCause : CacheShown → CacheShown → (lba n : ℕ) → List ℕ → WriteOut → Type 0
CacheWriteCause old new lba n bytes out = MatchBool (goes_into_cache old lba n)
    (CachedCause old new lba n bytes out) (ThroughCause old new lba n out)

-- The cause of each answer of the turning on of the power. Nothing stays pending.
abbrev pub CachePowerCause : CacheShown → CacheShown → PowerOut → Type 0
CachePowerCause old new out = PowerCause old.drive new.drive out × DropsCache old new

-- What a format leaves pending: nothing after one that was stopped, after a full one that is done, and where the disc is not
-- formatted afterwards.
abbrev pub leaves_after_full : Option Lists → FormatOut → List (ℕ × List ℕ) → List (ℕ × List ℕ)
leaves_after_full now formats.Good pending = []
leaves_after_full now formats.Cut pending = []
leaves_after_full now formats.Fault pending = []
leaves_after_full now formats.Off pending = pending
leaves_after_full None _ pending = []
leaves_after_full (Some lists) _ pending = pending

abbrev pub leaves_after_rewrite : FormatOut → List (ℕ × List ℕ) → List (ℕ × List ℕ)
leaves_after_rewrite formats.Cut pending = []
leaves_after_rewrite formats.Fault pending = []
leaves_after_rewrite _ pending = pending

abbrev pub leaves_after_format : Option Lists → Option Lists → Kind → FormatOut → List (ℕ × List ℕ) → List (ℕ × List ℕ)
leaves_after_format was now (kinds.Full drop_sdl) out pending = leaves_after_full now out pending
leaves_after_format None now kinds.Rewrite out pending = leaves_after_full now out pending
leaves_after_format (Some lists) now kinds.Rewrite out pending = leaves_after_rewrite out pending

-- The cause of each answer of a format.
abbrev pub CacheFormatCause : CacheShown → CacheShown → Kind → FormatOut → Type 0
CacheFormatCause old new kind out = FormatCause old.drive new.drive kind out
    × (new.pending ≡ leaves_after_format old.drive.lists new.drive.lists kind out old.pending)
    × (new.caches ≡ old.caches)

-- what an expansion leaves pending: the blocks that the disc still has
abbrev pub leaves_after_expansion : CacheShown → ExpandOut → List (ℕ × List ℕ) → List (ℕ × List ℕ)
leaves_after_expansion new expands.Good pending = pending_below (block_count new.drive) pending
leaves_after_expansion new expands.Cut pending = []
leaves_after_expansion new expands.Fault pending = []
leaves_after_expansion new _ pending = pending

-- The cause of each answer of an expansion.
abbrev pub CacheExpandCause : CacheShown → CacheShown → ℕ → ExpandOut → Type 0
CacheExpandCause old new sectors out = ExpandCause old.drive new.drive sectors out
    × (new.pending ≡ leaves_after_expansion new out old.pending) × (new.caches ≡ old.caches)

-- the write of a pending block that is told so
abbrev pub as_write : SyncOut → WriteOut
as_write syncs.Good = writes.Good
as_write syncs.NotFormatted = writes.NotFormatted
as_write (syncs.NoSpare lba) = writes.NoSpare lba
as_write (syncs.NoUpdate counter) = writes.NoUpdate counter
as_write syncs.Cut = writes.Cut
as_write syncs.Off = writes.Off
as_write syncs.Fault = writes.Fault

-- all pending blocks were drained, oldest first, and it ended so
pub record DrainsAll (old new : CacheShown) (out : WriteOut) : Type 0 where
  pub on : IsOn old.drive
  pub formatted : IsFormatted old.drive
  pub drained : DrainCause old new (pending_in old) (length (pending_in old)) out

-- The cause of each answer of a synchronisation.
abbrev pub SyncCause : CacheShown → CacheShown → SyncOut → Type 0
SyncCause old new syncs.NotFormatted = CacheUnformatted old new
SyncCause old new syncs.Off = CacheWasOff old new
SyncCause old new out = DrainsAll (dropped old) new (as_write out)

-- Nothing is pending.
pub record IsIdle (old new : CacheShown) : Type 0 where
  pub on : IsOn old.drive
  pub none : old.pending ≡ []
  pub nothing : new ≡ old

-- The oldest pending block was tried, and that ended so.
pub record TriesOldest (old new : CacheShown) (out : WriteOut) : Type 0 where
  pub on : IsOn old.drive
  pub block : ℕ
  pub rest : List ℕ
  pub oldest : pending_in old ≡ block ∷ rest
  pub drained : DrainCause old new (block ∷ []) 1 out

-- The cause of each answer of a tick.
abbrev pub TickCauseOf : CacheShown → CacheShown → TickOut → Type 0
TickCauseOf old new ticks.Idle = IsIdle old new
TickCauseOf old new (ticks.Written lba) = (tries : TriesOldest old new writes.Good) × (lba ≡ 16 * tries.block)
TickCauseOf old new (ticks.NoSpare lba) = TriesOldest old new (writes.NoSpare lba)
TickCauseOf old new (ticks.NoUpdate counter) = TriesOldest old new (writes.NoUpdate counter)
TickCauseOf old new ticks.Cut = TriesOldest old new writes.Cut
TickCauseOf old new ticks.Off = ⊥
TickCauseOf old new ticks.Fault = TriesOldest old new writes.Fault

abbrev pub TickCause : CacheShown → CacheShown → TickOut → Type 0
TickCause old new ticks.Off = CacheWasOff old new
TickCause old new out = TickCauseOf (dropped old) new out
