-- The write of pending blocks to the disc, step by step: for the code of a drive with a write cache. (This project's own.)
use Rattle.std.specs.Prelude.{◌≡◌, ℕ, zero, suc, ◌+◌, ◌*◌, ◌<◌, ◌≤◌, Bool, Option, Some, None, List, [], ◌∷◌, ◌++◌, length}
use Rattle.std.specs.List.{All, remove}
use Rattle.model_sectors.specs.declared.TheConstants.{MOST_SECTORS}
use Rattle.model_drive.specs.declared.WriteOut.{WriteOut}
use Rattle.model_drive.specs.declared.WriteOut.TheVariants as writes
use Rattle.model_drive.specs.Shown.{IsOn, IsFormatted, block_count, capacity}
use Rattle.model_drive.specs.Writes.{WriteCause}
use Rattle.model_cache.specs.declared.SyncOut.{SyncOut}
use Rattle.model_cache.specs.declared.SyncOut.TheVariants as syncs
use Rattle.model_cache.specs.declared.TickOut.{TickOut}
use Rattle.model_cache.specs.declared.TickOut.TheVariants as ticks
use Rattle.model_cache.specs.Values.{Contents, Has, MayHave}
use Rattle.model_cache.specs.Shown.{CacheShown, dropped}
use Rattle.model_cache.specs.Chains.{LeavesSound}
use Rattle.model_cache.specs.Drains.{Tries, StopsTrying}
use Rattle.ram_cache.specs.Rooms.{pending_at, due_in}
use Rattle.ram_cache.specs.declared.flushing.Entered.{Entered}
use Rattle.ram_cache.specs.declared.flushing.Entered.TheVariants as entered

-- The power is on, the disc is formatted, and it has each pending block.
pub record CanFlush (shown : CacheShown) : Type 0 where
  pub on : IsOn shown.drive
  pub formatted : IsFormatted shown.drive
  pub inside : All (λ (held : ℕ × List ℕ). held.0 < block_count shown.drive) shown.pending

-- The disc is formatted, has n sectors, and has all pending blocks.
pub record IsReady (shown : CacheShown) (sectors : ℕ) : Type 0 where
  pub can : CanFlush shown
  pub sectors_are : sectors ≡ capacity shown.drive
  pub most : sectors ≤ MOST_SECTORS

-- how a call begins, by what it finds of the disc
abbrev pub EnterRule : CacheShown → CacheShown → Entered → Type 0
EnterRule old new entered.Off = ¬ IsOn old.drive × (new ≡ old)
EnterRule old new entered.NotFormatted = IsOn old.drive × ¬ IsFormatted old.drive × (new ≡ dropped old)
    × (new.pending ≡ [])
EnterRule old new (entered.Formatted sectors) = IsReady new sectors × (new ≡ dropped old)

-- what is pending after the write of the block at this index: a refused one stands behind the others
abbrev pub left_at : WriteOut → ℕ → List (ℕ × List ℕ) → List (ℕ × List ℕ)
left_at writes.Good k pending = remove pending k
left_at writes.Cut k pending = []
left_at writes.Fault k pending = []
left_at _ k pending = remove pending k ++ pending_at pending k ∷ []

-- The pending block at this index was written to the disc, and it went so.
abbrev pub FlushesAt : CacheShown → CacheShown → ℕ → WriteOut → Type 0
FlushesAt old new k out = (WriteCause old.drive new.drive (16 * (pending_at old.pending k).0) 16 out
    × LeavesSound old.drive new.drive)
    × (new.pending ≡ left_at out k old.pending) × (new.caches ≡ old.caches)

-- What the write of pending blocks makes of what the drive stands for: it shows the same.
abbrev pub FlushContents : (Contents → Type 0) → Contents → WriteOut → Type 0
FlushContents after (Has v) writes.Good = after (Has v)
FlushContents after (Has v) (writes.NoSpare named) = after (Has v)
FlushContents after (Has v) (writes.NoUpdate counter) = after (Has v)
FlushContents after (Has v) writes.Cut = after (MayHave (v ∷ v ∷ []))
FlushContents after (Has v) writes.Fault = after (MayHave (v ∷ v ∷ []))
FlushContents after (Has v) _ = ⊥
FlushContents after (MayHave all) _ = ⊥

-- the numbers of the pending blocks that are among n from this one on, or of those that are not
abbrev pub due_of : (among : Bool) → (first count : ℕ) → CacheShown → List ℕ
due_of among first count shown = due_in among first count shown.pending

-- The pending blocks that are due were tried in turn until enough had left, or all were tried, and `missing` more should have left; as
-- many of them are pending now as did not leave.
pub record DrainedDue (old new : CacheShown) (among : Bool) (first count enough missing : ℕ) (told : Option WriteOut) : Type 0 where
  pub tried : Tries old (due_of among first count old) enough new missing told
  pub left : length (due_of among first count new) + enough ≡ length (due_of among first count old) + missing
  pub can : CanFlush new
  pub same_count : block_count new.drive ≡ block_count old.drive
  pub same_mode : new.caches ≡ old.caches

-- some are missing
pub record LacksSome (old new : CacheShown) (among : Bool) (first count enough : ℕ) (out : WriteOut) : Type 0 where
  pub missing : ℕ
  pub drained : DrainedDue old new among first count enough (suc missing) (Some out)

-- What became of the pending blocks that are due, of which `enough` are to leave.
abbrev pub DrainsDue : CacheShown → CacheShown → (among : Bool) → (first count enough : ℕ) → WriteOut → Type 0
DrainsDue old new among first count enough writes.Good = (told : Option WriteOut)
    × DrainedDue old new among first count enough 0 told
DrainsDue old new among first count enough (writes.NoSpare named) =
    LacksSome old new among first count enough (writes.NoSpare named)
DrainsDue old new among first count enough (writes.NoUpdate counter) =
    LacksSome old new among first count enough (writes.NoUpdate counter)
DrainsDue old new among first count enough writes.Cut =
    StopsTrying old new (due_of among first count old) enough writes.Cut
DrainsDue old new among first count enough writes.Fault =
    StopsTrying old new (due_of among first count old) enough writes.Fault
DrainsDue old new among first count enough _ = ⊥

-- the first of the refusals that were met
abbrev pub first_told : Option WriteOut → WriteOut → WriteOut
first_told None out = out
first_told (Some told) out = told

-- how a drain ends that is `missing` blocks short
abbrev pub drain_out : (missing : ℕ) → Option WriteOut → WriteOut
drain_out zero told = writes.Good
drain_out (suc missing) None = writes.Good
drain_out (suc missing) (Some told) = told

-- what a drain is told as
abbrev pub sync_out : WriteOut → SyncOut
sync_out writes.Good = syncs.Good
sync_out writes.NotFormatted = syncs.NotFormatted
sync_out (writes.NoSpare lba) = syncs.NoSpare lba
sync_out (writes.NoUpdate counter) = syncs.NoUpdate counter
sync_out writes.Cut = syncs.Cut
sync_out writes.Fault = syncs.Fault
sync_out _ = syncs.Off

-- how the end of the write of the oldest pending block is told of a tick
abbrev pub tick_out : WriteOut → ℕ → TickOut
tick_out writes.Good lba = ticks.Written lba
tick_out (writes.NoSpare named) lba = ticks.NoSpare named
tick_out (writes.NoUpdate counter) lba = ticks.NoUpdate counter
tick_out writes.Cut lba = ticks.Cut
tick_out writes.Fault lba = ticks.Fault
tick_out _ lba = ticks.Off
