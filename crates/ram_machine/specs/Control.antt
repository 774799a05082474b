-- What a failure of a block leaves of what a drive stands for, and the wait until all lasts of a drive and of the disc in it. For the
-- trait of drives, the line that makes a block fail, and who tells a client that its bytes last. (This project's own, as all here.)
use Rattle.std.specs.Prelude.{◌≡◌, ℕ}
use Rattle.model_counts.specs.Counts.{Rose}
use Rattle.model_cache.specs.Values.{Contents, MayHave, candidates_of}
use Rattle.model_cache.specs.Shown.{CacheShown}
use Rattle.model_cache.specs.Causes.{KeepsCache}
use Rattle.ram_medium.specs.declared.control.FailEnd.{FailEnd}
use Rattle.ram_medium.specs.declared.control.FailEnd.TheVariants as fails
use Rattle.ram_medium.specs.declared.control.SyncEnd.{SyncEnd}
use Rattle.ram_medium.specs.declared.control.SyncEnd.TheVariants as syncs
use Rattle.ram_states.specs.Control.{SyncOnDrive}
use Rattle.ram_machine.specs.States.{State, Served, Disc}

-- what a drive stands for after a block was made dead: the same, but with the power off where it went off
abbrev pub contents_after_fail : Contents → FailEnd → Contents
contents_after_fail contents fails.Done = contents
contents_after_fail contents (fails.NoBlock blocks) = contents
contents_after_fail contents fails.Failed = MayHave (candidates_of contents)

-- What the wait until all lasts does to a drive, by its answer: nothing; or what it does to any, and the cache stays.
abbrev pub SyncOnCached : CacheShown → CacheShown → SyncEnd → Type 0
SyncOnCached old new syncs.Done = new ≡ old
SyncOnCached old new syncs.Failed = SyncOnDrive old.drive new.drive syncs.Failed × KeepsCache old new

-- what a drive stands for after it: the same, but with the power off where it went off
abbrev pub contents_after_sync : Contents → SyncEnd → Contents
contents_after_sync contents syncs.Done = contents
contents_after_sync contents syncs.Failed = MayHave (candidates_of contents)

-- The image failed as all was to last: the power of the drive is off, and what it stood for is a candidate. No byte of the image
-- changed, and the cache, the host and the scrubber are as before.
pub record FailsToLast (s t : Served) : Type 0 where
  pub drive : SyncOnCached s.disc.shown t.disc.shown syncs.Failed
  pub contents_are : t.disc.contents ≡ contents_after_sync s.disc.contents syncs.Failed
  pub same_host : t.host ≡ s.host
  pub same_scrub : t.scrub ≡ s.scrub
  pub same_bytes : t.bytes ≡ s.bytes

-- What the wait until all lasts makes of what lies in the drive, by its answer. Without a disc nothing was written, and nothing fails.
abbrev pub SyncStep : State → SyncEnd → State → Type 0
SyncStep s syncs.Done t = t ≡ s
SyncStep (Disc s) syncs.Failed (Disc t) = FailsToLast s t
SyncStep _ syncs.Failed _ = ⊥

-- From s it ended so, and what lies in the drive then is told by `after`.
pub record IsSynced (s : State) (after : State → Type 0) (end : SyncEnd) : Type 0 where
  pub state : State
  pub step : SyncStep s end state
  pub stands : after state

-- the image's count, by its answer: it rose exactly where the image failed
abbrev pub SyncCount : ℕ → ℕ → SyncEnd → Type 0
SyncCount faults faults' syncs.Done = faults' ≡ faults
SyncCount faults faults' syncs.Failed = Rose faults faults'
