-- What is done to a drive's medium beside its host's calls: for `fail`, `wear`, `arm_cut` and `sync`. (This project's own, as all
-- here.)
use Rattle.std.specs.Prelude.{◌≡◌, ℕ, None, []}
use Rattle.model_geometry.specs.Geometry.{total}
use Rattle.model_sectors.specs.Discs.{Standing, Off, candidates}
use Rattle.model_drive.specs.Shown.{Shown, StandsFor}
use Rattle.ram_medium.specs.Control.{FailRule, FailsInSync}
use Rattle.ram_medium.specs.declared.control.FailEnd.{FailEnd}
use Rattle.ram_medium.specs.declared.control.FailEnd.TheVariants as fails
use Rattle.ram_medium.specs.declared.control.SyncEnd.{SyncEnd}
use Rattle.ram_medium.specs.declared.control.SyncEnd.TheVariants as syncs

-- all that a drive shows beside its medium is as before
pub record KeepsMemory (old new : Shown) : Type 0 where
  pub same_shape : new.shape ≡ old.shape
  pub same_lists : new.lists ≡ old.lists
  pub same_mark : new.mark ≡ old.mark
  pub same_buffer : new.buffer ≡ old.buffer

-- nothing is kept in memory but the geometry
pub record LosesMemory (old new : Shown) : Type 0 where
  pub same_shape : new.shape ≡ old.shape
  pub no_lists : new.lists ≡ None
  pub no_mark : new.mark ≡ 0
  pub no_buffer : new.buffer ≡ []

-- What the failure of a block does to a drive, by its answer. It does to the medium what it does to any. What is kept in
-- memory stays; but where what the medium lies on failed, by which the power goes off, nothing is kept.
abbrev pub FailOnDrive : Shown → Shown → ℕ → FailEnd → Type 0
FailOnDrive old new block fails.Done =
    FailRule (total old.shape) old.medium new.medium block fails.Done × KeepsMemory old new
FailOnDrive old new block (fails.NoBlock blocks) =
    FailRule (total old.shape) old.medium new.medium block (fails.NoBlock blocks) × KeepsMemory old new
FailOnDrive old new block fails.Failed =
    FailRule (total old.shape) old.medium new.medium block fails.Failed × LosesMemory old new

-- What the drive stands for after that: the same, and where the power went off the same as its candidates.
abbrev pub FailStands : Shown → Standing → FailEnd → Type 0
FailStands new s fails.Done = StandsFor new s
FailStands new s (fails.NoBlock blocks) = StandsFor new s
FailStands new s fails.Failed = StandsFor new (Off (candidates s))

-- What the wait until all lasts does to a drive, by its answer: nothing; but where what the medium lies on failed, it does to the
-- medium what it does to any, the power is off, and nothing is kept.
abbrev pub SyncOnDrive : Shown → Shown → SyncEnd → Type 0
SyncOnDrive old new syncs.Done = new ≡ old
SyncOnDrive old new syncs.Failed = FailsInSync old.medium new.medium × LosesMemory old new

-- What the drive stands for after that: the same, and where the power went off the same as its candidates.
abbrev pub SyncStands : Shown → Standing → SyncEnd → Type 0
SyncStands new s syncs.Done = StandsFor new s
SyncStands new s syncs.Failed = StandsFor new (Off (candidates s))
