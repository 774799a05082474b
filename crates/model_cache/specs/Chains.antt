-- The calls that a drive with a write cache makes on its disc, one after another. For the causes of its calls. (This project's
-- own, as all here.)
use Rattle.std.specs.Prelude.{◌≡◌, ℕ, ◌*◌, List, []}
use Rattle.std.specs.List.{Contains}
use Rattle.model_sectors.specs.declared.ReadOut.{ReadOut}
use Rattle.model_drive.specs.declared.WriteOut.{WriteOut}
use Rattle.model_drive.specs.declared.WriteOut.TheVariants as writes
use Rattle.model_drive.specs.Shown.{Shown}
use Rattle.model_drive.specs.Sound.{IsSound}
use Rattle.model_drive.specs.Reads.{ReadCause, ReadIsQuiet}
use Rattle.model_drive.specs.Writes.{WriteCause}
use Rattle.model_cache.specs.Shown.{CacheShown, pending_but}

-- A call of the disc left its geometry as it was, and what the disc shows is sound.
pub record LeavesSound (old new : Shown) : Type 0 where
  pub same_shape : new.shape ≡ old.shape
  pub sound : IsSound new

-- The disc was read, and it went so; a read whose blocks were all buffered used none of the medium.
pub record ReadsDisc (old new : Shown) (lba n : ℕ) (out : ReadOut) : Type 0 where
  pub cause : ReadCause old new lba n out
  pub quiet : ReadIsQuiet old new lba n out
  pub leaves : LeavesSound old new

-- A pending block was written to the disc, whole, and it went so. The cache is as on as before.
pub record WritesBack (old new : CacheShown) (i : ℕ) (out : WriteOut) : Type 0 where
  pub bytes : List ℕ
  pub was_pending : Contains old.pending (i, bytes)
  pub wrote : WriteCause old.drive new.drive (16 * i) 16 out
  pub leaves : LeavesSound old.drive new.drive
  pub same_mode : new.caches ≡ old.caches

-- It was written, and is not pending any more.
pub record Flushes (old new : CacheShown) (i : ℕ) : Type 0 where
  pub back : WritesBack old new i writes.Good
  pub left : new.pending ≡ pending_but i old.pending

-- A write that was refused keeps the pending blocks, and one that was stopped drops them all.
abbrev pub leaves_pending : WriteOut → List (ℕ × List ℕ) → List (ℕ × List ℕ)
leaves_pending writes.Cut pending = []
leaves_pending writes.Fault pending = []
leaves_pending _ pending = pending
