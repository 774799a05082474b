-- What a call of a drive with a write cache keeps of its medium and counts on it, and when one that flushes is sure to end well. For
-- laws. (This project's own, as all here.)
use Rattle.std.specs.Prelude.{◌≡◌, ◌≢◌, ℕ, List}
use Rattle.std.specs.List.{Contains}
use Rattle.model_counts.specs.Counts.{Rose}
use Rattle.model_medium.specs.Cells.{Dead, cell_at}
use Rattle.model_drive.specs.Shown.{Shown, IsOn, IsFormatted, IsKnown, cells_in, home_cell}
use Rattle.model_drive.specs.Sound.{IsSound}
use Rattle.model_drive.specs.Parts.{NoneCounted}
use Rattle.model_drive.specs.Faults.{faults}
use Rattle.model_cache.specs.declared.SyncOut.{SyncOut}
use Rattle.model_cache.specs.declared.SyncOut.TheVariants as syncs
use Rattle.model_cache.specs.declared.TickOut.{TickOut}
use Rattle.model_cache.specs.declared.TickOut.TheVariants as ticks

-- the label of the medium, whether its cells are known, and the geometry of the disc are as before
pub record KeepsMedium (old new : Shown) : Type 0 where
  pub same_label : new.medium.world.label ≡ old.medium.world.label
  pub as_known : new.medium.world.known ≡ old.medium.world.known
  pub same_shape : new.shape ≡ old.shape

-- what a synchronisation leaves of the count of faults of what the medium lies on
abbrev pub SyncFaults : Shown → Shown → SyncOut → Type 0
SyncFaults old new syncs.Fault = Rose (faults old) (faults new)
SyncFaults old new _ = faults new ≡ faults old

-- what a tick leaves of it
abbrev pub TickFaults : Shown → Shown → TickOut → Type 0
TickFaults old new ticks.Fault = Rose (faults old) (faults new)
TickFaults old new _ = faults new ≡ faults old

-- The power is on, the disc is formatted and sound, and its cells are known; of these blocks no home was dead, no cell died in the
-- call, and neither a cut nor a fault was counted.
pub record FlushesSafely (old new : Shown) (due : List ℕ) : Type 0 where
  pub on : IsOn old
  pub formatted : IsFormatted old
  pub sound : IsSound old
  pub known : IsKnown old
  pub none_counted : NoneCounted old new
  pub none_dead : (i : ℕ) → Contains due i → home_cell old i ≢ Dead
  pub none_dies : (block : ℕ) → cell_at (cells_in new) block ≡ Dead → cell_at (cells_in old) block ≡ Dead
