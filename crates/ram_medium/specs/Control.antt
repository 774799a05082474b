-- What failing a block, wearing it, arming a cut and making all last do: for the trait `MediumControl`, and for the drives of a run.
use Rattle.std.specs.Prelude.{◌≡◌, ◌≢◌, ℕ, ◌<◌, ◌≤◌, IsTrue, Some, List, [], ◌∷◌, ◌++◌, length, set}
use Rattle.model_counts.specs.Counts.{Rose}
use Rattle.model_medium.specs.Cells.{Dead, cell_at, IsSameOrDead}
use Rattle.model_medium.specs.Machine.{Machine}
use Rattle.model_medium.specs.declared.WornBlock.{WornBlock}
use Rattle.model_medium.specs.declared.Fate.{Fate}
use Rattle.ram_medium.specs.declared.control.FailEnd.{FailEnd}
use Rattle.ram_medium.specs.declared.control.FailEnd.TheVariants as fails
use Rattle.ram_medium.specs.declared.control.SyncEnd.{SyncEnd}
use Rattle.ram_medium.specs.declared.control.SyncEnd.TheVariants as syncs
use Rattle.ram_medium.specs.declared.control.Arm.{Arm}
use Rattle.ram_medium.specs.declared.control.Arm.TheVariants as arming
use Rattle.ram_medium.specs.declared.countdown.TheConstants.{MOST_ARMS}

-- What is done to a controllable medium beside its uses, with its answer: a block fails, something is armed, or all that was
-- written is made to last. (This project's own.)
pub data Told : Type 0 where
  Fails : ℕ → FailEnd → Told
  Arms : Told
  Syncs : SyncEnd → Told

-- the medium with a dead block more
abbrev pub with_dead : ℕ → Machine → Machine
with_dead block machine = record machine { world = record machine.world { cells = set machine.world.cells block Dead } }

-- What the medium lies on failed while a block was made dead: it is counted, the power is off, the block's cell is as
-- it was or dead, and nothing else changed. (This project's own.)
pub record FailsInFail (old new : Machine) (block : ℕ) : Type 0 where
  pub turns_off : ¬ IsTrue new.world.power
  pub fault : Rose old.world.faults new.world.faults
  pub same_label : new.world.label ≡ old.world.label
  pub as_known : new.world.known ≡ old.world.known
  pub uses_same : new.world.uses ≡ old.world.uses
  pub cuts_same : new.world.cuts ≡ old.world.cuts
  pub others : (other : ℕ) → other ≢ block → cell_at new.world.cells other ≡ cell_at old.world.cells other
  pub left : IsSameOrDead (cell_at old.world.cells block) (cell_at new.world.cells block)
  pub arms_same : new.arms ≡ old.arms
  pub cut_same : new.cut ≡ old.cut

-- What the failure of a block does on a medium of n blocks, by its answer. (This project's own.)
abbrev pub FailRule : ℕ → Machine → Machine → ℕ → FailEnd → Type 0
FailRule total old new block fails.Done = (block < total) × (new ≡ with_dead block old)
FailRule total old new block (fails.NoBlock blocks) = (total ≤ block) × (blocks ≡ total) × (new ≡ old)
FailRule total old new block fails.Failed = (block < total) × FailsInFail old new block

-- What the medium lies on failed as all was to last: it is counted, the power is off, and nothing else changed. (This
-- project's own.)
pub record FailsInSync (old new : Machine) : Type 0 where
  pub turns_off : ¬ IsTrue new.world.power
  pub fault : Rose old.world.faults new.world.faults
  pub same_label : new.world.label ≡ old.world.label
  pub as_known : new.world.known ≡ old.world.known
  pub same_cells : new.world.cells ≡ old.world.cells
  pub uses_same : new.world.uses ≡ old.world.uses
  pub cuts_same : new.world.cuts ≡ old.world.cuts
  pub arms_same : new.arms ≡ old.arms
  pub cut_same : new.cut ≡ old.cut

-- What the wait until all lasts does to a medium, by its answer. (This project's own.)
abbrev pub SyncOnMedium : Machine → Machine → SyncEnd → Type 0
SyncOnMedium old new syncs.Done = new ≡ old
SyncOnMedium old new syncs.Failed = FailsInSync old new

-- the medium with one arm more, behind the others
abbrev pub with_arm : WornBlock → Machine → Machine
with_arm worn machine = record machine { arms = machine.arms ++ worn ∷ [] }

-- What the arming of a block does to the arms of a medium of n blocks, by its answer. (This project's own.)
abbrev pub ArmsRule : ℕ → List WornBlock → List WornBlock → WornBlock → Arm → Type 0
ArmsRule total old new worn arming.Set = (worn.block < total) × (length old < MOST_ARMS) × (new ≡ old ++ worn ∷ [])
ArmsRule total old new worn (arming.NoBlock blocks) = (total ≤ worn.block) × (blocks ≡ total) × (new ≡ old)
ArmsRule total old new worn arming.Full = (worn.block < total) × (length old ≡ MOST_ARMS) × (new ≡ old)

-- What it does to the whole medium. (This project's own.)
abbrev pub WearRule : ℕ → Machine → Machine → WornBlock → Arm → Type 0
WearRule total old new worn arming.Set = (worn.block < total) × (length old.arms < MOST_ARMS) × (new ≡ with_arm worn old)
WearRule total old new worn (arming.NoBlock blocks) = (total ≤ worn.block) × (blocks ≡ total) × (new ≡ old)
WearRule total old new worn arming.Full = (worn.block < total) × (length old.arms ≡ MOST_ARMS) × (new ≡ old)

-- the medium whose power is cut at the n-th use from now on, in place of any cut that was armed
abbrev pub with_armed_cut : ℕ → Fate → Machine → Machine
with_armed_cut n fate machine = record machine { cut = Some (record { left = n; fate = fate }) }
