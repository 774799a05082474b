-- How a use of a medium over an image begins and goes on: for the private calls of `ImageMedium`.
use Rattle.std.specs.Prelude.{◌≡◌, ◌≢◌, ℕ, ◌<◌, ◌≤◌, Bool, Option, false, IsTrue, Some, None, is_some, List, []}
use Rattle.std.specs.Bool.{OnTrue}
use Rattle.model_counts.specs.Counts.{Rose}
use Rattle.model_geometry.specs.Geometry.{Shape, label_of, total}
use Rattle.model_medium.specs.Cells.{Good, Dead, IsGood, cell_at, IsSameOrDead, MayLeave, cut_short}
use Rattle.model_medium.specs.declared.Fate.{Fate}
use Rattle.model_medium.specs.declared.ReadEnd.{ReadEnd}
use Rattle.model_medium.specs.declared.ReadEnd.TheVariants as reads
use Rattle.model_medium.specs.declared.WriteEnd.{WriteEnd}
use Rattle.model_medium.specs.declared.WriteEnd.TheVariants as writes
use Rattle.model_medium.specs.World.{IsUse, HasFailed}
use Rattle.model_medium.specs.Machine.{Machine, fate_due, begun, cut_off, with_cell}
use Rattle.model_medium.specs.Exact.{HasCountedDown}
use Rattle.model_bytes.specs.Known.{WhereKnown}
use Rattle.model_image.specs.Cells.{cells_known}
use Rattle.model_image.specs.Writes.{bytes_left, StopsInBytes}
use Rattle.ram_outside.specs.declared.image.Image.{Ghosts}
use Rattle.ram_outside.specs.declared.image.Moved.{Moved}
use Rattle.ram_outside.specs.declared.image.Moved.TheVariants as moves
use Rattle.ram_image.specs.EventBytes.{WearsBytes, MayWearBytes}
use Rattle.ram_image.specs.Medium.{shape_of_medium, machine_in}
use Rattle.ram_image.specs.declared.medium.ImageMedium.{ImageMedium}
use Rattle.ram_image.specs.declared.medium.Begun.{Begun}
use Rattle.ram_image.specs.declared.medium.Begun.TheVariants as begins
use Rattle.ram_image.specs.declared.medium.Looked.{Looked}
use Rattle.ram_image.specs.declared.medium.Looked.TheVariants as looks
use Rattle.ram_image.specs.declared.cells.StateRead.{StateRead}
use Rattle.ram_image.specs.declared.cells.StateRead.TheVariants as states

-- A medium just opened over this image: its cells, with the power off, nothing counted and nothing armed. (This
-- project's own.)
pub record IsNew {I : Type 0} {d : Ghosts I} (image : I) (shape : Shape) (medium : ImageMedium I d) : Type 0 where
  pub shape_is : shape_of_medium medium ≡ shape
  pub image_is : medium.image ≡ image
  pub machine : machine_in medium ≡ record {
    world = record {
      label = label_of shape;
      known = is_some (d.bytes image);
      cells = cells_known (total shape) (d.bytes image);
      power = false;
      uses = 0;
      cuts = 0;
      faults = d.faults image;
    };
    arms = [];
    cut = None;
  }

-- the image failed as an arm killed the block: the use is counted, and the block is as it was or dead
pub record BeginFails (old new : Machine) (block : ℕ) : Type 0 where
  pub one : IsUse old.world new.world block
  pub failed : HasFailed old.world new.world
  pub left : IsSameOrDead (cell_at old.world.cells block) (cell_at new.world.cells block)
  pub counted : HasCountedDown old new block

-- How a use of a block begins, with the power on. (This project's own.)
abbrev pub ImageBeginRule : Machine → Machine → ℕ → Begun → Type 0
ImageBeginRule old new block begins.On = (fate_due old.cut ≡ None) × (new ≡ begun block old)
ImageBeginRule old new block (begins.Cut fate) = (fate_due old.cut ≡ Some fate) × (new ≡ begun block old)
ImageBeginRule old new block begins.Failed = BeginFails old new block

-- the image failed in a use that had begun: it is counted, the power is off, and all else is as it was but for the
-- block's cell, of which a dead one stays dead
pub record FailsWithin (old new : Machine) (block : ℕ) : Type 0 where
  pub turns_off : ¬ IsTrue new.world.power
  pub fault : Rose old.world.faults new.world.faults
  pub same_label : new.world.label ≡ old.world.label
  pub as_known : new.world.known ≡ old.world.known
  pub uses_same : new.world.uses ≡ old.world.uses
  pub cuts_same : new.world.cuts ≡ old.world.cuts
  pub arms_same : new.arms ≡ old.arms
  pub cut_same : new.cut ≡ old.cut
  pub others : (other : ℕ) → other ≢ block → cell_at new.world.cells other ≡ cell_at old.world.cells other
  pub stays_dead : cell_at old.world.cells block ≡ Dead → cell_at new.world.cells block ≡ Dead

-- What a look at the state byte of a block does in a use that had begun, by what it finds: nothing changes but that the
-- block is one of those that are known to be good. (This project's own.)
abbrev pub LookRule : Machine → Machine → (block from to : ℕ) → Looked → Type 0
LookRule old new block from to looks.Good = (new ≡ old) × (from ≤ block) × (block < to)
LookRule old new block from to looks.NotGood = (new ≡ old) × (¬ IsGood (cell_at new.world.cells block))
LookRule old new block from to looks.Failed =
    FailsWithin old new block × (cell_at new.world.cells block ≡ cell_at old.world.cells block)

-- What a look at a block tells by its state byte alone, whether the power is on or not: whether it has whole bytes. Nothing
-- changes but where the image failed. (This project's own.)
abbrev pub HasBytesRule : Machine → Machine → (block : ℕ) → Looked → Type 0
HasBytesRule old new block looks.Good = (new ≡ old) × OnTrue new.world.known (IsGood (cell_at new.world.cells block))
HasBytesRule old new block looks.NotGood = (new ≡ old) × (¬ IsGood (cell_at new.world.cells block))
HasBytesRule old new block looks.Failed =
    FailsWithin old new block × (cell_at new.world.cells block ≡ cell_at old.world.cells block)

-- The same: whether it is dead. (This project's own.)
abbrev pub IsDeadRule : Machine → Machine → (block : ℕ) → StateRead → Type 0
IsDeadRule old new block states.Dead = (new ≡ old) × (cell_at new.world.cells block ≡ Dead)
IsDeadRule old new block states.Alive = (new ≡ old) × OnTrue new.world.known (cell_at new.world.cells block ≢ Dead)
IsDeadRule old new block states.Failed =
    FailsWithin old new block × (cell_at new.world.cells block ≡ cell_at old.world.cells block)

-- What a read does in a use that had begun and goes on, by its answer. (This project's own.)
abbrev pub ReadOnRule : Machine → Machine → ℕ → List ℕ → List ℕ → ReadEnd → Type 0
ReadOnRule old new block into into' reads.Done =
    (new ≡ old) × OnTrue old.world.known (cell_at new.world.cells block ≡ Good into')
ReadOnRule old new block into into' reads.Unreadable =
    (new ≡ old) × (¬ IsGood (cell_at new.world.cells block)) × (into' ≡ into)
ReadOnRule old new block into into' reads.Cut = ⊥
ReadOnRule old new block into into' reads.Off = ⊥
ReadOnRule old new block into into' reads.Failed =
    FailsWithin old new block
    × (cell_at new.world.cells block ≡ cell_at old.world.cells block)
    × (into' ≡ into)

-- What a write of these bytes with this fate makes of the block in a use that had begun, by its answer. (This
-- project's own.)
abbrev pub LeaveRule : Machine → Machine → ℕ → List ℕ → Fate → Moved → Type 0
LeaveRule old new block bytes fate moves.Done = (new ≡ with_cell block (cut_short fate bytes) old)
LeaveRule old new block bytes fate moves.Failed =
    FailsWithin old new block × MayLeave (cell_at old.world.cells block) bytes (cell_at new.world.cells block)

-- What such a write does where the power is cut in it, by its answer. (This project's own.)
abbrev pub WriteCutRule : Machine → Machine → ℕ → List ℕ → Fate → WriteEnd → Type 0
WriteCutRule old new block bytes fate writes.Done = ⊥
WriteCutRule old new block bytes fate writes.Cut = (new ≡ cut_off (with_cell block (cut_short fate bytes) old))
WriteCutRule old new block bytes fate writes.Off = ⊥
WriteCutRule old new block bytes fate writes.Failed =
    FailsWithin old new block × MayLeave (cell_at old.world.cells block) bytes (cell_at new.world.cells block)

-- Which bytes the beginning of a use changes, by its answer, where `dies` says whether an arm of the block runs out.
abbrev pub BeginBytes : Bool → ℕ → Option (List ℕ) → Option (List ℕ) → Begun → Type 0
BeginBytes dies block before after begins.On = WhereKnown before after (WearsBytes dies block)
BeginBytes dies block before after (begins.Cut fate) = WhereKnown before after (WearsBytes dies block)
BeginBytes dies block before after begins.Failed = WhereKnown before after (MayWearBytes dies block)

-- Which bytes a write with this fate changes in a use that had begun, by its answer.
abbrev pub LeaveBytes : ℕ → ℕ → List ℕ → Fate → Option (List ℕ) → Option (List ℕ) → Moved → Type 0
LeaveBytes total block bytes fate before after moves.Done =
    WhereKnown before after (λ held held'. held' ≡ bytes_left fate total block bytes held)
LeaveBytes total block bytes fate before after moves.Failed = WhereKnown before after (StopsInBytes total block bytes)

-- The same where the power is cut in it.
abbrev pub WriteCutBytes : ℕ → ℕ → List ℕ → Fate → Option (List ℕ) → Option (List ℕ) → WriteEnd → Type 0
WriteCutBytes total block bytes fate before after writes.Done = Unit {0}
WriteCutBytes total block bytes fate before after writes.Cut =
    WhereKnown before after (λ held held'. held' ≡ bytes_left fate total block bytes held)
WriteCutBytes total block bytes fate before after writes.Off = Unit {0}
WriteCutBytes total block bytes fate before after writes.Failed = WhereKnown before after (StopsInBytes total block bytes)
