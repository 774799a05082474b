-- Steps that update no list, and what they leave: for `quiet`. (This project's own, as all here.)
use Rattle.std.specs.Prelude.{◌≡◌, ℕ, zero, suc, ◌<◌, ◌≤◌, true, false, Option, List, length, slice_index_or}
use Rattle.std.specs.List.{Contains}
use Rattle.model_geometry.specs.Geometry.{Shape, total, data_blocks}
use Rattle.model_medium.specs.Cells.{Cell}
use Rattle.model_medium.specs.World.{World, Span, ReadRule, WriteRule}
use Rattle.model_medium.specs.Machine.{Machine}
use Rattle.model_medium.specs.Exact.{Event, Read, Write, PowerOn, PowerOff}
use Rattle.model_medium.specs.declared.ReadEnd.{ReadEnd}
use Rattle.model_medium.specs.declared.WriteEnd.{WriteEnd}
use Rattle.model_medium.specs.declared.WornBlock.{WornBlock}
use Rattle.model_medium.specs.declared.ArmedCut.{ArmedCut}
use Rattle.model_places.specs.Places.{Lists}
use Rattle.model_volume.specs.Given.{IsGiven}
use Rattle.ram_medium.specs.Laws.{machine_shown}
use Rattle.ram_medium.specs.Control.{FailRule, WearRule, with_armed_cut}
use Rattle.ram_medium.specs.declared.control.FailEnd.{FailEnd}
use Rattle.ram_medium.specs.declared.control.Arm.{Arm}
use Rattle.ram_lists.specs.Mounts.{MountRule}
use Rattle.ram_lists.specs.declared.mounting.Mounted.{Mounted}
use Rattle.ram_lists.specs.declared.mounting.Mounted.TheVariants as mounts
use Rattle.ram_quiet.specs.declared.steps.Quiet.{Quiet}
use Rattle.ram_quiet.specs.declared.steps.Quiet.TheVariants as steps

-- a step may be made: a block that is read is on the medium, one that is written is a data block, and numbers of uses are some
abbrev pub IsLawfulStep : Shape → Quiet → Type 0
IsLawfulStep shape (steps.Read block) = block < total shape
IsLawfulStep shape (steps.Write block) = Contains (data_blocks shape) block
IsLawfulStep shape steps.Mount = Unit {0}
IsLawfulStep shape (steps.Fail block) = Unit {0}
IsLawfulStep shape (steps.Wear block n) = 1 ≤ n
IsLawfulStep shape (steps.Cut n fate) = 1 ≤ n

-- the cells give these lists alone, or none
abbrev pub GivesAlone : Shape → List Cell → Lists → Type 0
GivesAlone shape cells lists = (other : Lists) → IsGiven shape cells other → other ≡ lists

-- a mount that found lists found these, where cells are known
abbrev pub TellsAlone : World → (lists found : Lists) → Mounted → Type 0
TellsAlone world lists found mounts.Lists = world.known ≡ true → found ≡ lists
TellsAlone world lists found _ = Unit {0}

-- the step at this place
abbrev pub step_at : List Quiet → ℕ → Quiet
step_at all k = slice_index_or all k (steps.Read 0)

module _ {M : Type 0} (world : M → World) (reaches : M → M → Span → Type 0) (takes : M → M → Event → Type 0) where
  -- the power went off and on again, and the disc was mounted
  pub record MountsAgain (shape : Shape) (old new : M) (found : Lists) (end : Mounted) : Type 0 where
    pub off : M
    pub turns_off : world off ≡ record (world old) { power = false }
    pub off_event : takes old off PowerOff
    pub on : M
    pub turns_on : world on ≡ record (world off) { power = true }
    pub on_event : takes off on PowerOn
    pub rule : MountRule world reaches shape on new found end

  -- a block was read, or written
  pub record ReadsBlock (old new : M) (block : ℕ) (room room' : List ℕ) : Type 0 where
    pub end : ReadEnd
    pub rule : ReadRule (world old) (world new) block room room' end
    pub event : takes old new (Read block room room' end)

  pub record WritesBlock (old new : M) (block : ℕ) (room : List ℕ) : Type 0 where
    pub end : WriteEnd
    pub rule : WriteRule (world old) (world new) block room end
    pub event : takes old new (Write block room end)

  module _ (arms : M → List WornBlock) (armed_cut : M → Option ArmedCut) (shape : Shape) where
    abbrev pub machine : M → Machine
    machine m = machine_shown world arms armed_cut m

    -- What a step does, by the call that it names: the medium and the room before and after.
    abbrev pub StepRule : M → List ℕ → Quiet → M → List ℕ → Type 0
    StepRule old room (steps.Read block) new room' = ReadsBlock old new block room room'
    StepRule old room (steps.Write block) new room' = WritesBlock old new block room × (room' ≡ room)
    StepRule old room steps.Mount new room' =
        ((found : Lists) × (end : Mounted) × MountsAgain shape old new found end) × (room' ≡ room)
    StepRule old room (steps.Fail block) new room' =
        ((end : FailEnd) × FailRule (total shape) (machine old) (machine new) block end) × (room' ≡ room)
    StepRule old room (steps.Wear block n) new room' =
        ((end : Arm) × WearRule (total shape) (machine old) (machine new) (record { block = block; left = n }) end) × (room' ≡ room)
    StepRule old room (steps.Cut n fate) new room' = (machine new ≡ with_armed_cut n fate (machine old))
        × (room' ≡ room)

    -- After n of the steps: the last of them leads here from where the ones before it have led.
    abbrev pub Follows : List Quiet → ℕ → M → List ℕ → M → List ℕ → Type 0
    Follows all zero start room now room' = (now ≡ start) × (room' ≡ room)
    Follows all (suc k) start room now room' = (before : M) × (room_before : List ℕ)
        × Follows all k start room before room_before × StepRule before room_before (step_at all k) now room'

    -- All steps were made, and then a mount.
    pub record FollowsAll (all : List Quiet) (start : M) (room : List ℕ) (now : M) (room' : List ℕ)
        (found : Lists) (end : Mounted) : Type 0 where
      pub before : M
      pub steps_lead : Follows all (length all) start room before room'
      pub mounts : MountsAgain shape before now found end
