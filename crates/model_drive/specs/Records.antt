-- What the reading and the writing of the record of the lead may do: why each answer comes, and what becomes of the record's copies.
-- The disc and its lists stay. (This project's own, as all here.)
use Rattle.std.specs.Prelude.{◌≡◌, ◌≢◌, ℕ, ◌+◌, ◌⊎◌, List, [], ◌∷◌}
use Rattle.model_geometry.specs.Geometry.{Shape, record_block}
use Rattle.model_lists.specs.Records.{LeadRecord, IsRecordText, first_record}
use Rattle.model_medium.specs.Cells.{Cell, Dead, cell_at}
use Rattle.model_sectors.specs.Discs.{Standing, On, Off}
use Rattle.model_stops.specs.declared.Stop.{Stop}
use Rattle.model_stops.specs.declared.Stop.TheVariants as stops
use Rattle.model_copies.specs.Copies.{IsArea, MayHold, Settled, IsChosen, NoneChosen, AllLost, IsSeen}
use Rattle.model_copies.specs.Stops.{StopsAt, SparesExact}
use Rattle.model_survival.specs.Losing.{LosesOneRecord}
use Rattle.model_drive.specs.declared.RecordOut.{RecordOut}
use Rattle.model_drive.specs.declared.RecordOut.TheVariants as outs
use Rattle.model_drive.specs.Shown.{Shown, WhenKnown, IsOn, cells_in}
use Rattle.model_drive.specs.Parts.{WasOff, EndsBy, IsStopped, KeepsLists, AreSameOrDead}
use Rattle.model_drive.specs.Repairs.{RepairsList, repair_uses}

-- the number of a record
abbrev pub generation_of : LeadRecord → ℕ
generation_of value = value.generation

-- The record that a disc has: of the copies that can be read the one with the greatest number, of equal ones that of the lowest
-- area; and where none can be read the first record.
abbrev pub IsRecordOf : Shape → List Cell → LeadRecord → Type 0
IsRecordOf shape cells value =
    ((area : ℕ) × IsChosen IsRecordText (record_block shape) cells generation_of (λ other. Unit {0}) value area)
    ⊎ (NoneChosen IsRecordText (record_block shape) cells (λ other. Unit {0}) × (value ≡ first_record))

-- each copy is exactly the text of this record, or dead
abbrev pub RecordIsExact : Shown → LeadRecord → Type 0
RecordIsExact shown value = Settled IsRecordText (record_block shown.shape) (cells_in shown) value

-- the four copies are dead
abbrev pub HasLostRecord : Shown → Type 0
HasLostRecord shown = AllLost (record_block shown.shape) (cells_in shown)

-- no cell changed but those of the record
abbrev pub OnlyRecord : Shown → Shown → Type 0
OnlyRecord old new = (block : ℕ) → ((area : ℕ) → IsArea area → block ≢ record_block old.shape area)
    → cell_at (cells_in new) block ≡ cell_at (cells_in old) block

-- What a call that went to its end keeps, by its uses.
pub record KeepsDisc (old new : Shown) (uses : ℕ) : Type 0 where
  pub was_on : IsOn old
  pub ends : EndsBy old new uses
  pub keeps : KeepsLists old new
  pub same_buffer : new.buffer ≡ old.buffer
  pub only : OnlyRecord old new

-- What a stopped writing of this record leaves of the copies: each is as it was, the text, torn or dead; the areas before one are done,
-- and those after it are as they were or dead. So one copy is lost at most, but for those that die.
pub record LeavesRecord (old new : Shown) (value : LeadRecord) : Type 0 where
  pub at : ℕ
  pub stops : StopsAt IsRecordText (record_block old.shape) (cells_in old) (cells_in new) value at
  pub may : (area : ℕ) → IsArea area → MayHold IsRecordText (cell_at (cells_in old) (record_block old.shape area)) value
      (cell_at (cells_in new) (record_block old.shape area))
  pub stays_dead : (area : ℕ) → IsArea area → cell_at (cells_in old) (record_block old.shape area) ≡ Dead
      → cell_at (cells_in new) (record_block old.shape area) ≡ Dead
  pub one_lost : LosesOneRecord old.shape (cells_in old) (cells_in new)

-- an update of the record writes four copies, and reads each back
abbrev pub record_update_uses : ℕ
record_update_uses = 8

-- The record was written: each copy is exactly its text or dead, and some can be read.
pub record WritesRecord (old new : Shown) (value : LeadRecord) : Type 0 where
  pub keeps : KeepsDisc old new record_update_uses
  pub exact : WhenKnown old (RecordIsExact new value)
  pub left : WhenKnown old (¬ HasLostRecord new)

-- it was written, and no copy can be read
pub record WritesRecordInVain (old new : Shown) : Type 0 where
  pub keeps : KeepsDisc old new record_update_uses
  pub lost : WhenKnown old (HasLostRecord new)

-- the writing was stopped
pub record StopsWritingRecord (old new : Shown) (value : LeadRecord) (stop : Stop) : Type 0 where
  pub was_on : IsOn old
  pub stopped : IsStopped old new record_update_uses stop
  pub only : OnlyRecord old new
  pub left : WhenKnown old (LeavesRecord old new value)

-- The cause of each answer of the writing of a record, and what the drive shows then.
abbrev pub LeadFromCause : Shown → Shown → LeadRecord → RecordOut → Type 0
LeadFromCause old new value outs.Good = WritesRecord old new value
LeadFromCause old new value outs.Lost = WritesRecordInVain old new
LeadFromCause old new value outs.Cut = StopsWritingRecord old new value stops.Cut
LeadFromCause old new value outs.Off = WasOff old new
LeadFromCause old new value outs.Fault = StopsWritingRecord old new value stops.Fault

-- the four copies as the choice read them: each as it was, or dead and then dead now
abbrev pub SeesRecord : Shown → List Cell → Shown → Type 0
SeesRecord old seen new = WhenKnown old (IsSeen (record_block old.shape) (cells_in old) seen (cells_in new))

-- a choice reads four copies
abbrev pub record_choice_uses : ℕ
record_choice_uses = 4

-- The record was chosen among its copies, as they were read, and these were repaired to it.
pub record MendsRecord (old new : Shown) (value : LeadRecord) : Type 0 where
  pub seen : List Cell
  pub sees : SeesRecord old seen new
  pub chosen : WhenKnown old (IsRecordOf old.shape seen value)
  pub uses : ℕ
  pub repairs : RepairsList IsRecordText (record_block old.shape) old new value uses
  pub keeps : KeepsDisc old new (record_choice_uses + uses)
  pub spares : WhenKnown old (SparesExact IsRecordText (record_block old.shape) (cells_in old) (cells_in new) value)

-- and some copy can be read
pub record ReadsRecord (old new : Shown) (value : LeadRecord) : Type 0 where
  pub mends : MendsRecord old new value
  pub exact : WhenKnown old (RecordIsExact new value)
  pub left : WhenKnown old (¬ HasLostRecord new)

-- or none can
pub record FindsRecordLost (old new : Shown) (value : LeadRecord) : Type 0 where
  pub mends : MendsRecord old new value
  pub lost : WhenKnown old (HasLostRecord new)

-- the repair of the record that was chosen was stopped
pub record LeavesMending (old new : Shown) : Type 0 where
  pub seen : List Cell
  pub sees : IsSeen (record_block old.shape) (cells_in old) seen (cells_in new)
  pub value : LeadRecord
  pub chosen : IsRecordOf old.shape seen value
  pub leaves : LeavesRecord old new value
  pub spares : SparesExact IsRecordText (record_block old.shape) (cells_in old) (cells_in new) value

-- It was stopped: in the choice, which writes nothing, or in the repair.
pub record StopsReadingRecord (old new : Shown) (stop : Stop) : Type 0 where
  pub was_on : IsOn old
  pub stopped : IsStopped old new (record_choice_uses + repair_uses 4) stop
  pub only : OnlyRecord old new
  pub left : WhenKnown old (AreSameOrDead (cells_in old) (cells_in new) ⊎ LeavesMending old new)

-- The cause of each answer of the reading of a record, and what the drive shows then.
abbrev pub GenerationCause : Shown → Shown → LeadRecord → RecordOut → Type 0
GenerationCause old new value outs.Good = ReadsRecord old new value
GenerationCause old new value outs.Lost = FindsRecordLost old new value
GenerationCause old new value outs.Cut = StopsReadingRecord old new stops.Cut
GenerationCause old new value outs.Off = WasOff old new
GenerationCause old new value outs.Fault = StopsReadingRecord old new stops.Fault

-- What either makes of what a drive stands for: nothing new.
abbrev pub RecordStep : (Standing → Type 0) → Standing → RecordOut → Type 0
RecordStep after (On disc) outs.Good = after (On disc)
RecordStep after (On disc) outs.Lost = after (On disc)
RecordStep after (On disc) outs.Cut = after (Off (disc ∷ []))
RecordStep after (On disc) outs.Off = ⊥
RecordStep after (On disc) outs.Fault = after (Off (disc ∷ []))
RecordStep after (Off discs) outs.Off = after (Off discs)
RecordStep after (Off discs) _ = ⊥
