-- What the reading and the writing of the record of the lead do to the medium, and what they make of what a drive stood for. (This
-- project's own, as all here.)
use Rattle.std.specs.Prelude.{◌≡◌, ℕ, zero, suc, ◌⊎◌, Option, Some, None}
use Rattle.model_geometry.specs.Geometry.{Shape}
use Rattle.model_lists.specs.Records.{LeadRecord, first_record}
use Rattle.model_medium.specs.World.{World, Span}
use Rattle.model_sectors.specs.Discs.{Standing}
use Rattle.model_stops.specs.declared.Stop.{Stop}
use Rattle.model_drive.specs.declared.RecordOut.{RecordOut}
use Rattle.model_drive.specs.declared.RecordOut.TheVariants as outs
use Rattle.model_drive.specs.Shown.{Shown, StandsFor}
use Rattle.model_drive.specs.Records.{RecordStep}
use Rattle.ram_zones.specs.declared.list_kind.ListKind.TheVariants as kinds
use Rattle.ram_copies.specs.Values.{ListValue, RecordValue}
use Rattle.ram_copies.specs.Choices.{best_in}
use Rattle.ram_copies.specs.Chooses.{HasChosen, StopsChoosing}
use Rattle.ram_copies.specs.Calls.{HasPutList, StopsRepairing}
use Rattle.ram_copies.specs.declared.writes.Purpose.TheVariants as purposes

-- any record
abbrev pub AcceptsAny : ListValue → Type 0
AcceptsAny value = Unit {0}

-- the record that is repaired: the one that was chosen, or else the first one
abbrev pub IsMended : Option ℕ → (held value : LeadRecord) → Type 0
IsMended None held value = value ≡ first_record
IsMended (Some area) held value = value ≡ held

-- The record was chosen among its copies, or is the first one where none of them has any.
pub record ChoosesRecord {M : Type 0} (world : M → World) (reaches : M → M → Span → Type 0) (shape : Shape) (old new : M)
    (value : LeadRecord) : Type 0 where
  pub area : Option ℕ
  pub held : LeadRecord
  pub mark : ℕ
  pub looked : HasChosen world reaches kinds.Record shape old new AcceptsAny (best_in area (RecordValue held)) mark
  pub mended : IsMended area held value

module _ {M : Type 0} (world : M → World) (reaches : M → M → Span → Type 0) (shape : Shape) (old new : M) where
  -- and then its copies were repaired to it, of which n can be read
  pub record HasMended (value : LeadRecord) (readable : ℕ) : Type 0 where
    pub mid : M
    pub chosen : ChoosesRecord world reaches shape old mid value
    pub put : HasPutList world reaches kinds.Record shape mid new (RecordValue value) purposes.Repair readable

  -- the repair was stopped
  pub record StopsInRepair (stop : Stop) : Type 0 where
    pub value : LeadRecord
    pub mid : M
    pub chosen : ChoosesRecord world reaches shape old mid value
    pub put : StopsRepairing world reaches kinds.Record shape mid new (RecordValue value) stop

  -- or the choice was
  abbrev pub StopsMending : Stop → Type 0
  StopsMending stop = StopsChoosing world reaches kinds.Record shape old new stop ⊎ StopsInRepair stop

-- the answer for how many copies can be read
abbrev pub out_for : ℕ → RecordOut
out_for zero = outs.Lost
out_for (suc n) = outs.Good

-- What the drive stands for after either call, for each thing that it stood for.
abbrev pub RecordSteps : Shown → Shown → RecordOut → Type 0
RecordSteps old new out = (s : Standing) → StandsFor old s → RecordStep (StandsFor new) s out
