-- Which side's record of the lead is ahead, by the copies on both discs. (This project's own, as all here.)
use Rattle.std.specs.Prelude.{◌≡◌, ◌≢◌, ℕ, ◌<◌, ◌≤◌, not, Bool, true, false}
use Rattle.model_geometry.specs.Geometry.{record_block}
use Rattle.model_lists.specs.Records.{LeadRecord, IsRecordText}
use Rattle.model_medium.specs.Cells.{Dead, cell_at}
use Rattle.model_copies.specs.Copies.{HasCopy}
use Rattle.model_drive.specs.Shown.{Shown, IsKnown, cells_in}
use Rattle.model_mirror.specs.declared.MirrorPowerOut.{MirrorPowerOut}
use Rattle.model_mirror.specs.Powers.{MirrorPowerCause}
use Rattle.model_mirror.specs.Leading.{Noted}
use Rattle.model_mirror.specs.Shown.{MirrorShown}
use Rattle.model_mirror.specs.Sides.{side_a, side_b, named_side}

-- this holds of the number of each copy of the record of a side that can be read
abbrev pub HoldsOfCopies : (ℕ → Type 0) → Shown → Type 0
HoldsOfCopies holds shown = (value : LeadRecord) (area : ℕ)
    → HasCopy IsRecordText (record_block shown.shape) (cells_in shown) value area → holds value.generation

-- Each copy of the record of the one side has a greater number than each of the other's.
pub record IsAhead (ahead behind : Shown) : Type 0 where
  pub between : ℕ
  pub above : HoldsOfCopies (λ number. between < number) ahead
  pub below : HoldsOfCopies (λ number. number ≤ between) behind

-- A copy of the record that could be read before is not dead now.
pub record KeepsACopy (old new : Shown) : Type 0 where
  pub value : LeadRecord
  pub area : ℕ
  pub copy : HasCopy IsRecordText (record_block old.shape) (cells_in old) value area
  pub lives : cell_at (cells_in new) (record_block old.shape area) ≢ Dead

-- What is noted of a record that was seen in this run is true of its copies: none has a greater number.
abbrev pub IsNoted : Noted → Shown → Type 0
IsNoted noted shown = noted.seen ≡ true → HoldsOfCopies (λ number. number ≤ noted.most) shown

-- A mirror that is on knows who leads, and which number each copy of its lead's record has. It is greater than those of the other side.
pub record LeadsByNumber (shown : MirrorShown) : Type 0 where
  pub known : shown.who.known ≡ true
  pub exact : HoldsOfCopies (λ number. number ≡ shown.who.lead.most) shown.lead
  pub lead_seen : shown.who.lead.seen ≡ true
  pub other_seen : shown.who.other.seen ≡ true
  pub greater : shown.who.other.most < shown.who.lead.most

-- What is known of the records is true of their copies, in a run in which the lead is not given by hand.
pub record KnowsRecords (shown : MirrorShown) : Type 0 where
  pub lead_known : IsKnown shown.lead
  pub other_known : IsKnown shown.other
  pub not_by_hand : shown.who.by_hand ≡ false
  pub noted : IsNoted shown.who.other shown.other
  pub leads : shown.on ≡ true → LeadsByNumber shown

-- Each side has a copy of its record that could be read, and is not dead once it woke.
pub record WakesWithCopies (old new : MirrorShown) (out : MirrorPowerOut) (cause : MirrorPowerCause old new out) : Type 0 where
  pub lead : KeepsACopy old.lead cause.mid.lead
  pub other : KeepsACopy old.other cause.mid.other

-- The same of the states before and after a power on alone: each side has a copy of its record that could be read before, and is not
-- dead now.
pub record CopiesLast (old new : MirrorShown) : Type 0 where
  pub a : KeepsACopy (side_a old) (side_a new)
  pub b : KeepsACopy (side_b old) (side_b new)

-- The record of the side of this name is ahead of the other one's.
abbrev pub SideIsAhead : (on_a : Bool) → MirrorShown → Type 0
SideIsAhead on_a shown = IsAhead (named_side on_a shown) (named_side (not on_a) shown)
