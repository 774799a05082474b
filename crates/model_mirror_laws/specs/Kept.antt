-- What a call of a mirror leaves of the records of the lead of its sides. (This project's own, as all here.)
use Rattle.std.specs.Prelude.{◌≡◌, ◌⊎◌, ℕ, Bool, false}
use Rattle.model_geometry.specs.Geometry.{Shape, record_block}
use Rattle.model_medium.specs.Cells.{cell_at}
use Rattle.model_drive.specs.Shown.{Shown, cells_in}
use Rattle.model_drive.specs.Sound.{IsSound}
use Rattle.model_mirror.specs.Shown.{MirrorShown}
use Rattle.model_mirror.specs.Taking.{TakesLead}

-- Both sides have this geometry, and what they show is sound.
pub record AreSides (shape : Shape) (shown : MirrorShown) : Type 0 where
  pub lead_shape : shown.lead.shape ≡ shape
  pub other_shape : shown.other.shape ≡ shape
  pub lead_sound : IsSound shown.lead
  pub other_sound : IsSound shown.other

-- The four copies of the record of a side are as they were.
pub record KeepsRecord (old new : Shown) : Type 0 where
  pub same_shape : new.shape ≡ old.shape
  pub as_known : new.medium.world.known ≡ old.medium.world.known
  pub same_copies : (area : ℕ)
      → cell_at (cells_in new) (record_block old.shape area) ≡ cell_at (cells_in old) (record_block old.shape area)

-- Those of both sides are, and so is who leads, and what is noted of the records.
pub record KeepsRecords (old new : MirrorShown) : Type 0 where
  pub lead : KeepsRecord old.lead new.lead
  pub other : KeepsRecord old.other new.other
  pub same_side : new.lead_is_a ≡ old.lead_is_a
  pub same_who : new.who ≡ old.who

-- The other side took the lead, or did not: before that and after it both records were left. A mirror that it left off is off.
pub record TakesBetween (old new : MirrorShown) : Type 0 where
  pub mid : MirrorShown
  pub before : KeepsRecords old mid
  pub late : MirrorShown
  pub taken : Bool
  pub takes : TakesLead mid late taken
  pub after : KeepsRecords late new
  pub stays_off : late.on ≡ false → new.on ≡ false

-- Both records are left, but for that of a side that is to take the lead.
abbrev pub LeavesRecords : MirrorShown → MirrorShown → Type 0
LeavesRecords old new = KeepsRecords old new ⊎ TakesBetween old new
