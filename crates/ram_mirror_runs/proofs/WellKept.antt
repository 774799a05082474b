-- A call of a mirror keeps both sides sound, and what is noted of the records true.
use Rattle.std.specs.Prelude.{ℕ}
use Rattle.model_geometry.specs.Geometry.{Shape}
use Rattle.model_sectors.specs.declared.ReadOut.{ReadOut}
use Rattle.model_drive.specs.declared.WriteOut.{WriteOut}
use Rattle.model_drive.specs.declared.FormatOut.{FormatOut}
use Rattle.model_mirror.specs.declared.MirrorPowerOut.{MirrorPowerOut}
use Rattle.model_mirror.specs.declared.Resync.{Resync}
use Rattle.model_mirror.specs.Shown.{MirrorShown}
use Rattle.model_mirror.specs.Reads.{MirrorReadCause}
use Rattle.model_mirror.specs.Writes.{MirrorWriteCause}
use Rattle.model_mirror.specs.Whole.{MirrorFormatCause, ResyncCause}
use Rattle.model_mirror.specs.Powers.{MirrorPowerCause}
use Rattle.model_mirror_laws.specs.Kept.{AreSides}
use Rattle.model_mirror_laws.specs.Ahead.{KnowsRecords}
use Rattle.model_mirror_laws.proofs.Soundness.{power_sides, read_sides, write_sides, format_sides, resync_sides}
use Rattle.model_mirror_laws.proofs.Knowing.{knows_lead, power_knows, read_knows, write_knows, format_knows, resync_knows}

-- both hold
pub record IsWell (shape : Shape) (shown : MirrorShown) : Type 0 where
  pub sides : AreSides shape shown
  pub knows : KnowsRecords shown

module _ (shape : Shape) (old new : MirrorShown) (well : IsWell shape old) where
  pub power_well : (out : MirrorPowerOut) → MirrorPowerCause old new out → IsWell shape new
  power_well out cause = record { sides = power_sides shape old new well.sides out cause; knows = power_knows old new out cause (knows_lead old well.knows) }

  pub read_well : (lba n : ℕ) (out : ReadOut) → MirrorReadCause old new lba n out → IsWell shape new
  read_well lba n out cause = record { sides = read_sides shape lba n old new well.sides out cause; knows = read_knows old new well.knows shape well.sides lba n out cause }

  pub write_well : (lba n : ℕ) (out : WriteOut) → MirrorWriteCause old new lba n out → IsWell shape new
  write_well lba n out cause = record { sides = write_sides shape lba n old new well.sides out cause; knows = write_knows old new well.knows shape well.sides lba n out cause }

  pub format_well : (out : FormatOut) → MirrorFormatCause old new out → IsWell shape new
  format_well out cause = record { sides = format_sides shape old new well.sides out cause; knows = format_knows old new well.knows out cause }

  pub resync_well : (out : Resync) → ResyncCause old new out → IsWell shape new
  resync_well out cause = record { sides = resync_sides shape old new well.sides out cause; knows = resync_knows old new well.knows shape well.sides out cause }
