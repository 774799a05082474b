-- That a sector of a mirror has some bytes, or nothing, over all lines that do not write it: for the laws of runs alone. (This project's
-- own, as all here.)
use Rattle.std.specs.Prelude.{◌≡◌, ◌≢◌, false, Some, List, [], ◌∷◌, ℕ}
use Rattle.std.specs.List.{Contains}
use Rattle.ram_report.specs.declared.printing.MirrorEvent.TheVariants as mirrors
use Rattle.ram_text.specs.declared.mirror.MirrorLine.{MirrorLine}
use Rattle.ram_text.specs.declared.mirror.MirrorLine.TheVariants as lines
use Rattle.ram_machine.specs.Register.{Value, Bytes}
use Rattle.ram_machine.specs.SectorBytes.{is_sector_among}
use Rattle.ram_pair.specs.declared.told.Told.TheVariants as told
use Rattle.ram_mirrored.specs.MirrorRegister.{MirrorRegister, MirrorAnswered}

-- it has these bytes, or nothing, and once the power went off and on too
pub record HasSettledOn (r : MirrorRegister) (bytes : List ℕ) : Type 0 where
  pub shows : (found : Value) → r.now ≡ Some found → found ≡ Bytes bytes
  pub falls : (found : Value) → Contains r.falls found → found ≡ Bytes bytes

-- a line does not ask for the sector to be written, nor for the lead to be given
abbrev pub KeepsOneSector : (at : ℕ) → MirrorLine → Type 0
KeepsOneSector at (lines.Press zones scale psa) = ⊥
KeepsOneSector at lines.Format = ⊥
KeepsOneSector at (lines.GiveLead to_a) = ⊥
KeepsOneSector at (lines.Write lba n) = is_sector_among lba n at ≡ false
KeepsOneSector at line = Unit {0}

-- None of the lines does, and none is answered that nobody leads.
abbrev pub KeepSector : (at : ℕ) → List MirrorAnswered → Type 0
KeepSector at [] = Unit {0}
KeepSector at (event ∷ events) =
    KeepSector at events × KeepsOneSector at event.line × (event.told ≢ told.Event mirrors.Unknown)
