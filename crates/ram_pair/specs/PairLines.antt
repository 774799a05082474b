-- What each line does with a mirror, by what it shows before and after, and how its call is told. (This project's own, as all here.)
use Rattle.std.specs.Prelude.{◌≡◌, ◌≢◌, ℕ, ◌*◌, if◌then◌else◌, not, Bool, true, false, List, length}
use Rattle.model_geometry.specs.Geometry.{total}
use Rattle.model_medium.specs.declared.Fate.{Fate}
use Rattle.model_sectors.specs.Discs.{Standing}
use Rattle.model_sectors.specs.declared.ReadOut.{ReadOut}
use Rattle.model_drive.specs.declared.WriteOut.{WriteOut}
use Rattle.model_drive.specs.declared.FormatOut.{FormatOut}
use Rattle.model_drive.specs.declared.Kind.TheVariants as kinds
use Rattle.model_drive.specs.Shown.{Shown, StandsFor}
use Rattle.model_drive.specs.Reads.{ReadStep}
use Rattle.model_drive.specs.Writes.{WriteStep}
use Rattle.model_drive.specs.Formats.{FormatStep}
use Rattle.model_cache.specs.Chains.{LeavesSound}
use Rattle.model_mirror.specs.declared.MirrorPowerOut.{MirrorPowerOut}
use Rattle.model_mirror.specs.declared.Resync.{Resync}
use Rattle.model_mirror.specs.declared.GiveOut.{GiveOut}
use Rattle.model_mirror.specs.Shown.{MirrorShown}
use Rattle.model_mirror.specs.Steps.{ResyncStep}
use Rattle.model_mirror.specs.Reads.{MirrorReadCause}
use Rattle.model_mirror.specs.Writes.{MirrorWriteCause}
use Rattle.model_mirror.specs.Powers.{MirrorPowerCause, MirrorPowerStep}
use Rattle.model_mirror.specs.Whole.{MirrorFormatCause, ResyncCause}
use Rattle.model_mirror.specs.Giving.{GiveLeadCause, GiveStepOf, leader_of}
use Rattle.model_mirror.specs.Sides.{side_a, side_b, named_side}
use Rattle.model_mirror.specs.Standing.{MayBe}
use Rattle.ram_medium.specs.Control.{WearRule, with_armed_cut}
use Rattle.ram_medium.specs.declared.control.FailEnd.{FailEnd}
use Rattle.ram_medium.specs.declared.control.FailEnd.TheVariants as fails
use Rattle.ram_medium.specs.declared.control.Arm.{Arm}
use Rattle.ram_states.specs.Control.{KeepsMemory, FailOnDrive}
use Rattle.ram_side.specs.Side.{standing_after_fail}
use Rattle.ram_report.specs.declared.printing.Event.TheVariants as events
use Rattle.ram_report.specs.declared.printing.MirrorEvent.{MirrorEvent}
use Rattle.ram_report.specs.declared.printing.MirrorEvent.TheVariants as mirrors
use Rattle.ram_text.specs.declared.mirror.MirrorLine.{MirrorLine}
use Rattle.ram_text.specs.declared.mirror.MirrorLine.TheVariants as lines
use Rattle.ram_pair.specs.Told.{read_told, write_told, power_told, format_told, resync_told, lead_told, give_told, fail_told, wear_told}

-- what the mirror shows with another state of this side
abbrev pub with_side : (on_a : Bool) → Shown → MirrorShown → MirrorShown
with_side true side shown = record shown {
  lead = if shown.lead_is_a then side else shown.lead;
  other = if shown.lead_is_a then shown.other else side;
}
with_side false side shown = record shown {
  lead = if shown.lead_is_a then shown.lead else side;
  other = if shown.lead_is_a then side else shown.other;
}

-- What a line does with a mirror: what it shows before and after.
module _ (old new : MirrorShown) where
  -- from each thing that it may stand for before, it comes so to one that it may stand for then
  abbrev pub Leads : (Standing → Standing → Type 0) → Type 0
  Leads Steps = (s : Standing) → MayBe old s → (t : Standing) × MayBe new t × Steps s t

  -- all it may stand for before, it may stand for then
  abbrev pub KeepsAll : Type 0
  KeepsAll = (s : Standing) → MayBe old s → MayBe new s

  -- the power of both sides went off and on again, and it ended so
  pub record PowerCall (told : MirrorEvent) : Type 0 where
    pub out : MirrorPowerOut
    pub cause : MirrorPowerCause old new out
    pub step : (s t : Standing) → StandsFor (side_a old) s → StandsFor (side_b old) t
        → MirrorPowerStep new (MayBe new) (StandsFor (side_a new)) (StandsFor (side_b new)) s t out
    pub told_is : told ≡ power_told out

  -- sectors were read, and these bytes came where it was good
  pub record ReadCall (lba n : ℕ) (bytes : List ℕ) (told : MirrorEvent) : Type 0 where
    pub out : ReadOut
    pub cause : MirrorReadCause old new lba n out
    pub step : Leads (λ s t. ReadStep (λ x. x ≡ t) s lba n bytes out)
    pub whole : length bytes ≡ 2048 * n
    pub told_is : told ≡ read_told lba out

  -- sectors were written
  pub record WriteCall (lba n : ℕ) (payload : List ℕ) (told : MirrorEvent) : Type 0 where
    pub out : WriteOut
    pub cause : MirrorWriteCause old new lba n out
    pub step : Leads (λ s t. WriteStep new.lead (λ x. x ≡ t) s lba n payload out)
    pub told_is : told ≡ write_told out

  -- the mirror was formatted
  pub record FormatCall (told : MirrorEvent) : Type 0 where
    pub out : FormatOut
    pub cause : MirrorFormatCause old new out
    pub step : Leads (λ s t. FormatStep old.lead new.lead (λ x. x ≡ t) s (kinds.Full true) out)
    pub told_is : told ≡ format_told out

  -- blocks were copied to the other side
  pub record ResyncCall (told : MirrorEvent) : Type 0 where
    pub out : Resync
    pub cause : ResyncCause old new out
    pub step : Leads (λ s t. ResyncStep (λ x. x ≡ t) s out)
    pub told_is : told ≡ resync_told out

  -- it was told who leads
  pub record LeadCall (told : MirrorEvent) : Type 0 where
    pub same : new ≡ old
    pub told_is : told ≡ lead_told (leader_of old)

  -- the lead was given by hand
  pub record GiveCall (to_a : Bool) (told : MirrorEvent) : Type 0 where
    pub out : GiveOut
    pub cause : GiveLeadCause old new to_a out
    pub of_a : (s : Standing) → StandsFor (side_a old) s → GiveStepOf to_a (StandsFor (side_a new)) s out
    pub of_b : (s : Standing) → StandsFor (side_b old) s → GiveStepOf (not to_a) (StandsFor (side_b new)) s out
    pub told_is : told ≡ give_told to_a out

  -- a block of a side was to fail; where its image failed in it, its power is off
  pub record FailCall (on_a : Bool) (block : ℕ) (told : MirrorEvent) : Type 0 where
    pub end : FailEnd
    pub rule : FailOnDrive (named_side on_a old) (named_side on_a new) block end
    pub leaves : LeavesSound (named_side on_a old) (named_side on_a new)
    pub rest : new ≡ with_side on_a (named_side on_a new) old
    pub keeps : end ≢ fails.Failed → KeepsAll
    pub stands : (s : Standing) → StandsFor (named_side on_a old) s
        → StandsFor (named_side on_a new) (standing_after_fail s end)
    pub told_is : told ≡ fail_told end

  -- a block of a side was to be armed
  pub record WearCall (on_a : Bool) (block n : ℕ) (told : MirrorEvent) : Type 0 where
    pub end : Arm
    pub rule : WearRule (total (named_side on_a old).shape) (named_side on_a old).medium (named_side on_a new).medium
        (record { block = block; left = n }) end
    pub memory : KeepsMemory (named_side on_a old) (named_side on_a new)
    pub leaves : LeavesSound (named_side on_a old) (named_side on_a new)
    pub rest : new ≡ with_side on_a (named_side on_a new) old
    pub keeps : KeepsAll
    pub told_is : told ≡ wear_told end

  -- a cut of a side was armed
  pub record CutCall (on_a : Bool) (n : ℕ) (fate : Fate) (told : MirrorEvent) : Type 0 where
    pub armed : (named_side on_a new).medium ≡ with_armed_cut n fate (named_side on_a old).medium
    pub memory : KeepsMemory (named_side on_a old) (named_side on_a new)
    pub leaves : LeavesSound (named_side on_a old) (named_side on_a new)
    pub rest : new ≡ with_side on_a (named_side on_a new) old
    pub keeps : KeepsAll
    pub told_is : told ≡ mirrors.OfDisc events.Armed

  -- What a line does that needs a mirror, with its data and the bytes that a read gives; no other line does any of this.
  abbrev pub CallRule : MirrorLine → (payload bytes : List ℕ) → MirrorEvent → Type 0
  CallRule lines.Power payload bytes told = PowerCall told
  CallRule (lines.Read lba n) payload bytes told = ReadCall lba n bytes told
  CallRule (lines.Write lba n) payload bytes told = WriteCall lba n payload told
  CallRule lines.Format payload bytes told = FormatCall told
  CallRule lines.Resync payload bytes told = ResyncCall told
  CallRule lines.Lead payload bytes told = LeadCall told
  CallRule (lines.GiveLead to_a) payload bytes told = GiveCall to_a told
  CallRule (lines.Fail on_a block) payload bytes told = FailCall on_a block told
  CallRule (lines.Wear on_a block n) payload bytes told = WearCall on_a block n told
  CallRule (lines.Cut on_a n fate) payload bytes told = CutCall on_a n fate told
  CallRule lines.Empty payload bytes told = ⊥
  CallRule (lines.Press zones scale psa) payload bytes told = ⊥
