-- Runs of a mirror on the same two discs, one after another, in which no disc is made anew, no format is good or stopped, the lead
-- is not given by hand, and one sector is not written. (This project's own, as all here.)
use Rattle.std.specs.Prelude.{◌≡◌, ◌⊎◌, ℕ, zero, suc, ◌+◌, ◌*◌, ◌≤◌, Bool, true, List, length}
use Rattle.model_sectors.specs.declared.ReadOut.{ReadOut}
use Rattle.model_drive.specs.declared.WriteOut.{WriteOut}
use Rattle.model_drive.specs.declared.FormatOut.{FormatOut}
use Rattle.model_drive.specs.declared.FormatOut.TheVariants as outs
use Rattle.model_drive.specs.declared.Kind.TheVariants as kinds
use Rattle.model_drive.specs.Formats.{FormatStep}
use Rattle.model_drive.specs.Reads.{ReadStep}
use Rattle.model_drive.specs.Writes.{WriteStep}
use Rattle.model_mirror.specs.declared.MirrorPowerOut.{MirrorPowerOut}
use Rattle.model_mirror.specs.declared.Resync.{Resync}
use Rattle.model_mirror.specs.Shown.{MirrorShown}
use Rattle.model_mirror.specs.Powers.{MirrorPowerCause}
use Rattle.model_mirror.specs.Reads.{MirrorReadCause}
use Rattle.model_mirror.specs.Writes.{MirrorWriteCause}
use Rattle.model_mirror.specs.Whole.{MirrorFormatCause, ResyncCause}
use Rattle.model_mirror.specs.Steps.{ResyncStep}
use Rattle.model_mirror_laws.specs.Ahead.{WakesWithCopies}
use Rattle.model_mirror_laws.specs.Bytes.{ComesSo, PowersSo, SidesAge, BeginsAgain}

-- A format that was refused: it left the disc, or none. One that was good or stopped may leave zeros.
abbrev pub IsRefusedFormat : FormatOut → Type 0
IsRefusedFormat outs.Good = ⊥
IsRefusedFormat (outs.TooMany found) = Unit {0}
IsRefusedFormat (outs.NoUpdate counter) = Unit {0}
IsRefusedFormat outs.Cut = ⊥
IsRefusedFormat outs.Off = Unit {0}
IsRefusedFormat outs.Fault = ⊥

module _ (old new : MirrorShown) where
  -- the power of both sides went off and on again, and of each record a copy that could be read is not dead
  pub record PowersOn : Type 0 where
    pub out : MirrorPowerOut
    pub cause : MirrorPowerCause old new out
    pub copies : WakesWithCopies old new out cause
    pub so : PowersSo old new out

  -- sectors were read
  pub record ReadsSome : Type 0 where
    pub lba : ℕ
    pub n : ℕ
    pub into : List ℕ
    pub out : ReadOut
    pub cause : MirrorReadCause old new lba n out
    pub so : ComesSo old new (λ s t. ReadStep (λ x. x ≡ t) s lba n into out)

  -- others than this one were written
  pub record WritesOthers (at : ℕ) : Type 0 where
    pub lba : ℕ
    pub n : ℕ
    pub payload : List ℕ
    pub whole : length payload ≡ 2048 * n
    pub apart : (at + 1 ≤ lba) ⊎ (lba + n ≤ at)
    pub out : WriteOut
    pub cause : MirrorWriteCause old new lba n out
    pub so : ComesSo old new (λ s t. WriteStep new.lead (λ x. x ≡ t) s lba n payload out)

  -- blocks were copied
  pub record Resyncs : Type 0 where
    pub out : Resync
    pub cause : ResyncCause old new out
    pub so : ComesSo old new (λ s t. ResyncStep (λ x. x ≡ t) s out)

  -- a format was refused
  pub record RefusesFormat : Type 0 where
    pub out : FormatOut
    pub refused : IsRefusedFormat out
    pub cause : MirrorFormatCause old new out
    pub so : ComesSo old new (λ s t. FormatStep old.lead new.lead (λ x. x ≡ t) s (kinds.Full true) out)

  -- another run begins, in either order of the images
  pub record RunsAnew : Type 0 where
    pub turned : Bool
    pub begins : BeginsAgain turned old new

  -- one of these
  abbrev pub StepOfRuns : (at : ℕ) → Type 0
  StepOfRuns at = PowersOn ⊎ ReadsSome ⊎ WritesOthers at ⊎ Resyncs ⊎ RefusesFormat ⊎ SidesAge old new ⊎ RunsAnew

-- n of these, one after another
abbrev pub StepsOfRuns : (at : ℕ) → MirrorShown → MirrorShown → ℕ → Type 0
StepsOfRuns at old new zero = new ≡ old
StepsOfRuns at old new (suc k) = (mid : MirrorShown) × StepsOfRuns at old mid k × StepOfRuns mid new at
