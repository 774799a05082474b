-- What keeps a sector over runs, and how it was written and is shown. (This project's own, as all here.)
use Rattle.std.specs.Prelude.{◌≡◌, ◌≢◌, ℕ, zero, suc, true, false, Ok, Err, List}
use Rattle.model_mirror.specs.Shown.{MirrorShown}
use Rattle.model_mirror_laws.specs.Ahead.{WakesWithCopies}
use Rattle.model_mirror_laws.specs.Runs.{IsRefusedFormat}
use Rattle.ram_medium.specs.declared.control.FailEnd.TheVariants as fails
use Rattle.ram_report.specs.declared.printing.MirrorEvent.{MirrorEvent}
use Rattle.ram_report.specs.declared.printing.MirrorEvent.TheVariants as mirrors
use Rattle.ram_text.specs.declared.mirror.MirrorLine.{MirrorLine}
use Rattle.ram_text.specs.declared.mirror.MirrorLine.TheVariants as lines
use Rattle.ram_machine.specs.declared.stopped.Stopped.TheVariants as stopped
use Rattle.ram_machine.specs.SectorBytes.{bytes_of_sector, is_sector_among}
use Rattle.ram_pair.specs.Told.{PairOutcome}
use Rattle.ram_pair.specs.PairStates.{PairState, Paired, Unpaired}
use Rattle.ram_pair.specs.PairLines.{CallRule}
use Rattle.ram_pair.specs.PairSteps.{OnMirror, PairStep, RawStep}
use Rattle.ram_mirror_runs.specs.Histories.{HappensNext, Answered, Ended, Begun, History, AnswersSo}

module _ (at : ℕ) where
  -- What a line that needs a mirror must be to keep the sector: in the power on a copy of each record lasts; a write is
  -- of other sectors; a format is refused; no image fails while a block is to fail; and the lead is not given by hand.
  abbrev pub KeepsInCall : (old new : MirrorShown) (line : MirrorLine) (payload bytes : List ℕ) (called : MirrorEvent)
      → CallRule old new line payload bytes called → Type 0
  KeepsInCall old new lines.Power payload bytes called call = WakesWithCopies old new call.out call.cause
  KeepsInCall old new (lines.Write lba n) payload bytes called call = is_sector_among lba n at ≡ false
  KeepsInCall old new lines.Format payload bytes called call = IsRefusedFormat call.out
  KeepsInCall old new (lines.GiveLead to_a) payload bytes called call = ⊥
  KeepsInCall old new (lines.Fail on_a block) payload bytes called call = call.end ≢ fails.Failed
  KeepsInCall old new line payload bytes called call = Unit {0}

  -- the same of a state: without a mirror no line is answered
  abbrev pub KeepsOnMirror : (s : PairState) (line : MirrorLine) (payload : List ℕ) (outcome : PairOutcome)
      (bytes : List ℕ) (t : PairState) → OnMirror s line payload outcome bytes t → Type 0
  KeepsOnMirror (Unpaired images) line payload outcome bytes t step = Unit {0}
  KeepsOnMirror (Paired s) line payload outcome bytes (Unpaired images) step = Unit {0}
  KeepsOnMirror (Paired s) line payload outcome bytes (Paired t) step =
      KeepsInCall s.shown t.shown line payload bytes step.called step.rule

  -- and of any line: no disc is pressed
  abbrev pub KeepsInStep : (s : PairState) (line : MirrorLine) (payload : List ℕ) (outcome : PairOutcome)
      (bytes : List ℕ) (t : PairState) → PairStep s line payload outcome bytes t → Type 0
  KeepsInStep s lines.Empty payload outcome bytes t step = Unit {0}
  KeepsInStep s (lines.Press zones scale psa) payload outcome bytes t step = ⊥
  KeepsInStep s line payload outcome bytes t step = KeepsOnMirror s line payload outcome bytes t step

  -- by its bytes
  abbrev pub KeepsInRaw : (s : PairState) (raw : List ℕ) (outcome : PairOutcome) (bytes : List ℕ) (t : PairState)
      → RawStep s raw outcome bytes t → Type 0
  KeepsInRaw s raw (Err stopped.NotInLanguage) bytes t step = Unit {0}
  KeepsInRaw s raw outcome bytes t step = KeepsInStep s step.line step.payload outcome bytes t step.step

  -- What happens next keeps the sector; another run does, in either order of the images.
  abbrev pub KeepsNext : (s t : PairState) → HappensNext s t → Type 0
  KeepsNext s t (Answered is) = KeepsInRaw s is.event.raw (Ok is.step.told) is.step.bytes t is.step.step
  KeepsNext s t (Ended ends) = KeepsInRaw s ends.raw (Err ends.why) ends.stops.bytes t ends.stops.step
  KeepsNext s t (Begun begins) = Unit {0}

  -- all of a history does
  abbrev pub KeepsOver : (first last : PairState) (steps : ℕ) → History first last steps → Type 0
  KeepsOver first last zero same = Unit {0}
  KeepsOver first last (suc k) (mid, before, next) = KeepsOver first mid k before × KeepsNext mid last next

-- the sector was written with these bytes, and that was answered good
pub record WritesSector (at : ℕ) (bytes : List ℕ) (s t : PairState) : Type 0 where
  pub lba : ℕ
  pub n : ℕ
  pub payload : List ℕ
  pub gave : List ℕ
  pub answers : AnswersSo s (lines.Write lba n) payload mirrors.Good gave t
  pub among : is_sector_among lba n at ≡ true
  pub bytes_are : bytes ≡ bytes_of_sector lba payload at

-- the sector was read, and these are the bytes that it was answered with
pub record ShowsSector (at : ℕ) (bytes : List ℕ) (s t : PairState) : Type 0 where
  pub lba : ℕ
  pub n : ℕ
  pub first : ℕ
  pub payload : List ℕ
  pub shown : List ℕ
  pub answers : AnswersSo s (lines.Read lba n) payload (mirrors.Shows first) shown t
  pub among : is_sector_among lba n at ≡ true
  pub bytes_are : bytes ≡ bytes_of_sector lba shown at
