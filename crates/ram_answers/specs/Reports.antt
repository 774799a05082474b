-- What stands with each status of a run of lines, whatever they lead from and to: what was written, and which lines were answered. (This
-- project's own, as all here.)
use Rattle.std.specs.Prelude.{◌≡◌, ℕ, ◌+◌, ◌-◌, ◌≤◌, ◌⊎◌, Option, Some, IfSome, List, [], ◌++◌, length}
use Rattle.std.specs.Io.KnownBytes.{prepend_known}
use Rattle.ram_report.specs.ReportLines.{last_text}
use Rattle.ram_report.specs.declared.gathered.TheConstants.{GATHERED_ROOM}
use Rattle.ram_report.specs.declared.printing.LastLine.{LastLine}
use Rattle.ram_report.specs.declared.printing.LastLine.TheVariants as lasts
use Rattle.ram_text.specs.Lines.{HasNoFeed}
use Rattle.ram_machine.specs.declared.stopped.Stopped.{Stopped}
use Rattle.ram_machine.specs.declared.stopped.Stopped.TheVariants as stopped
use Rattle.ram_machine.specs.declared.status.Status.{Status}
use Rattle.ram_machine.specs.declared.status.Status.TheVariants as statuses
use Rattle.ram_script.specs.NextLines.{IsNextWithin, IsWithinLimit, PassesLineLimit, PassesScriptLimit}
use Rattle.ram_script.specs.Endings.{IsOfScript}
use Rattle.ram_script.specs.RunCounts.{Counts, OnlySinkRose, SourceAndSinkRose, ImageAndSinkRose}
use Rattle.ram_answers.specs.Texts.{AnsweredText, told_text, told_in, newest_told, told_before, TakesUpTo}
use Rattle.ram_answers.specs.StateRuns.{StateRun}

-- What is known once a run has ended: what the source has left, what is written, and how many bytes there would be with what the sink
-- refused.
pub record Heard : Type 0 where
  pub left : Option (List ℕ)
  pub written : Option (List ℕ)
  pub refused : Option ℕ

-- Over what a run may begin with, what a line of a number does that is answered, and what one does that ends the run; for a script, behind
-- what was written before.
module _ {S : Type 0} (Begins : S → Type 0) (Steps : S → ℕ → AnsweredText → S → Type 0) (Stops : S → List ℕ → Stopped → S → Type 0)
    (script report : List ℕ) where
  -- The lines so far lead from the beginning to this, and rest is what follows them in the script.
  pub record RunSoFar : Type 0 where
    pub start : S
    pub begins : Begins start
    pub events : List AnsweredText
    pub now : S
    pub run : StateRun Steps start events now
    pub rest : List ℕ
    pub lines : TakesUpTo script events rest
    pub within : IsWithinLimit script rest

  -- what was written before, and all answers
  abbrev pub answers_text : RunSoFar → List ℕ
  answers_text far = report ++ told_text far.events

  -- The next line is not answered, and ends the run.
  pub record StopsAtLine (far : RunSoFar) (why : Stopped) (after : S) : Type 0 where
    pub raw : List ℕ
    pub comes : IsNextWithin script far.rest raw
    pub stops : Stops far.now raw why after

  -- the last line tells why the lines end here, and this is what they leave
  abbrev pub IsLastLine : RunSoFar → LastLine → S → Type 0
  IsLastLine far (lasts.End answered) after = (far.rest ≡ []) × (answered ≡ told_in far.events) × (after ≡ far.now)
  IsLastLine far (lasts.NotInLanguage line) after =
      StopsAtLine far stopped.NotInLanguage after × (line ≡ length far.events + 1)
  IsLastLine far (lasts.LineTooLong line) after =
      PassesLineLimit script far.rest × (line ≡ length far.events + 1) × (after ≡ far.now)
  IsLastLine far lasts.ScriptTooLong after = PassesScriptLimit script far.rest × (after ≡ far.now)
  IsLastLine far (lasts.NotADisc line) after = StopsAtLine far stopped.NotADisc after × (line ≡ length far.events + 1)

  -- All answers and this last line were written.
  pub record IsToldWhole (heard : Heard) (after : S) (last : LastLine) : Type 0 where
    pub far : RunSoFar
    pub last_is : IsLastLine far last after
    pub written_is : heard.written ≡ Some (answers_text far ++ last_text last)

  -- Every whole line that the source gave is answered: what follows them is bytes without a line feed, and then what the source has left.
  pub record EndsAtSource (far : RunSoFar) (heard : Heard) (after : S) : Type 0 where
    pub after_is : after ≡ far.now
    pub given : List ℕ
    pub unended : HasNoFeed given
    pub rest_is : prepend_known given heard.left ≡ Some far.rest

  -- All answers were written and no last line, and every whole line that the source gave is answered.
  pub record IsCutAtSource (heard : Heard) (after : S) : Type 0 where
    pub far : RunSoFar
    pub written_is : heard.written ≡ Some (answers_text far)
    pub cut : EndsAtSource far heard after

  -- All answers were written, and an image failed in the next line.
  pub record IsCutAtImage (heard : Heard) (after : S) : Type 0 where
    pub far : RunSoFar
    pub written_is : heard.written ≡ Some (answers_text far)
    pub line : StopsAtLine far stopped.ImageFault after

  -- What was written is the beginning of the answers, and of a last line where there is one. Of what was due before the newest line at most
  -- one piece is missing. No line was answered after the call of the sink that failed.
  pub record IsToldInPart (far : RunSoFar) (heard : Heard) : Type 0 where
    pub bytes : List ℕ
    pub more : List ℕ
    pub written_is : heard.written ≡ Some bytes
    pub prefix : (bytes ++ more ≡ answers_text far)
        ⊎ ((last : LastLine) × (after : S) × IsLastLine far last after × (bytes ++ more ≡ answers_text far ++ last_text last))
    pub nearly : length (report ++ told_text (told_before far.events)) ≤ length bytes + GATHERED_ROOM
    pub offered : IfSome heard.refused
        (λ offered. length (answers_text far) ≤ offered + (length (newest_told far.events) - 1))

  -- the lines ended with the script or within it, or at one that is not answered, and no image failed
  abbrev pub EndsQuietly : RunSoFar → S → Type 0
  EndsQuietly far after = (after ≡ far.now) ⊎ StopsAtLine far stopped.NotInLanguage after ⊎ StopsAtLine far stopped.NotADisc after

  -- What else failed before the sink did: nothing; the source; or an image, in the next line.
  abbrev pub FailedBefore : RunSoFar → Heard → S → (old new : Counts) → Type 0
  FailedBefore far heard after old new = (OnlySinkRose old new × EndsQuietly far after)
      ⊎ (SourceAndSinkRose old new × EndsAtSource far heard after)
      ⊎ (ImageAndSinkRose old new × StopsAtLine far stopped.ImageFault after)

  -- the sink failed
  pub record IsCutAtSink (heard : Heard) (after : S) (old new : Counts) : Type 0 where
    pub far : RunSoFar
    pub told : IsToldInPart far heard
    pub behind : FailedBefore far heard after old new

  -- What stands with each status.
  abbrev pub ToldWith : Heard → S → (old new : Counts) → Status → Type 0
  ToldWith heard after old new statuses.Done = (answered : ℕ) × IsToldWhole heard after (lasts.End answered)
  ToldWith heard after old new statuses.Script = (last : LastLine) × IsOfScript last × IsToldWhole heard after last
  ToldWith heard after old new statuses.NotADisc = (line : ℕ) × IsToldWhole heard after (lasts.NotADisc line)
  ToldWith heard after old new statuses.ImageFault = IsCutAtImage heard after
  ToldWith heard after old new statuses.SourceFault = IsCutAtSource heard after
  ToldWith heard after old new statuses.SinkFault = IsCutAtSink heard after old new
  ToldWith heard after old new _ = ⊥
