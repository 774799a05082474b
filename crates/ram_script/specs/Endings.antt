-- How a run ends: what stands with each status. For the main clause of the run, and the calls that end a report.
use Rattle.std.specs.Prelude.{◌≡◌, ℕ, ◌+◌, ◌≤◌, ◌⊎◌, Option, None, Some, IfSome, Ok, Err, List, [], ◌++◌, length}
use Rattle.std.specs.Io.KnownBytes.{append_known, prepend_known}
use Rattle.ram_outside.specs.Sink.{FailsOnce, SinkShown, length_with}
use Rattle.ram_text.specs.Lines.{HasNoFeed}
use Rattle.ram_report.specs.ReportLines.{last_text}
use Rattle.ram_report.specs.Writer.{PrintRule}
use Rattle.ram_report.specs.declared.gathered.Print.{Print}
use Rattle.ram_report.specs.declared.gathered.TheConstants.{GATHERED_ROOM}
use Rattle.ram_report.specs.declared.gathered.Print.TheVariants as prints
use Rattle.ram_report.specs.declared.printing.LastLine.{LastLine}
use Rattle.ram_report.specs.declared.printing.LastLine.TheVariants as lasts
use Rattle.ram_text.specs.declared.script.Line.{Line}
use Rattle.ram_script.specs.declared.state.Tally.{Tally}
use Rattle.ram_machine.specs.declared.stopped.Stopped.TheVariants as stopped
use Rattle.ram_machine.specs.declared.status.Status.{Status}
use Rattle.ram_machine.specs.declared.status.Status.TheVariants as statuses
use Rattle.ram_script.specs.NextLines.{ComesNext}
use Rattle.ram_machine.specs.Replies.{Outcome}
use Rattle.ram_machine.specs.States.{State}
use Rattle.ram_machine.specs.LineSteps.{Step}
use Rattle.ram_machine.specs.Inserted.{LeavesImage}
use Rattle.ram_script.specs.Answered.{report_text}
use Rattle.ram_script.specs.RunCounts.{Counts, SameCounts, OnlySourceRose, OnlySinkRose, OnlyImageRose, SourceAndSinkRose, ImageAndSinkRose}
use Rattle.ram_script.specs.Progress.{Beginning, SoFar, IsOffered, IsReported, IsLast, Ending, due_before, last_line}

-- the status that an ending is told by (this project's own, as all here)
abbrev pub status_of : Ending → Status
status_of (Ok done) = statuses.Done
status_of (Err stopped.NotInLanguage) = statuses.Script
status_of (Err stopped.LineTooLong) = statuses.Script
status_of (Err stopped.ScriptTooLong) = statuses.Script
status_of (Err stopped.NotADisc) = statuses.NotADisc
status_of (Err stopped.SourceFault) = statuses.SourceFault
status_of (Err stopped.SinkFault) = statuses.SinkFault
status_of (Err stopped.ImageFault) = statuses.ImageFault

-- What is known afterwards: what the source has left, what is written, how many bytes there would be with what the sink refused, and the
-- image's bytes.
pub record Aftermath : Type 0 where
  pub left : Option (List ℕ)
  pub written : Option (List ℕ)
  pub refused : Option ℕ
  pub image : Option (List ℕ)

-- these
abbrev pub aftermath : Option (List ℕ) → Option (List ℕ) → Option ℕ → Option (List ℕ) → Aftermath
aftermath left written refused image = record { left = left; written = written; refused = refused; image = image }

-- the answers and this last line
abbrev pub whole_text : {first : Beginning} → SoFar first → LastLine → List ℕ
whole_text {first} far last = first.report ++ (report_text far.events ++ last_text last)

-- All answers and this last line were written, and the image is as the lines leave it.
pub record IsEnded (first : Beginning) (after : Aftermath) (last : LastLine) : Type 0 where
  pub far : SoFar first
  pub last_is : IsLast far last
  pub written_is : after.written ≡ Some (whole_text far last)
  pub image_is : LeavesImage far.now after.image

-- The image is as the lines leave it. Every whole line that the source gave is answered: what follows them is bytes without
-- a line feed, and then what the source has left.
pub record IsCutBySource {first : Beginning} (far : SoFar first) (after : Aftermath) : Type 0 where
  pub image_is : LeavesImage far.now after.image
  pub given : List ℕ
  pub unended : HasNoFeed given
  pub rest_is : prepend_known given after.left ≡ Some far.rest

-- All answers were written and no last line, and every whole line that the source gave is answered.
pub record IsBroken (first : Beginning) (after : Aftermath) : Type 0 where
  pub far : SoFar first
  pub written_is : IsReported far after.written
  pub cut : IsCutBySource far after

-- the next line came out so, and the image is as it leaves it
pub record ComesToThis {first : Beginning} (far : SoFar first) (image : Option (List ℕ)) (outcome : Outcome) : Type 0 where
  pub line : Line
  pub payload : List ℕ
  pub data_in : List ℕ
  pub state : State
  pub next : ComesNext first.script far.rest line payload
  pub step : Step far.now line payload outcome data_in state
  pub image_is : LeavesImage state image

-- All answers were written, the next line came out so, and the image is as it leaves it.
pub record IsStoppedInLine (first : Beginning) (after : Aftermath) (outcome : Outcome) : Type 0 where
  pub far : SoFar first
  pub written_is : IsReported far after.written
  pub line : ComesToThis far after.image outcome

-- The run ended before its first line: nothing was written, and the image has the bytes that it had.
pub record IsNotBegun (first : Beginning) (after : Aftermath) : Type 0 where
  pub written_is : after.written ≡ Some first.report
  pub image_is : after.image ≡ Some first.image

-- What was written is the beginning of the text due: the answers, and a last line where there is one. Of what was due before
-- the last of these lines at most one piece is missing. No line was answered after the call of the sink that failed.
pub record IsWrittenInPart {first : Beginning} (far : SoFar first) (written : Option (List ℕ)) (refused : Option ℕ) : Type 0 where
  pub bytes : List ℕ
  pub more : List ℕ
  pub written_is : written ≡ Some bytes
  pub prefix : (bytes ++ more ≡ first.report ++ report_text far.events)
      ⊎ ((last : LastLine) × IsLast far last × (bytes ++ more ≡ whole_text far last))
  pub nearly : due_before far ≤ length bytes + GATHERED_ROOM
  pub offered : IsOffered far refused

-- What else failed before the sink did: nothing; the source; or the image, in the next line.
abbrev pub StoodBehind : {first : Beginning} → SoFar first → Aftermath → (old new : Counts) → Type 0
StoodBehind far after old new =
    (OnlySinkRose old new × LeavesImage far.now after.image)
    ⊎ (SourceAndSinkRose old new × IsCutBySource far after)
    ⊎ (ImageAndSinkRose old new × ComesToThis far after.image (Err stopped.ImageFault))

-- the sink failed
pub record IsReportCutOff (first : Beginning) (after : Aftermath) (old new : Counts) : Type 0 where
  pub far : SoFar first
  pub written_is : IsWrittenInPart far after.written after.refused
  pub behind : StoodBehind far after old new

-- the last line tells what is wrong with the script
abbrev pub IsOfScript : LastLine → Type 0
IsOfScript (lasts.End answered) = ⊥
IsOfScript (lasts.NotInLanguage line) = Unit {0}
IsOfScript (lasts.LineTooLong line) = Unit {0}
IsOfScript lasts.ScriptTooLong = Unit {0}
IsOfScript (lasts.NotADisc line) = ⊥

-- What stands with each status, where the bytes of source, sink, opener and image are known; and what had failed by then.
abbrev pub StandsWith : Beginning → Aftermath → (old new : Counts) → Status → Type 0
StandsWith first after old new statuses.Done = (answered : ℕ) × IsEnded first after (lasts.End answered)
StandsWith first after old new statuses.Differs = ⊥
StandsWith first after old new statuses.Usage = ⊥
StandsWith first after old new statuses.Script = (last : LastLine) × IsOfScript last × IsEnded first after last
StandsWith first after old new statuses.ImageFault =
    IsNotBegun first after ⊎ IsStoppedInLine first after (Err stopped.ImageFault)
StandsWith first after old new statuses.SourceFault = IsBroken first after
StandsWith first after old new statuses.SinkFault = IsReportCutOff first after old new
StandsWith first after old new statuses.NoMemory = ⊥
StandsWith first after old new statuses.NotADisc = (line : ℕ) × IsEnded first after (lasts.NotADisc line)

-- the sink failed, and of source and image at most the one that had stopped the lines before
abbrev pub SinkRose : Counts → Counts → Type 0
SinkRose before after =
    OnlySinkRose before after ⊎ SourceAndSinkRose before after ⊎ ImageAndSinkRose before after

-- The count that a status tells of rose, and no other; with every other status nothing failed at all.
abbrev pub StatusCounts : Counts → Counts → Status → Type 0
StatusCounts before after statuses.ImageFault = OnlyImageRose before after
StatusCounts before after statuses.SourceFault = OnlySourceRose before after
StatusCounts before after statuses.SinkFault = SinkRose before after
StatusCounts before after _ = SameCounts before after

-- the text of a last line, if there is one
abbrev pub text_if_any : Option LastLine → List ℕ
text_if_any None = []
text_if_any (Some last) = last_text last

-- the last line of a report whose lines came to this end
abbrev pub last_of : Tally → Ending → List ℕ
last_of tally ending = text_if_any (last_line tally ending)

-- what printing the last line makes of what is due, and of what the sink shows; after a failure of the sink nothing is printed
abbrev pub LastLineRule : Option (List ℕ) → Option (List ℕ) → SinkShown → SinkShown → Tally → Ending → Print → Type 0
LastLineRule due due' old new tally (Err stopped.SinkFault) result =
    (result ≡ prints.Failed) × (due' ≡ due) × (new.refused ≡ old.refused) × (new.faults ≡ old.faults)
LastLineRule due due' old new tally (Err stopped.SourceFault) result =
    (result ≡ prints.Done) × (due' ≡ due) × (new.faults ≡ old.faults)
LastLineRule due due' old new tally (Err stopped.ImageFault) result =
    (result ≡ prints.Done) × (due' ≡ due) × (new.faults ≡ old.faults)
LastLineRule due due' old new tally ending result =
    PrintRule new.refused due due' old.faults new.faults (last_of tally ending) result

-- of what is due at most one piece is not written
abbrev pub IsNearlyWritten : Option (List ℕ) → Option (List ℕ) → Type 0
IsNearlyWritten due written =
    (text bytes : List ℕ) → due ≡ Some text → written ≡ Some bytes → length text ≤ length bytes + GATHERED_ROOM

-- the sink had failed before, and nothing was offered to it since
pub record HadFailed (old new : SinkShown) : Type 0 where
  pub refused : new.refused ≡ old.refused
  pub count : new.faults ≡ old.faults

-- the sink failed in the end, once, and was offered all that was due
pub record FailsInTheEnd (due : Option (List ℕ)) (old new : SinkShown) : Type 0 where
  pub more : ℕ
  pub refused_is : new.refused ≡ length_with due more
  pub count : FailsOnce old.faults new.faults

-- why the sink had failed in the end, by how the lines ended
abbrev pub SinkCause : Option (List ℕ) → SinkShown → SinkShown → Ending → Type 0
SinkCause due old new (Err stopped.SinkFault) = HadFailed old new
SinkCause due old new ending = FailsInTheEnd due old new

-- the sink failed in the end, or had failed before: what is written is the beginning of what is due and the last line
pub record EndsAtSink (due : Option (List ℕ)) (old new : SinkShown) (tally : Tally) (ending : Ending) : Type 0 where
  pub more : List ℕ
  pub prefix : append_known new.written more ≡ append_known due (last_of tally ending)
  pub nearly : IsNearlyWritten due new.written
  pub cause : SinkCause due old new ending

-- all that is due is written, and the last line
pub record EndsWhole (due : Option (List ℕ)) (old new : SinkShown) (tally : Tally) (ending : Ending)
    (status : Status) : Type 0 where
  pub status_is : status ≡ status_of ending
  pub whole : new.written ≡ append_known due (last_of tally ending)
  pub count : new.faults ≡ old.faults

-- How a report is ended, by the status that is told.
abbrev pub FinishRule : Option (List ℕ) → SinkShown → SinkShown → Tally → Ending → Status → Type 0
FinishRule due old new tally ending statuses.SinkFault = EndsAtSink due old new tally ending
FinishRule due old new tally ending statuses.Differs = ⊥
FinishRule due old new tally ending statuses.Usage = ⊥
FinishRule due old new tally ending status = EndsWhole due old new tally ending status

-- what is left of the script, what is written and the image's bytes are those of the beginning
pub record Begins (first : Beginning) (left written image : Option (List ℕ)) : Type 0 where
  pub left_is : left ≡ Some first.script
  pub written_is : written ≡ Some first.report
  pub image_is : image ≡ Some first.image

-- the same, where what is written may be unknown
pub record BeginsWhereKnown (first : Beginning) (left written image : Option (List ℕ)) : Type 0 where
  pub left_is : left ≡ Some first.script
  pub written_is : IfSome written (λ text. text ≡ first.report)
  pub image_is : image ≡ Some first.image

-- the status of a run that opened no image: the opener failed
abbrev pub IsUnopened : Status → Type 0
IsUnopened status = status ≡ statuses.ImageFault

-- the status is that of a run whose words had a form and whose rooms were taken
abbrev pub IsOfRun : Status → Type 0
IsOfRun statuses.Usage = ⊥
IsOfRun statuses.NoMemory = ⊥
IsOfRun _ = Unit {0}
