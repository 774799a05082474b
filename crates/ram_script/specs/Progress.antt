-- How far a run came: what stands between two lines, in a line, and where the lines end. For the loop over the lines and
-- the calls below it.
use Rattle.std.specs.Prelude.{◌≡◌, ℕ, ◌+◌, ◌-◌, ◌<◌, ◌≤◌, Option, None, Some, IfSome, Result, Ok, Err, List, [], ◌∷◌, ◌++◌, length, take}
use Rattle.std.specs.Io.KnownBytes.{append_known, prepend_known}
use Rattle.model_geometry.specs.declared.kinds.LayoutKind.{LayoutKind}
use Rattle.ram_text.specs.Lines.{HasNoFeed}
use Rattle.ram_text.specs.Script.{Reads}
use Rattle.ram_outside.specs.Sink.{length_with}
use Rattle.ram_outside.specs.declared.sink.Sink.{Ghosts as Sinks}
use Rattle.ram_outside.specs.declared.conversation.Conversation.{Ghosts as Conversations}
use Rattle.ram_text.specs.Dialogue.{reader_of, sink_of, talk_of, due_in}
use Rattle.ram_text.specs.declared.dialogue.Dialogue.{Dialogue}
use Rattle.ram_text.specs.declared.lines.TheConstants.{SCRIPT_LIMIT}
use Rattle.ram_report.specs.declared.printing.LastLine.{LastLine}
use Rattle.ram_report.specs.declared.printing.LastLine.TheVariants as lasts
use Rattle.ram_text.specs.declared.script.Line.{Line}
use Rattle.ram_machine.specs.declared.reply.Reply.{Reply}
use Rattle.ram_script.specs.declared.state.Tally.{Tally}
use Rattle.ram_machine.specs.declared.stopped.Stopped.{Stopped}
use Rattle.ram_machine.specs.declared.stopped.Stopped.TheVariants as stopped
use Rattle.ram_script.specs.NextLines.{IsWithinLimit, IsNextWithin, IsNextUnread, PassesLineLimit, PassesScriptLimit, ComesNext}
use Rattle.ram_machine.specs.LineSteps.{CountsUses, Step}
use Rattle.ram_machine.specs.Replies.{Outcome}
use Rattle.ram_script.specs.Counting.{counts_in, with_reply}
use Rattle.ram_machine.specs.States.{State, kind_of, IsFirst}
use Rattle.ram_script.specs.Answered.{AnsweredLine, Reaches, answers_of, answered_in, line_text, report_text}
use Rattle.ram_script.specs.Run.{LineRun}

-- What came first: the kind of layout that the discs have, the script, what was written before, and the image's bytes. (This
-- project's own, as all here.)
pub record Beginning : Type 0 where
  pub kind : LayoutKind
  pub script : List ℕ
  pub report : List ℕ
  pub image : List ℕ

-- The lines so far are a run from the beginning: the state that it began in, the lines, the state that they lead to, and
-- what follows them in the script. They end within the script's limit.
pub record SoFar (first : Beginning) : Type 0 where
  pub start : State
  pub events : List AnsweredLine
  pub now : State
  pub rest : List ℕ
  pub starts : IsFirst first.image start
  pub kind_is : kind_of start ≡ first.kind
  pub run : LineRun start events now
  pub lines : Reaches first.script events rest
  pub within : IsWithinLimit first.script rest

-- the report has the answers so far and no more
abbrev pub IsReported : {first : Beginning} → SoFar first → Option (List ℕ) → Type 0
IsReported {first} far due = due ≡ Some (first.report ++ report_text far.events)

-- where the bytes that are due are known, they are the answers so far and no more
abbrev pub IsDue : {first : Beginning} → SoFar first → Option (List ℕ) → Type 0
IsDue {first} far due = IfSome due (λ text. text ≡ first.report ++ report_text far.events)

-- how many lines were read, how many of these were answered, and how the commands among them
pub record IsTallied {first : Beginning} (far : SoFar first) (tally : Tally) : Type 0 where
  pub lines : tally.lines ≡ length far.events
  pub answered : tally.answered ≡ answered_in far.events
  pub counts : tally.counts ≡ counts_in far.events

-- What is known of the script and the report: the bytes that came and are not taken yet, what is left to come, what is written and
-- gathered, how many bytes there would be with what the sink refused, and how many bytes and lines were taken.
pub record View : Type 0 where
  pub buffered : List ℕ
  pub left : Option (List ℕ)
  pub due : Option (List ℕ)
  pub refused : Option ℕ
  pub taken : ℕ
  pub tally : Tally

-- what follows the lines that were taken
abbrev pub unread : View → Option (List ℕ)
unread view = prepend_known view.buffered view.left

module _ {T K : Type 0} (talks : Conversations T K) (sinks : Sinks K) where
  -- the view of a run with this dialogue, of which n lines came
  abbrev pub run_view : Dialogue T K → Tally → View
  run_view dialogue tally = record {
    buffered = (reader_of dialogue).buffered;
    left = talks.left (talk_of dialogue);
    due = due_in talks sinks dialogue;
    refused = sinks.refused (sink_of talks dialogue);
    taken = (reader_of dialogue).taken;
    tally = tally;
  }

-- the view is that of the lines so far
pub record IsAt {first : Beginning} (far : SoFar first) (view : View) : Type 0 where
  pub left_is : unread view ≡ Some far.rest
  pub taken_is : view.taken + length far.rest ≡ length first.script
  pub tallied : IsTallied far view.tally
  pub due_is : IsDue far view.due

-- Between two lines: the inserted disc stands for the state that the lines lead to, and the view is theirs. (From here on,
-- stands tells which states those are.)
pub record Between (first : Beginning) (stands : State → Type 0) (view : View) : Type 0 where
  pub far : SoFar first
  pub stands_now : stands far.now
  pub at : IsAt far view

-- A line was taken: what is left follows it, and the rest is as before it.
pub record Taken {first : Beginning} (far : SoFar first) (view : View) (line : Line) (payload : List ℕ) : Type 0 where
  pub raw : List ℕ
  pub comes : IsNextWithin first.script far.rest raw
  pub reads : Reads raw line payload
  pub left_is : unread view ≡ Some comes.next.after
  pub taken_is : view.taken + length comes.next.after ≡ length first.script
  pub tallied : IsTallied far view.tally
  pub due_is : IsDue far view.due

-- why the last line of a report says what it says
abbrev pub IsLast : {first : Beginning} → SoFar first → LastLine → Type 0
IsLast {first} far (lasts.End answered) = (far.rest ≡ []) × (answered ≡ answered_in far.events)
IsLast {first} far (lasts.NotInLanguage line) = IsNextUnread first.script far.rest × (line ≡ length far.events + 1)
IsLast {first} far (lasts.LineTooLong line) = PassesLineLimit first.script far.rest × (line ≡ length far.events + 1)
IsLast {first} far lasts.ScriptTooLong = PassesScriptLimit first.script far.rest
IsLast {first} far (lasts.NotADisc line) =
    ((next : Line) × (payload : List ℕ) × (data_in : List ℕ) × (state : State)
    × ComesNext first.script far.rest next payload
    × Step far.now next payload (Err stopped.NotADisc) data_in state)
    × (line ≡ length far.events + 1)

-- How the lines come to their end: the script's, or why the run stops.
abbrev pub Ending : Type 0
Ending = Result (Unit {0}) Stopped

-- the last line of a report whose lines come to this end, if there is one
abbrev pub last_line : Tally → Ending → Option LastLine
last_line tally (Ok done) = Some (lasts.End tally.answered)
last_line tally (Err stopped.NotInLanguage) = Some (lasts.NotInLanguage (tally.lines + 1))
last_line tally (Err stopped.LineTooLong) = Some (lasts.LineTooLong (tally.lines + 1))
last_line tally (Err stopped.ScriptTooLong) = Some lasts.ScriptTooLong
last_line tally (Err stopped.NotADisc) = Some (lasts.NotADisc (tally.lines + 1))
last_line tally (Err stopped.SourceFault) = None
last_line tally (Err stopped.SinkFault) = None
last_line tally (Err stopped.ImageFault) = None

-- the last line, if there is one, tells why the lines stop here
abbrev pub IsLastIfAny : {first : Beginning} → SoFar first → Option LastLine → Type 0
IsLastIfAny far None = Unit {0}
IsLastIfAny far (Some last) = IsLast far last

-- where the source failed, what it gave and was not taken is no whole line, and what it has left follows it
abbrev pub IsUnended : {first : Beginning} → SoFar first → View → Ending → Type 0
IsUnended far view (Err stopped.SourceFault) = HasNoFeed view.buffered × (unread view ≡ Some far.rest)
IsUnended far view _ = Unit {0}

-- the text of the newest line's answer
abbrev pub newest_text : List AnsweredLine → List ℕ
newest_text [] = []
newest_text (event ∷ events) = line_text (length events + 1) event.step.reply event.step.data_in

-- Where it is known what the sink refused last: it was offered all answers, but perhaps for an end of the newest one, of which it was
-- offered a byte at least. So no line was answered after the call that failed.
abbrev pub IsOffered : {first : Beginning} → SoFar first → Option ℕ → Type 0
IsOffered {first} far refused =
    IfSome refused (λ offered. length (first.report ++ report_text far.events) ≤ offered + (length (newest_text far.events) - 1))

-- where the sink failed, it was offered the answers
abbrev pub SinkRefusal : {first : Beginning} → SoFar first → View → Ending → Type 0
SinkRefusal far view (Err stopped.SinkFault) = IsOffered far view.refused
SinkRefusal far view _ = Unit {0}

-- The answers so far are due and counted, and where the lines stop between two of them the last line says why.
pub record IsStoppedAt {first : Beginning} (far : SoFar first) (view : View) (ending : Ending) : Type 0 where
  pub due_is : IsDue far view.due
  pub last_is : IsLastIfAny far (last_line view.tally ending)
  pub unended : IsUnended far view ending
  pub offered : SinkRefusal far view ending
  pub tallied : IsTallied far view.tally

-- why the search for the next line may stop the run
abbrev pub IsStop : Stopped → Type 0
IsStop stopped.NotADisc = ⊥
IsStop stopped.ImageFault = ⊥
IsStop _ = Unit {0}

-- What the search for the next line makes of the lines so far.
abbrev pub NextRule : {first : Beginning} → SoFar first → View → List ℕ → Result (Option Line) Stopped → Type 0
NextRule far view payload (Ok (Some line)) = Taken far view line payload
NextRule far view payload (Ok None) = IsStoppedAt far view (Ok tt)
NextRule far view payload (Err why) = IsStoppedAt far view (Err why) × IsStop why

-- an arm or a cut of the line that was found, if any, falls at a use from the next one on
abbrev pub FoundCountsUses : Result (Option Line) Stopped → Type 0
FoundCountsUses (Ok (Some line)) = CountsUses line
FoundCountsUses _ = Unit {0}

-- a line that was found took bytes of the script, within its limit
abbrev pub TakesBytes : ℕ → ℕ → Result (Option Line) Stopped → Type 0
TakesBytes taken taken' (Ok (Some line)) = (taken < taken') × (taken' ≤ SCRIPT_LIMIT)
TakesBytes taken taken' _ = Unit {0}

-- the lines but the newest
abbrev pub lines_before : List AnsweredLine → List AnsweredLine
lines_before [] = []
lines_before (event ∷ events) = events

-- how many bytes were due before the newest line
abbrev pub due_before : {first : Beginning} → SoFar first → ℕ
due_before {first} far = length (first.report ++ report_text (lines_before far.events))

-- where it is known, the beginning of the text of the answers is due, with all that was due before the newest line
pub record IsDueInPart {first : Beginning} (far : SoFar first) (due : Option (List ℕ)) : Type 0 where
  pub written : List ℕ
  pub more : List ℕ
  pub due_is : IfSome due (λ text. text ≡ written)
  pub prefix : written ++ more ≡ first.report ++ report_text far.events
  pub before : due_before far ≤ length written

-- the next line comes out so, and leaves the inserted disc in a state
pub record ComesOut {first : Beginning} (far : SoFar first) (stands : State → Type 0) (outcome : Outcome) : Type 0 where
  pub line : Line
  pub payload : List ℕ
  pub data_in : List ℕ
  pub state : State
  pub next : ComesNext first.script far.rest line payload
  pub step : Step far.now line payload outcome data_in state
  pub stands_after : stands state

-- the lines end between two of them, with the answers so far
pub record EndsBetween (first : Beginning) (stands : State → Type 0) (view : View) (ending : Ending) : Type 0 where
  pub far : SoFar first
  pub stands_now : stands far.now
  pub stopped_at : IsStoppedAt far view ending

-- the sink failed: the beginning of the answers is due, and they were offered to it
pub record EndsCutOff (first : Beginning) (stands : State → Type 0) (view : View) : Type 0 where
  pub far : SoFar first
  pub stands_now : stands far.now
  pub part : IsDueInPart far view.due
  pub offered : IsOffered far view.refused

-- the next line was not done whole, and is not told
pub record EndsInLine (first : Beginning) (stands : State → Type 0) (view : View) (outcome : Outcome) : Type 0 where
  pub far : SoFar first
  pub due_is : IsDue far view.due
  pub line : ComesOut far stands outcome

-- Why the lines end there, and what the inserted disc then stands for and is due.
abbrev pub Ends : Beginning → (State → Type 0) → View → Ending → Type 0
Ends first stands view (Err stopped.SinkFault) = EndsCutOff first stands view
Ends first stands view (Err stopped.ImageFault) = EndsInLine first stands view (Err stopped.ImageFault)
Ends first stands view ending = EndsBetween first stands view ending

-- What one line makes of what stands between two lines.
abbrev pub TurnsTo : Beginning → (State → Type 0) → View → Ending → Type 0
TurnsTo first stands view (Ok done) = Between first stands view
TurnsTo first stands view (Err why) = Ends first stands view (Err why)

-- the tally after one line more, with this reply
abbrev pub tally_with : Tally → Reply → Tally
tally_with tally reply = record {
  lines = tally.lines + 1;
  answered = tally.answered + answers_of reply;
  counts = with_reply tally.counts reply;
}

-- the text of a reply went to the end of what is due, and the line counts; what was read of the script stays
pub record IsReplied (old new : View) (reply : Reply) (data_in : List ℕ) : Type 0 where
  pub same_buffered : new.buffered ≡ old.buffered
  pub same_left : new.left ≡ old.left
  pub same_taken : new.taken ≡ old.taken
  pub grew : new.due ≡ append_known old.due (line_text (old.tally.lines + 1) reply data_in)
  pub tally_is : new.tally ≡ tally_with old.tally reply

-- the beginning of a reply's text went to the end of what is due, and a byte of it at least was offered to the sink, which failed
pub record IsToldInPart (old new : View) (text : List ℕ) : Type 0 where
  pub n : ℕ
  pub grew : new.due ≡ append_known old.due (take n text)
  pub offered : ℕ
  pub some : 0 < offered
  pub refused_is : new.refused ≡ length_with old.due offered

-- What telling the outcome of a line may do.
abbrev pub TellRule : View → View → List ℕ → Outcome → Ending → Type 0
TellRule old new data_in (Err why) result = (result ≡ Err why) × (new ≡ old)
TellRule old new data_in (Ok reply) (Ok done) = IsReplied old new reply data_in
TellRule old new data_in (Ok reply) (Err stopped.SinkFault) =
    IsToldInPart old new (line_text (old.tally.lines + 1) reply data_in)
TellRule old new data_in (Ok reply) (Err why) = ⊥
