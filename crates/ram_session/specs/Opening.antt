-- What is done before a client is greeted, and what it is served then. (This project's own, as all here.)
use Rattle.std.specs.Prelude.{◌≡◌, ℕ, ◌*◌, List, [], ◌∷◌, ◌++◌, map, replicate, codes}
use Rattle.model_nbd.specs.Handshake.{Export, Serving, Nothing}
use Rattle.ram_report.specs.declared.printing.Event.TheVariants as events
use Rattle.ram_text.specs.declared.script.Line.{Line}
use Rattle.ram_text.specs.declared.script.Line.TheVariants as lines
use Rattle.ram_machine.specs.declared.reply.Reply.{Reply}
use Rattle.ram_machine.specs.declared.reply.Reply.TheVariants as replies
use Rattle.ram_machine.specs.Answered.{AnsweredStep}
use Rattle.ram_machine.specs.States.{State, Unopened, Disc, kind_of, IsFirst}
use Rattle.ram_machine.specs.Runs.{Run}
use Rattle.ram_script.specs.Progress.{Beginning}

-- MODE SELECT(10) of the caching page, by which the write cache is on
abbrev pub cache_on_cdb : List ℕ
cache_on_cdb = 0x55 ∷ 0x10 ∷ replicate 6 0 ++ 20 ∷ 0 ∷ []

-- its data: the header, and the caching page with the write cache on
abbrev pub cache_on_page : List ℕ
cache_on_page = replicate 8 0 ++ 8 ∷ 10 ∷ 4 ∷ replicate 9 0

-- a line, and the data that go with it
pub record Given : Type 0 where
  pub line : Line
  pub payload : List ℕ

-- a line without data
abbrev pub without_data : Line → Given
without_data line = record { line = line; payload = [] }

-- The lines that are done on a disc before a client is greeted: the power comes on; TEST UNIT READY takes the attention; MODE SELECT
-- turns the write cache on; and then the faults that the words ask for.
abbrev pub opening_lines : (faults : List Line) → List Given
opening_lines faults =
    without_data lines.Power ∷ without_data (lines.Command (replicate 6 0))
    ∷ record { line = lines.Command cache_on_cdb; payload = cache_on_page } ∷ map without_data faults

-- the lines that were done, the oldest first
abbrev pub lines_done : List AnsweredStep → List Given
lines_done [] = []
lines_done (step ∷ before) = lines_done before ++ record { line = step.line; payload = step.payload } ∷ []

-- the drive has no such block, or no room for one more
abbrev pub RefusesFault : Reply → Type 0
RefusesFault (replies.Event events.NoSuchBlock) = Unit {0}
RefusesFault (replies.Event events.Full) = Unit {0}
RefusesFault _ = ⊥

-- none of these was refused so
abbrev pub NoneRefused : List AnsweredStep → Type 0
NoneRefused [] = Unit {0}
NoneRefused (step ∷ before) = ¬ RefusesFault step.reply × NoneRefused before

-- What is served after the power was answered so: a disc of this many bytes; or nothing, and why.
abbrev pub served_after : Reply → Export
served_after (replies.Event (events.Ready sectors)) = Serving (2048 * sectors)
served_after (replies.Event events.NotFormatted) = Nothing (codes "the disc is not formatted")
served_after _ = Nothing (codes "the power is off")

-- The same after all lines before the greeting, of which the power is the oldest.
abbrev pub export_after : List AnsweredStep → Export
export_after [] = Nothing (codes "the image holds no disc")
export_after (power ∷ []) = served_after power.reply
export_after (step ∷ (other ∷ before)) = export_after (other ∷ before)

-- Where the image holds a disc, all lines were done and none refused; where it holds none, no line was done.
abbrev pub AreOpening : (start : State) → (faults : List Line) → List AnsweredStep → Type 0
AreOpening (Unopened image) faults steps = steps ≡ []
AreOpening (Disc s) faults steps = (lines_done steps ≡ opening_lines faults) × NoneRefused steps

-- A session was opened: what the image holds, the lines that were done, and the state in which the client is greeted.
pub record IsSessionOpened (first : Beginning) (faults : List Line) : Type 0 where
  pub start : State
  pub starts : IsFirst first.image start
  pub kind_is : kind_of start ≡ first.kind
  pub steps : List AnsweredStep
  pub lines_are : AreOpening start faults steps
  pub ready : State
  pub run : Run start steps ready

-- some of the lines were done, and none refused: what the image holds, these lines, the state after them, and the next line
pub record IsOpenedInPart (first : Beginning) (faults : List Line) : Type 0 where
  pub start : State
  pub starts : IsFirst first.image start
  pub kind_is : kind_of start ≡ first.kind
  pub steps : List AnsweredStep
  pub none_refused : NoneRefused steps
  pub now : State
  pub run : Run start steps now
  pub next : Given
  pub others : List Given
  pub lines_are : opening_lines faults ≡ lines_done steps ++ (next ∷ others)
