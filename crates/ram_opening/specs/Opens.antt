-- What is done before a client is greeted, line by line, and what opening a session may do, by its answer. For the call that opens one
-- and the calls below it. (This project's own, as all here.)
use Rattle.std.specs.Prelude.{◌≡◌, ℕ, Bool, true, false, Option, Some, None, Result, Ok, Err, List, [], ◌∷◌, ◌++◌}
use Rattle.model_counts.specs.Counts.{Rose}
use Rattle.model_nbd.specs.Handshake.{Export as Told}
use Rattle.ram_text.specs.declared.script.Line.{Line}
use Rattle.ram_text.specs.declared.script.Line.TheVariants as lines
use Rattle.ram_machine.specs.declared.reply.Reply.{Reply}
use Rattle.ram_machine.specs.declared.status.Status.{Status}
use Rattle.ram_machine.specs.declared.status.Status.TheVariants as statuses
use Rattle.ram_machine.specs.declared.stopped.Stopped.TheVariants as stopped
use Rattle.ram_machine.specs.Answered.{AnsweredStep}
use Rattle.ram_machine.specs.States.{State, Served, Unopened, Disc, kind_of, IsFirst}
use Rattle.ram_machine.specs.LineSteps.{Step}
use Rattle.ram_machine.specs.Runs.{Run}
use Rattle.ram_script.specs.Progress.{Beginning}
use Rattle.ram_session.specs.Opening.{Given, opening_lines, lines_done, NoneRefused, export_after, IsSessionOpened}
use Rattle.ram_session.specs.Session.{EndsAtFault, EndsInOpening}
use Rattle.ram_opening.specs.declared.opening.Export.{Export}
use Rattle.ram_opening.specs.Exports.{export_size, told_export}

-- a disc lies in the drive
abbrev pub is_disc : State → Bool
is_disc (Unopened image) = false
is_disc (Disc s) = true

-- the line needs a disc, and leaves it in the drive
abbrev pub IsOpeningLine : Line → Type 0
IsOpeningLine lines.Power = Unit {0}
IsOpeningLine (lines.Fail block) = Unit {0}
IsOpeningLine (lines.Wear block n) = Unit {0}
IsOpeningLine (lines.Cut n fate) = Unit {0}
IsOpeningLine (lines.Command cdb) = Unit {0}
IsOpeningLine line = ⊥

-- The image's count, by the answer of a call that does lines of the opening: it rose exactly where the image failed.
abbrev pub OpeningCount : {X : Type 0} → ℕ → ℕ → Result X Status → Type 0
OpeningCount faults faults' (Ok x) = faults' ≡ faults
OpeningCount faults faults' (Err statuses.Script) = faults' ≡ faults
OpeningCount faults faults' (Err statuses.NotADisc) = faults' ≡ faults
OpeningCount faults faults' (Err statuses.ImageFault) = Rose faults faults'
OpeningCount faults faults' (Err status) = ⊥

-- What the drive then stands for is told by `after`.
module _ (after : State → Type 0) where
  -- the line was answered so, and a disc is left
  pub record OpeningLineDone (s : Served) (given : Given) (reply : Reply) : Type 0 where
    pub data_in : List ℕ
    pub now : Served
    pub step : Step (Disc s) given.line given.payload (Ok reply) data_in (Disc now)
    pub stands : after (Disc now)

  -- the image failed in the line
  pub record OpeningLineFailed (s : Served) (given : Given) : Type 0 where
    pub data_in : List ℕ
    pub state : State
    pub step : Step (Disc s) given.line given.payload (Err stopped.ImageFault) data_in state
    pub stands : after state

  -- What a line of the opening makes of a disc, by what became of it.
  abbrev pub OpeningLineRule : Served → Given → Result Reply Status → Type 0
  OpeningLineRule s given (Ok reply) = OpeningLineDone s given reply
  OpeningLineRule s given (Err statuses.ImageFault) = OpeningLineFailed s given
  OpeningLineRule s given (Err status) = ⊥

-- no line was done
abbrev pub IsNothingYet : List AnsweredStep → Type 0
IsNothingYet steps = steps ≡ []

-- some lines were done, and this is served after them
abbrev pub IsServedSo : Told → List AnsweredStep → Type 0
IsServedSo export [] = ⊥
IsServedSo export (step ∷ before) = export_after (step ∷ before) ≡ export

-- The lines of the opening before the rest were done, and none refused; `sofar` tells of them. A disc lies in the drive.
pub record OpenedTo (first : Beginning) (faults : List Line) (sofar : List AnsweredStep → Type 0)
    (stands : State → Type 0) (rest : List Given) : Type 0 where
  pub start : Served
  pub starts : IsFirst first.image (Disc start)
  pub kind_is : kind_of (Disc start) ≡ first.kind
  pub steps : List AnsweredStep
  pub none_refused : NoneRefused steps
  pub now : Served
  pub run : Run (Disc start) steps (Disc now)
  pub stands_now : stands (Disc now)
  pub lines_are : opening_lines faults ≡ lines_done steps ++ rest
  pub told : sofar steps

-- What some lines make of it, by what became of them: they were done, and this is served; or the session ends.
abbrev pub OpensOn : {X : Type 0} → Beginning → (faults : List Line) → (serves : X → Told) → (stands : State → Type 0)
    → (rest : List Given) → Result X Status → Type 0
OpensOn first faults serves stands rest (Ok x) = OpenedTo first faults (IsServedSo (serves x)) stands rest
OpensOn first faults serves stands rest (Err statuses.Script) = EndsAtFault first faults stands
OpensOn first faults serves stands rest (Err statuses.ImageFault) = EndsInOpening first faults stands
OpensOn first faults serves stands rest (Err status) = ⊥

-- where a disc is served, one lies in the drive
abbrev pub LiesWhereServed : (size : Option ℕ) → State → Type 0
LiesWhereServed None ready = Unit {0}
LiesWhereServed (Some size) ready = (s : Served) × (ready ≡ Disc s)

-- A session was opened, this is served, and the drive stands for the state in which the client is greeted.
pub record IsOpenedAs (first : Beginning) (faults : List Line) (stands : State → Type 0)
    (export : Export) : Type 0 where
  pub opened : IsSessionOpened first faults
  pub serves : export_after opened.steps ≡ told_export export
  pub lies : LiesWhereServed (export_size export) opened.ready
  pub stands_ready : stands opened.ready

-- What opening a session may do, by its answer.
abbrev pub SessionOpenRule : Beginning → (faults : List Line) → (stands : State → Type 0) → Result Export Status → Type 0
SessionOpenRule first faults stands (Ok export) = IsOpenedAs first faults stands export
SessionOpenRule first faults stands (Err statuses.Script) = EndsAtFault first faults stands
SessionOpenRule first faults stands (Err statuses.ImageFault) = EndsInOpening first faults stands
SessionOpenRule first faults stands (Err status) = ⊥
