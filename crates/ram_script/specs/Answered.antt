-- The lines of a script that were answered, and the text of their answers. For the run of a script, and for the promise of a run, which
-- knows no state.
use Rattle.std.specs.Prelude.{◌≡◌, ℕ, ◌+◌, ◌<◌, ◌⊎◌, List, [], ◌∷◌, ◌++◌, length}
use Rattle.ram_text.specs.Lines.{line_feed}
use Rattle.ram_report.specs.ReportLines.{event_text, answer_text}
use Rattle.ram_text.specs.Script.{Reads}
use Rattle.ram_machine.specs.declared.reply.Reply.{Reply}
use Rattle.ram_machine.specs.declared.reply.Reply.TheVariants as replies
use Rattle.ram_machine.specs.Answered.{AnsweredStep}
use Rattle.ram_script.specs.NextLines.{IsLine}

-- One line of the script that was answered: its bytes, and the step of the machine that they asked for. (This project's own, as all
-- here.)
pub record AnsweredLine : Type 0 where
  pub raw : List ℕ
  pub step : AnsweredStep

-- the steps of these lines
abbrev pub steps_of : List AnsweredLine → List AnsweredStep
steps_of [] = []
steps_of (event ∷ events) = event.step ∷ steps_of events

-- the line is one of the script's language, and reads as its step says
pub record IsRead (event : AnsweredLine) : Type 0 where
  pub line : IsLine event.raw
  pub reads : Reads event.raw event.step.line event.step.payload

-- the bytes of the script that the lines took, each with its line feed
abbrev pub script_text : List AnsweredLine → List ℕ
script_text [] = []
script_text (event ∷ events) = script_text events ++ (event.raw ++ line_feed ∷ [])

-- the text of what a line is answered, with its number and the data that it gave
abbrev pub line_text : ℕ → Reply → List ℕ → List ℕ
line_text number replies.Nothing data_in = []
line_text number (replies.Event event) data_in = event_text number event data_in
line_text number (replies.Command cdb answer) data_in = answer_text number answer cdb data_in

-- The text of all answers. Lines are numbered from 1 on.
abbrev pub report_text : List AnsweredLine → List ℕ
report_text [] = []
report_text (event ∷ events) = report_text events ++ line_text (length events + 1) event.step.reply event.step.data_in

-- whether a line has an answer: 1 where it has
abbrev pub answers_of : Reply → ℕ
answers_of replies.Nothing = 0
answers_of (replies.Event event) = 1
answers_of (replies.Command cdb answer) = 1

-- how many lines have an answer
abbrev pub answered_in : List AnsweredLine → ℕ
answered_in [] = 0
answered_in (event ∷ events) = answered_in events + answers_of event.step.reply

-- the newest of the lines took some bytes beside a line feed
abbrev pub EndsWithBytes : List AnsweredLine → Type 0
EndsWithBytes [] = ⊥
EndsWithBytes (event ∷ events) = 0 < length event.raw

-- The lines took the beginning of the script, and rest is what follows. A last line that is not empty may lack its line
-- feed.
abbrev pub Reaches : List ℕ → List AnsweredLine → List ℕ → Type 0
Reaches script events rest =
    (script ≡ script_text events ++ rest)
    ⊎ ((rest ≡ []) × EndsWithBytes events × (script ++ line_feed ∷ [] ≡ script_text events))
