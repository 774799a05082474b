-- A run of a mirror over its states: each line with the text of its answer. (This project's own, as all here.)
use Rattle.std.specs.Prelude.{◌≡◌, ℕ, Bool, true, false, if◌then◌else◌, Ok, List, []}
use Rattle.ram_report.specs.MirrorLines.{mirror_text}
use Rattle.ram_script.specs.NextLines.{IsLine}
use Rattle.ram_answers.specs.Texts.{AnsweredText}
use Rattle.ram_answers.specs.StateRuns.{StateRun}
use Rattle.ram_pair.specs.declared.told.Told.{Told}
use Rattle.ram_pair.specs.declared.told.Told.TheVariants as told
use Rattle.ram_pair.specs.PairStates.{PairState}
use Rattle.ram_pair.specs.PairSteps.{RawStep}

-- the text of an answer, with the bytes that a read gave
abbrev pub told_text : ℕ → Told → (bytes : List ℕ) → List ℕ
told_text number told.Nothing bytes = []
told_text number (told.Event event) bytes = mirror_text number event bytes

-- whether it is an answer
abbrev pub is_answer : Told → Bool
is_answer told.Nothing = false
is_answer (told.Event event) = true

-- From the state before, the line of this number leads to the state after: it is answered so, and this is the text of its answer.
pub record IsPairStep (before : PairState) (number : ℕ) (event : AnsweredText) (after : PairState) : Type 0 where
  pub line : IsLine event.raw
  pub told : Told
  pub bytes : List ℕ
  pub step : RawStep before event.raw (Ok told) bytes after
  pub text_is : event.text ≡ told_text number told bytes
  pub answers_are : event.answers ≡ (if is_answer told then 1 else 0)

-- The lines, the newest first, lead from the first state to the last.
abbrev pub PairRun : PairState → List AnsweredText → PairState → Type 0
PairRun = StateRun IsPairStep
