-- What a user may rely on of a run of a mirror, by its script, its report and the bytes of both images alone: each sector is a register.
-- (This project's own, as all here.)
use Rattle.std.specs.Prelude.{◌≡◌, ℕ, ◌+◌, if◌then◌else◌, Option, Some, List, [], ◌∷◌, ◌++◌, All, length}
use Rattle.ram_report.specs.declared.printing.LastLine.{LastLine}
use Rattle.ram_text.specs.MirrorScript.{MirrorReads}
use Rattle.ram_script.specs.NextLines.{IsLine}
use Rattle.ram_script.specs.Promise.{last_words}
use Rattle.ram_answers.specs.Texts as texts
use Rattle.ram_answers.specs.Texts.{AnsweredText, TakesUpTo}
use Rattle.ram_pair.specs.PairStates.{TwoImages}
use Rattle.ram_pair.specs.PairTexts.{told_text, is_answer}
use Rattle.ram_mirrored.specs.MirrorRegister.{MirrorAnswered, IsMirrorRegister}

-- its bytes are one line of the language, and say that
pub record IsMirrorRead (event : MirrorAnswered) : Type 0 where
  pub line : IsLine event.raw
  pub reads : MirrorReads event.raw event.line event.payload

-- the line of this number, with the text of its answer
abbrev pub answered_text : (number : ℕ) → MirrorAnswered → AnsweredText
answered_text number event = record {
  raw = event.raw;
  answers = if is_answer event.told then 1 else 0;
  text = told_text number event.told event.bytes;
}

-- the same of all lines
abbrev pub texts_of : List MirrorAnswered → List AnsweredText
texts_of [] = []
texts_of (event ∷ events) = answered_text (length events + 1) event ∷ texts_of events

-- The promise: what was written is the beginning of the answers to some of the script's first lines, behind what was written before, and of
-- a last line; and each sector is a register over these lines.
pub record KeepsPair (script report : List ℕ) (images : TwoImages) (written : Option (List ℕ)) : Type 0 where
  pub events : List MirrorAnswered
  pub rest : List ℕ
  pub lines : TakesUpTo script (texts_of events) rest
  pub reads : All IsMirrorRead events
  pub registers : (at : ℕ) → IsMirrorRegister images events at
  pub bytes : List ℕ
  pub more : List ℕ
  pub last : Option LastLine
  pub written_is : written ≡ Some bytes
  pub prefix : bytes ++ more ≡ report ++ (texts.told_text (texts_of events) ++ last_words last)
