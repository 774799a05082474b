-- A run of lines, over what answers them. (This project's own, as all here.)
use Rattle.std.specs.Prelude.{◌≡◌, ℕ, ◌+◌, if◌then◌else◌, Ok, List, [], ◌∷◌, length}
use Rattle.ram_script.specs.NextLines.{IsLine, IsWithinLimit}
use Rattle.ram_answers.specs.declared.answers.Answers.{Ghosts as Answerers}
use Rattle.ram_answers.specs.Texts.{AnsweredText, TakesUpTo}

-- What came first: what answers the lines, the script, and what was written before.
pub record TextBeginning (A : Type 0) : Type 0 where
  pub start : A
  pub script : List ℕ
  pub report : List ℕ

module _ {A R : Type 0} (these : Answerers A R) where
  -- The line of this number was answered so, by what this was before, which is this afterwards.
  pub record IsTextStep (before : A) (number : ℕ) (event : AnsweredText) (after : A) : Type 0 where
    pub line : IsLine event.raw
    pub reply : R
    pub answered : these.answered before event.raw (Ok reply) after
    pub text_is : event.text ≡ these.text after number reply
    pub answers_are : event.answers ≡ (if these.is_answer reply then 1 else 0)

  -- The lines, the newest first, lead from the first to the last.
  abbrev pub TextRun : A → List AnsweredText → A → Type 0
  TextRun first [] last = last ≡ first
  TextRun first (event ∷ events) last =
      (before : A) × TextRun first events before × IsTextStep before (length events + 1) event last

  -- The lines so far are a run from the beginning, which leads to this: the lines, and what follows them in the script. They end
  -- within the script's limit.
  pub record ToldSoFar (first : TextBeginning A) (now : A) : Type 0 where
    pub events : List AnsweredText
    pub rest : List ℕ
    pub run : TextRun first.start events now
    pub lines : TakesUpTo first.script events rest
    pub within : IsWithinLimit first.script rest
