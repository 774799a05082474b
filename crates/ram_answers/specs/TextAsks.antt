-- That answers are not kept back: how it stands whenever more of the script is asked for. (This project's own, as all here.)
use Rattle.std.specs.Prelude.{Some, ◌++◌}
use Rattle.ram_outside.specs.Conversation.{Asked}
use Rattle.ram_text.specs.Lines.{IsOpenAsk}
use Rattle.ram_answers.specs.declared.answers.Answers.{Ghosts as Answerers}
use Rattle.ram_answers.specs.Texts.{told_text}
use Rattle.ram_answers.specs.TextRuns.{TextBeginning, ToldSoFar}

-- More was asked for when these lines were answered: all their answers, and no more, were written, and of what follows these lines no whole
-- line had come.
pub record IsToldBy {A R : Type 0} (these : Answerers A R) (first : TextBeginning A) (ask : Asked) : Type 0 where
  pub now : A
  pub far : ToldSoFar these first now
  pub shown : IsOpenAsk (Some far.rest) (Some (first.report ++ told_text far.events)) ask
