-- That answers are not kept back: how it stands whenever more of the script is asked for. For the main clause of the run.
use Rattle.std.specs.Prelude.{Some, ◌++◌}
use Rattle.ram_outside.specs.Conversation.{Asked}
use Rattle.ram_text.specs.Lines.{IsOpenAsk}
use Rattle.ram_script.specs.Answered.{report_text}
use Rattle.ram_script.specs.Progress.{Beginning, SoFar}

-- More was asked for when these lines were answered: all their answers, and no more, were written, and of what follows these lines no whole
-- line had come. (This project's own.)
pub record IsAnsweredBy (first : Beginning) (ask : Asked) : Type 0 where
  pub far : SoFar first
  pub shown : IsOpenAsk (Some far.rest) (Some (first.report ++ report_text far.events)) ask
