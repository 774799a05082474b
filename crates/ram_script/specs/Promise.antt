-- What a user may rely on of a run, by its script, its report and its image's bytes alone: each sector is a register. (This project's
-- own, as all here.)
use Rattle.std.specs.Prelude.{◌≡◌, ℕ, Option, None, Some, List, [], ◌++◌, All}
use Rattle.ram_report.specs.ReportLines.{last_text}
use Rattle.ram_report.specs.declared.printing.LastLine.{LastLine}
use Rattle.ram_machine.specs.Register.{IsRegister}
use Rattle.ram_script.specs.Answered.{AnsweredLine, IsRead, Reaches, report_text, steps_of}

-- the text of a last line, if there is one
abbrev pub last_words : Option LastLine → List ℕ
last_words None = []
last_words (Some last) = last_text last

-- The promise: what was written is the beginning of the answers to some of the script's first lines, behind what was written before,
-- and of a last line; and each sector is a register over these lines.
pub record KeepsBytes (script report image : List ℕ) (written : Option (List ℕ)) : Type 0 where
  pub events : List AnsweredLine
  pub rest : List ℕ
  pub lines : Reaches script events rest
  pub reads : All IsRead events
  pub registers : (at : ℕ) → IsRegister image (steps_of events) at
  pub bytes : List ℕ
  pub more : List ℕ
  pub last : Option LastLine
  pub written_is : written ≡ Some bytes
  pub prefix : bytes ++ more ≡ report ++ (report_text events ++ last_words last)
