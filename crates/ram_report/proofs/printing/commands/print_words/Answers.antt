-- The words of each answer.
use Rattle.std.proofs.Common.{codes}
use Rattle.ram_report.specs.ReportLines.{sense_code, info_words}
use Rattle.ram_report.proofs.Turns.{regrouped}
use Rattle.ram_report.proofs.printing.commands.print_words.Goals as goal

pub returns-in-Check : goal.returns-in-Check
returns-in-Check g c =
    rw c.in-Check.is (regrouped _ _ _ _ _ (codes " check ") (sense_code c.in-Check.sense) (info_words c.in-Check.sense.info) (codes "\n") _ c.print_check.ensures)
