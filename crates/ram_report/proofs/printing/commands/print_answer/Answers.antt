-- As it went inside.
use Rattle.ram_report.proofs.printing.commands.print_answer.Goals as goal

pub returns : goal.returns
returns g c = c.printed.ensures _ _ _ _ _ _ c.put_answer.ensures
