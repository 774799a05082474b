-- As it went inside.
use Rattle.ram_report.proofs.printing.parts.print_line.Goals as goal

pub returns : goal.returns
returns g c = c.printed.ensures _ _ _ _ _ _ c.put_line.ensures
