-- As it went inside.
use Rattle.ram_report.proofs.printing.mirror.print_mirror.Goals as goal

pub returns : goal.returns
returns g c = c.printed.ensures _ _ _ _ _ _ c.put_mirror.ensures
