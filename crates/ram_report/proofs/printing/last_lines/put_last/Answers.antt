-- The words of each last line.
use Rattle.ram_report.proofs.printing.last_lines.put_last.Goals as goal

pub returns-in-ScriptTooLong : goal.returns-in-ScriptTooLong
returns-in-ScriptTooLong g c = rw c.in-ScriptTooLong.is c.put.ensures

pub returns-in-NotADisc : goal.returns-in-NotADisc
returns-in-NotADisc g c = rw c.in-NotADisc.is c.print_numbered-in-NotADisc.ensures
