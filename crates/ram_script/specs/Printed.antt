-- What becomes of a run where a print fails. For the calls that print.
use Rattle.std.specs.Prelude.{Result, Ok, Err}
use Rattle.ram_report.specs.declared.gathered.Print.{Print}
use Rattle.ram_report.specs.declared.gathered.Print.TheVariants as prints
use Rattle.ram_machine.specs.declared.stopped.Stopped.{Stopped}
use Rattle.ram_machine.specs.declared.stopped.Stopped.TheVariants as stopped

-- why a run ends where a print failed (this project's own)
abbrev pub printed : Print → Result (Unit {0}) Stopped
printed prints.Done = Ok tt
printed prints.Failed = Err stopped.SinkFault
