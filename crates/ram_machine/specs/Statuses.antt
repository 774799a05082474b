-- The exit status of the program. For the program, and for those who start it.
use Rattle.std.specs.Prelude.{ℕ}
use Rattle.ram_machine.specs.declared.status.Status.{Status}
use Rattle.ram_machine.specs.declared.status.Status.TheVariants.{Done, Differs, Usage, Script, ImageFault, SourceFault, SinkFault, NoMemory, NotADisc}

-- the number that each end of a run is told by (this project's own)
abbrev pub exit_number : Status → ℕ
exit_number Done = 0
exit_number Differs = 1
exit_number Usage = 2
exit_number Script = 3
exit_number ImageFault = 4
exit_number SourceFault = 5
exit_number SinkFault = 6
exit_number NoMemory = 7
exit_number NotADisc = 8
