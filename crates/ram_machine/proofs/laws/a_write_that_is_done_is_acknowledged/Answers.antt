use Rattle.ram_machine.proofs.DoneLines.{line_written, line_through}
use Rattle.ram_machine.proofs.laws.a_write_that_is_done_is_acknowledged.Goals as goal

pub returns-clause-has : goal.returns-clause-has
returns-clause-has c = λ s t event lba n at fua step done among. line_written s t event lba n at fua step done among

pub returns-clause-acknowledged : goal.returns-clause-acknowledged
returns-clause-acknowledged c = λ s t event lba n at fua step done among goes. line_through s t event lba n at fua step done among goes
