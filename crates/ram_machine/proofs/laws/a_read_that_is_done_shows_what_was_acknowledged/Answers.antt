use Rattle.ram_machine.proofs.DoneLines.{line_shows, line_gives, line_read}
use Rattle.ram_machine.proofs.KeptPower.{now_keeps}
use Rattle.ram_machine.proofs.laws.a_read_that_is_done_shows_what_was_acknowledged.Goals as goal

pub returns-clause-shown : goal.returns-clause-shown
returns-clause-shown c = λ s t event lba n at bytes step done among keeps. line_shows s t event lba n at bytes step done among keeps

pub returns-clause-now : goal.returns-clause-now
returns-clause-now c = λ s t event lba n at bytes step done among has. line_gives s t event lba n at bytes step done among (now_keeps at bytes s has)

pub returns-clause-has : goal.returns-clause-has
returns-clause-has c = λ s t event lba n at step done among. line_read s t event lba n at step done among
