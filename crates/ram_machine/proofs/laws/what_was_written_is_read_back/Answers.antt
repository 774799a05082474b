use Rattle.ram_machine.specs.SectorBytes.{bytes_of_sector}
use Rattle.ram_machine.proofs.DoneLines.{line_written, line_through, read_after}
use Rattle.ram_machine.proofs.KeptPower.{read_on}
use Rattle.ram_machine.proofs.laws.what_was_written_is_read_back.Goals as goal

pub returns-clause-through : goal.returns-clause-through
returns-clause-through c = λ s t u v written read between lba n first count at fua writes wrote among goes run leaves reads done also.
    read_after t u v read between first count at (bytes_of_sector lba written.payload at) (line_through s t written lba n at fua writes wrote among goes) run leaves reads done also

pub returns-clause-powered : goal.returns-clause-powered
returns-clause-powered c = λ s t u v written read between lba n first count at fua writes wrote among run power leaves reads done also.
    read_on t u v read between first count at (bytes_of_sector lba written.payload at) (line_written s t written lba n at fua writes wrote among) run power leaves reads done also
