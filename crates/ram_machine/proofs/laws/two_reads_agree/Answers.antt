use Rattle.ram_machine.specs.SectorBytes.{bytes_of_sector}
use Rattle.ram_machine.proofs.DoneLines.{line_read}
use Rattle.ram_machine.proofs.KeptPower.{read_on}
use Rattle.ram_machine.proofs.laws.two_reads_agree.Goals as goal

pub returns : goal.returns
returns c = λ s t u v one two between lba n first count at reads was among run power leaves again done also.
    read_on t u v two between first count at (bytes_of_sector lba one.data_in at) (line_read s t one lba n at reads was among) run power leaves again done also
