use Rattle.ram_machine.proofs.SectorOpened.{registers}
use Rattle.ram_machine.proofs.SectorAgain.{registers_again}
use Rattle.ram_machine.proofs.promise.each_sector_is_a_register.Goals as goal

pub returns-clause-run : goal.returns-clause-run
returns-clause-run c = registers

pub returns-clause-again : goal.returns-clause-again
returns-clause-again c = registers_again
