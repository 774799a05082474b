use Rattle.ram_machine.proofs.SectorNothing.{one_of_them}
use Rattle.ram_machine.proofs.promise.nothing_else_is_shown.Goals as goal

pub returns : goal.returns
returns c = one_of_them
