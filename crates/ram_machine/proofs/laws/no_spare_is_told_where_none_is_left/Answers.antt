use Rattle.ram_machine.proofs.NoSpares.{none_left_now}
use Rattle.ram_machine.proofs.laws.no_spare_is_told_where_none_is_left.Goals as goal

pub returns : goal.returns
returns c = none_left_now
