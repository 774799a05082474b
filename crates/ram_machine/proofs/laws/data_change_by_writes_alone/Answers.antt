use Rattle.ram_machine.proofs.DataStays.{data_stay}
use Rattle.ram_machine.proofs.laws.data_change_by_writes_alone.Goals as goal

pub returns : goal.returns
returns c = λ blocks block old new before after underwent inside long none. data_stay blocks block inside old new before after underwent long none
