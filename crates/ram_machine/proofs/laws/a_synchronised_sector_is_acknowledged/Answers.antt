use Rattle.ram_machine.proofs.Synced.{line_synced}
use Rattle.ram_machine.proofs.laws.a_synchronised_sector_is_acknowledged.Goals as goal

pub returns-clause-has : goal.returns-clause-has
returns-clause-has c = λ s t event at bytes step done has. (line_synced at bytes s t event step done has).0

pub returns-clause-acknowledged : goal.returns-clause-acknowledged
returns-clause-acknowledged c = λ s t event at bytes step done has. (line_synced at bytes s t event step done has).1
