use Rattle.model_medium.proofs.Compose.{reach_none, follows_none}
use Rattle.model_medium.proofs.laws.none_is_no_use.Goals as goal

pub returns-clause-machine : goal.returns-clause-machine
returns-clause-machine c = λ machine to_come. reach_none machine to_come

pub returns-clause-world : goal.returns-clause-world
returns-clause-world c = λ world. follows_none world
