use Rattle.model_medium.proofs.Compose.{reach_then, follows_then, follows-reach}
use Rattle.model_medium.proofs.laws.composes.Goals as goal

pub returns-clause-machine : goal.returns-clause-machine
returns-clause-machine c = λ first mid last j k one two. reach_then first mid last j k one two

pub returns-clause-world : goal.returns-clause-world
returns-clause-world c = λ first mid last j k one two. follows_then first mid last j k one two

pub returns-clause-of_machines : goal.returns-clause-of_machines
returns-clause-of_machines c = λ first last k reach. follows-reach first last k reach

pub returns-clause-dead_stays_dead : goal.returns-clause-dead_stays_dead
returns-clause-dead_stays_dead c = λ first last k block follows dead. follows.lasts.stays_dead block dead
