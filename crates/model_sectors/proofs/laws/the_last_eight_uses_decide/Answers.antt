use Rattle.model_sectors.proofs.Fronts.{front_is, all_are, before_does_not_matter}
use Rattle.model_sectors.proofs.laws.the_last_eight_uses_decide.Goals as goal

pub returns-clause-front : goal.returns-clause-front
returns-clause-front c = front_is

pub returns-clause-all : goal.returns-clause-all
returns-clause-all c = all_are

pub returns-clause-before : goal.returns-clause-before
returns-clause-before c = before_does_not_matter
