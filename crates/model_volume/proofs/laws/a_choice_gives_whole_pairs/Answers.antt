use Rattle.model_volume.proofs.GivenFacts.{chosen_whole, whole_given, one_whole}
use Rattle.model_volume.proofs.laws.a_choice_gives_whole_pairs.Goals as goal

pub returns-clause-whole : goal.returns-clause-whole
returns-clause-whole c = chosen_whole

pub returns-clause-given : goal.returns-clause-given
returns-clause-given c = whole_given

pub returns-clause-one : goal.returns-clause-one
returns-clause-one c = one_whole
