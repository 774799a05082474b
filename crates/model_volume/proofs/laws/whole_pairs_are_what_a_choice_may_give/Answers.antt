use Rattle.model_volume.proofs.Losses.{given_chosen, chosen_was_whole}
use Rattle.model_volume.proofs.laws.whole_pairs_are_what_a_choice_may_give.Goals as goal

pub returns-clause-may : goal.returns-clause-may
returns-clause-may c = given_chosen

pub returns-clause-no_other : goal.returns-clause-no_other
returns-clause-no_other c = chosen_was_whole
