use Rattle.model_volume.proofs.ChosenFirst.{chosen_first}
use Rattle.model_volume.proofs.start_laws.chosen_lists_stand_first.Goals as goal

pub returns : goal.returns
returns c = chosen_first
