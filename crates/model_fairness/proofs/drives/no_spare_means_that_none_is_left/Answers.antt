use Rattle.model_fairness.proofs.Calls.{none_left}
use Rattle.model_fairness.proofs.drives.no_spare_means_that_none_is_left.Goals as goal

pub returns : goal.returns
returns c = none_left
