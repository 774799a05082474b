use Rattle.model_fairness.proofs.Calls.{blank_fair}
use Rattle.model_fairness.proofs.drives.a_blank_disc_gives_up_none.Goals as goal

pub returns : goal.returns
returns c = blank_fair
