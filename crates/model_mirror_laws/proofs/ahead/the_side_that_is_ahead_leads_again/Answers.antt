-- By the lemmas on who leads once both sides woke.
use Rattle.model_mirror_laws.proofs.Again.{leads_again}
use Rattle.model_mirror_laws.proofs.ahead.the_side_that_is_ahead_leads_again.Goals as goal

pub returns : goal.returns
returns c = leads_again
