use Rattle.model_cache.proofs.Settled.{under_settled}
use Rattle.model_cache.proofs.laws.what_is_not_pending_is_settled.Goals as goal

pub returns : goal.returns
returns c = under_settled
