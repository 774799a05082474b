use Rattle.model_cache.proofs.Behind.{stays_there, was_there, under_behind}
use Rattle.model_cache.proofs.laws.a_refused_block_stays_pending.Goals as goal

pub returns-clause-stays : goal.returns-clause-stays
returns-clause-stays c = stays_there

pub returns-clause-was : goal.returns-clause-was
returns-clause-was c = was_there

pub returns-clause-stands : goal.returns-clause-stands
returns-clause-stands c = under_behind
