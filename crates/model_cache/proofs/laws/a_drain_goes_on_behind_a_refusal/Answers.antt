use Rattle.model_cache.proofs.Refusals.{tells_first}
use Rattle.model_cache.proofs.Spareless.{tries_spareless}
use Rattle.model_cache.proofs.laws.a_drain_goes_on_behind_a_refusal.Goals as goal

pub returns-clause-tells : goal.returns-clause-tells
returns-clause-tells c = tells_first

pub returns-clause-spareless : goal.returns-clause-spareless
returns-clause-spareless c = tries_spareless
