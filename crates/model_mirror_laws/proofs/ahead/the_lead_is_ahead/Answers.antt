use Rattle.model_mirror_laws.proofs.Knowing.{on_ahead}
use Rattle.model_mirror_laws.proofs.ahead.the_lead_is_ahead.Goals as goal

pub returns : goal.returns
returns c = on_ahead
