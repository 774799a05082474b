-- By the lemma on one step.
use Rattle.model_mirror_laws.proofs.OverRuns.{all_steps}
use Rattle.model_mirror_laws.proofs.runs.a_sector_is_kept_over_runs.Goals as goal

pub returns : goal.returns
returns c = λ shape at bytes old new steps sides knows kept run. all_steps shape at bytes old new steps run (sides, knows, kept)
