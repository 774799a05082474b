-- By the lemma on a good read.
use Rattle.model_mirror_laws.proofs.ReadStays.{read_shows}
use Rattle.model_mirror_laws.proofs.runs.a_kept_sector_is_shown.Goals as goal

pub returns : goal.returns
returns c = λ old new at bytes into whole cause comes kept. read_shows at bytes into whole old new cause comes kept
