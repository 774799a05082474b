use Rattle.model_volume.proofs.OneStart.{few_found}
use Rattle.model_volume.proofs.WholeStarts.{few_whole}
use Rattle.model_volume.proofs.start_laws.a_disc_gives_sixty_four_pairs_at_most.Goals as goal

pub returns-clause-all : goal.returns-clause-all
returns-clause-all c = few_found

pub returns-clause-whole : goal.returns-clause-whole
returns-clause-whole c = few_whole
