use Rattle.model_sectors.specs.Discs.{zeros}
use Rattle.ram_certify.proofs.certification.zero_block.Goals as goal

pub returns-clause-zeros : goal.returns-clause-zeros
unfolding zeros
returns-clause-zeros c = c.zeros.ensures.zeros
