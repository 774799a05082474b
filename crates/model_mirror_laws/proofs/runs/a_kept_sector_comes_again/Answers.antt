use Rattle.model_mirror_laws.proofs.Comes.{power_keeps_sector, begins_again}
use Rattle.model_mirror_laws.proofs.runs.a_kept_sector_comes_again.Goals as goal

pub returns-clause-power : goal.returns-clause-power
returns-clause-power c = power_keeps_sector

pub returns-clause-begins : goal.returns-clause-begins
returns-clause-begins c = begins_again
