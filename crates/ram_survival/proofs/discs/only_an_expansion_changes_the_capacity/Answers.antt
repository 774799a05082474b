use Rattle.ram_survival.proofs.LastingRuns.{capacity_stays}
use Rattle.ram_survival.proofs.discs.only_an_expansion_changes_the_capacity.Goals as goal

pub returns : goal.returns
returns c = capacity_stays
