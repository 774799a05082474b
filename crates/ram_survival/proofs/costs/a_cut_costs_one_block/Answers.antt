use Rattle.ram_survival.proofs.Counting.{run_costs}
use Rattle.ram_survival.proofs.costs.a_cut_costs_one_block.Goals as goal

pub returns : goal.returns
returns c = run_costs
