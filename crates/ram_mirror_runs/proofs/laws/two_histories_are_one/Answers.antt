use Rattle.ram_mirror_runs.proofs.Composed.{composed}
use Rattle.ram_mirror_runs.proofs.laws.two_histories_are_one.Goals as goal

pub returns : goal.returns
returns c = composed
