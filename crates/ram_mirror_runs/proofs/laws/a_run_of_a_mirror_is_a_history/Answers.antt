use Rattle.ram_mirror_runs.proofs.RunHistories.{word_history}
use Rattle.ram_mirror_runs.proofs.laws.a_run_of_a_mirror_is_a_history.Goals as goal

pub returns : goal.returns
returns c = word_history
