use Rattle.ram_mirror_runs.proofs.ShownAgain.{shown_over_runs}
use Rattle.ram_mirror_runs.proofs.laws.a_written_sector_is_shown_over_runs.Goals as goal

pub returns : goal.returns
returns c = shown_over_runs
