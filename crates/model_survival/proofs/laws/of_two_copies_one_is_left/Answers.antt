use Rattle.model_survival.proofs.Losing.{dds_left, sdl_left}
use Rattle.model_survival.proofs.laws.of_two_copies_one_is_left.Goals as goal

pub returns-clause-dds : goal.returns-clause-dds
returns-clause-dds c = dds_left

pub returns-clause-sdl : goal.returns-clause-sdl
returns-clause-sdl c = sdl_left
