use Rattle.model_survival.proofs.Losing.{dds_lost, sdl_lost, settled_lost, died_lost, mount_lost}
use Rattle.model_survival.proofs.laws.one_copy_is_lost_at_most.Goals as goal

pub returns-clause-dds : goal.returns-clause-dds
returns-clause-dds c = dds_lost

pub returns-clause-sdl : goal.returns-clause-sdl
returns-clause-sdl c = sdl_lost

pub returns-clause-settled : goal.returns-clause-settled
returns-clause-settled c = settled_lost

pub returns-clause-died : goal.returns-clause-died
returns-clause-died c = died_lost

pub returns-clause-mount : goal.returns-clause-mount
returns-clause-mount c = mount_lost
