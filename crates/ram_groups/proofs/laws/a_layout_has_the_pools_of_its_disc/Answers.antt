use Rattle.ram_groups.proofs.Layouts.{pools_of_layout, kind_of_layout, blocks_of_layout, layout_may_have, resized_layout}
use Rattle.ram_groups.proofs.laws.a_layout_has_the_pools_of_its_disc.Goals as goal

pub returns-clause-pools : goal.returns-clause-pools
returns-clause-pools c = pools_of_layout

pub returns-clause-may : goal.returns-clause-may
returns-clause-may c = layout_may_have

pub returns-clause-kind : goal.returns-clause-kind
returns-clause-kind c = kind_of_layout

pub returns-clause-blocks : goal.returns-clause-blocks
returns-clause-blocks c = blocks_of_layout

pub returns-clause-resized : goal.returns-clause-resized
returns-clause-resized c = resized_layout
