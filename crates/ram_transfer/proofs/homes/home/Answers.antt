use Rattle.ram_groups.specs.Layouts.{layout_pools}
use Rattle.ram_lists.specs.Lists.{lists_of}
use Rattle.ram_replace.proofs.Under.{logical_here}
use Rattle.ram_transfer.proofs.homes.home.Goals as goal

pub home-requires-clause-inside : goal.home-requires-clause-inside
home-requires-clause-inside c =
    logical_here c.args.geometry.now (lists_of c.args.lists.now) c.requires.valid (layout_pools c.args.layout.now) c.requires.pools c.args.i c.requires.inside
