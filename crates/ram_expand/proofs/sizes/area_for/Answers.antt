use Rattle.ram_expand.proofs.Sizing.{area_is}
use Rattle.ram_expand.proofs.sizes.area_for.Goals as goal

pub returns-clause-area : goal.returns-clause-area
returns-clause-area c = area_is c.args.geometry.now c.data_blocks.result c.spare_room.result c.args.capacity c.data_blocks.ensures.count c.spare_room.ensures.room
