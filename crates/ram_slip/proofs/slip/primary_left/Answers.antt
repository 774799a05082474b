use Rattle.std.proofs.Common.{arith}
use Rattle.ram_dds.specs.Dds.{dds_of}
use Rattle.ram_slip.proofs.SpareAreas.{primary_is}
use Rattle.ram_slip.proofs.slip.primary_left.Goals as goal

pub overflow_cast-result : goal.overflow_cast-result
overflow_cast-result c = (let few = (primary_is c.args.geometry.now (dds_of c.args.dds.now) c.spare_room.ensures.lawful c.requires).0 in let fits = c.spare_room.type_inv in omega (arith, few, fits, c.len.ensures, c.spare_room.ensures.room))

pub overflow_sub-result : goal.overflow_sub-result
overflow_sub-result c = (let few = (primary_is c.args.geometry.now (dds_of c.args.dds.now) c.spare_room.ensures.lawful c.requires).0 in omega (arith, few, c.len.ensures, c.spare_room.ensures.room))

pub returns-clause-left : goal.returns-clause-left
returns-clause-left c = (let left = (primary_is c.args.geometry.now (dds_of c.args.dds.now) c.spare_room.ensures.lawful c.requires).1 in omega (arith, left, c.len.ensures, c.spare_room.ensures.room))
