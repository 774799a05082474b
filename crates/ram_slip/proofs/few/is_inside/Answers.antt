use Rattle.std.proofs.Common.{arith}
use Rattle.ram_slip.proofs.Counted.{inside_then}
use Rattle.ram_slip.proofs.few.is_inside.Goals as goal

pub overflow_add-zone : goal.overflow_add-zone
overflow_add-zone c = (let most = c.zone_start.ensures.lawful.most_zones in omega (arith, most, c.requires))

pub returns-then-zone_start-block : goal.returns-then-zone_start-block
returns-then-zone_start-block c =
    inside_then c.args.geometry.now c.args.zone c.args.block c.zone_start.result c.zone_start-then-zone_start-block.result c.zone_start.ensures.start c.zone_start-then-zone_start-block.ensures.start
    c.zone_start-then-zone_start-block.ensures.least c.if-zone_start-block.true
