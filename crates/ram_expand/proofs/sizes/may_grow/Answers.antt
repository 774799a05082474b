use Rattle.std.proofs.Common.{sym}
use Rattle.ram_expand.proofs.Sizing.{slips_grow, zones_stay}
use Rattle.ram_expand.proofs.sizes.may_grow.Goals as goal

pub returns-in-OneGroup : goal.returns-in-OneGroup
returns-in-OneGroup c = slips_grow c.args.geometry.now (sym c.in-OneGroup.ensures)

pub returns-in-EachZone : goal.returns-in-EachZone
returns-in-EachZone c = zones_stay c.args.geometry.now (sym c.in-EachZone.ensures)
