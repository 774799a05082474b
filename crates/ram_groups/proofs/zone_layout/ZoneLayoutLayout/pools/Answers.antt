use Rattle.std.proofs.Common.{◌∙◌, sym, arith}
use Rattle.ram_groups.proofs.Cutting.{pools_many, spares_few}
use Rattle.ram_groups.proofs.Tables.{zones_are, zoned_by, cut_by, few_blocks}
use Rattle.ram_groups.proofs.zone_layout.ZoneLayoutLayout.pools.Goals as goal

pub returns-clause-count : goal.returns-clause-count
returns-clause-count c =
    let table = c.args.self.now in
    c.zones.ensures ∙ zones_are c.self.inside table c.self.view_is c.self.invariant ∙ sym (pools_many table.shape table.blocks table.starts)

pub returns-clause-few : goal.returns-clause-few
returns-clause-few c = λ pool.
    let table = c.args.self.now in
    let inside = c.self.inside in
    let few = spares_few table.shape table.blocks table.starts (zoned_by inside table c.self.view_is c.self.invariant) (cut_by inside table c.self.view_is c.self.invariant) pool in
    omega (arith, few, few_blocks inside table c.self.view_is c.self.invariant)
