use Rattle.ram_groups.proofs.Tables.{number_below, pool_by, pool_within}
use Rattle.ram_groups.proofs.zone_layout.ZoneLayoutLayout.pool_of.Goals as goal

pub zone_of_number-requires-clause-inside : goal.zone_of_number-requires-clause-inside
zone_of_number-requires-clause-inside c = number_below c.self.inside c.args.self.now c.self.view_is c.self.invariant c.args.i c.requires

pub returns-clause-pool : goal.returns-clause-pool
returns-clause-pool c =
    let found = c.zone_of_number.ensures in
    pool_by c.self.inside c.args.self.now c.self.view_is c.self.invariant c.zone_of_number.result c.args.i found.inside found.from found.before

pub returns-clause-inside : goal.returns-clause-inside
returns-clause-inside c =
    let found = c.zone_of_number.ensures in
    pool_within c.self.inside c.args.self.now c.self.view_is c.self.invariant c.zone_of_number.result c.args.i found.inside found.from found.before
