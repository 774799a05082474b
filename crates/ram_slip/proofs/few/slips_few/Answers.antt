use Rattle.std.proofs.Common.{sym, ◌∙◌}
use Rattle.ram_slip.proofs.Counted.{slip_tells, zones_tell}
use Rattle.ram_slip.proofs.few.slips_few.Goals as goal

pub returns-in-OneGroup : goal.returns-in-OneGroup
returns-in-OneGroup c = slip_tells c.args.geometry.now c.args.entries.now c.psa-psa.result (sym c.layout.ensures ∙ c.in-OneGroup.is) c.psa-psa.ensures.spares

pub returns-in-EachZone : goal.returns-in-EachZone
returns-in-EachZone c = zones_tell c.args.geometry.now c.args.entries.now c.psa-psa.result c.zones_have_few.result (sym c.layout.ensures ∙ c.in-EachZone.is) c.psa-psa.ensures.spares c.zones_have_few.ensures
