use Rattle.std.proofs.Common.{arith}
use Rattle.model_geometry.proofs.ByKind.{zones_fit}
use Rattle.model_geometry.proofs.Zones.{zone_start_next}
use Rattle.ram_slip.proofs.ZoneSpares.{zone_wide}
use Rattle.ram_slip.proofs.zones.zone_count.Goals as goal

pub overflow_add-zone : goal.overflow_add-zone
overflow_add-zone c = (let most = c.zone_start-start.ensures.lawful.most_zones in omega (arith, most, c.requires.zone))

pub overflow_sub-result : goal.overflow_sub-result
overflow_sub-result c = omega (arith, c.zone_start-start.ensures.start, c.zone_start.ensures.start, zone_start_next c.args.geometry.now c.args.zone)

pub overflow_sub-result-2 : goal.overflow_sub-result-2
overflow_sub-result-2 c =
    let wide = zone_wide c.args.geometry.now (zones_fit c.args.geometry.now c.zone_start-start.ensures.lawful c.requires.each).each c.args.zone in
    omega (arith, wide, c.zone_start-start.ensures.start, c.zone_start.ensures.start, zone_start_next c.args.geometry.now c.args.zone)

pub overflow_sub-result-3 : goal.overflow_sub-result-3
overflow_sub-result-3 c =
    let wide = zone_wide c.args.geometry.now (zones_fit c.args.geometry.now c.zone_start-start.ensures.lawful c.requires.each).each c.args.zone in
    omega (arith, wide, c.psa.ensures.spares, c.zone_start-start.ensures.start, c.zone_start.ensures.start, zone_start_next c.args.geometry.now c.args.zone)

pub returns-clause-count : goal.returns-clause-count
returns-clause-count c = omega (arith, c.psa.ensures.spares, c.zone_start-start.ensures.start, c.zone_start.ensures.start, zone_start_next c.args.geometry.now c.args.zone)
