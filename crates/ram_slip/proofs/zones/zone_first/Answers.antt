use Rattle.std.proofs.Common.{◌*◌, ℕ, ap, arith}
use Rattle.model_geometry.proofs.ByKind.{zones_fit}
use Rattle.model_geometry.proofs.Zones.{zone_start_least}
use Rattle.ram_slip.proofs.ZoneSpares.{zone_first_room}
use Rattle.ram_slip.proofs.zones.zone_first.Goals as goal

pub overflow_sub-result-2 : goal.overflow_sub-result-2
overflow_sub-result-2 c = (let scaled = c.zone_start.ensures.lawful.some_scale in omega (arith, c.zone_start.ensures.start, zone_start_least c.args.geometry.now scaled c.args.zone))

pub overflow_sub-result-3 : goal.overflow_sub-result-3
overflow_sub-result-3 c =
    let each = (zones_fit c.args.geometry.now c.zone_start.ensures.lawful c.requires.each).each in
    let room = zone_first_room c.args.geometry.now each c.args.zone in
    let same = ap (λ (q : ℕ). c.args.zone * q) c.psa.ensures.spares in
    omega (arith, c.zone_start.ensures.start, room, same)
