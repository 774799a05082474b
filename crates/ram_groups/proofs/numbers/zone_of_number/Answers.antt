use Rattle.std.proofs.Common.{◌≡◌, ◌+◌, ◌<◌, suc, inl, inr, ap, arith}
use Rattle.std.proofs.lemmas.Bool.{cases_lt}
use Rattle.model_places.specs.Places.{zone_first}
use Rattle.model_geometry.proofs.Zones.{zone_start_first}
use Rattle.ram_slip.proofs.ZoneSpares.{zone_first_next}
use Rattle.ram_groups.proofs.numbers.zone_of_number.Goals as goal

pub loop-zone-init : goal.loop-zone-init
loop-zone-init c =
    let shape = c.args.geometry.now in
    let zero : zone_first shape 0 ≡ 0 = omega (arith, zone_start_first shape) in
    let some : 0 < shape.zones = elim (cases_lt 0 shape.zones) [
      | inl some ↦ some
      | inr none ↦ absurd (let e : shape.zones ≡ 0 = omega (arith, none) in omega (arith, ap (zone_first shape) e, zero, c.requires.inside))
    ] in
    record {
      some = omega (arith, some, c.zones-end.ensures);
      within = omega (arith, c.zones-end.ensures);
      from = omega (arith, zero);
      before = omega (arith, ap (zone_first shape) c.zones-end.ensures, c.requires.inside);
    }

pub returns-clause-before : goal.returns-clause-before
returns-clause-before c =
    let shape = c.args.geometry.now in
    let last : c.loop-zone.end ≡ c.loop-zone.zone + 1 = omega (arith, c.loop-zone.invariant.some, c.loop-zone-test.false) in
    let one : c.loop-zone.end ≡ suc c.loop-zone.zone = omega (arith, last) in
    omega (arith, ap (zone_first shape) one, c.loop-zone.invariant.before, zone_first_next shape c.requires.zoned.each c.loop-zone.zone)
