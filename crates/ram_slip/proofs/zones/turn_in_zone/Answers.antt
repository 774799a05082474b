use Rattle.std.proofs.Common.{◌≡◌, ◌≤◌, ◌+◌, ◌-◌, suc, length, ap, ◌∙◌, arith}
use Rattle.std.specs.Prelude.{slice_get}
use Rattle.model_geometry.proofs.DataBlocks.{zone_of_data_block}
use Rattle.model_places.specs.Places.{zones_unslipped, zone_count, zone_first, pools_of}
use Rattle.model_places.proofs.Layouts.{spare_is_unslipped}
use Rattle.model_places.proofs.Pools.{unslipped_are_data}
use Rattle.model_pools.specs.Pools.{spares_in}
use Rattle.ram_dds.specs.Dds.{dds_of}
use Rattle.ram_slip.proofs.ZonePlaces.{from_first}
use Rattle.ram_slip.proofs.ZoneSpares.{scaled, no_spare, turn_room, its_turn}
use Rattle.ram_slip.proofs.zones.turn_in_zone.Goals as goal

pub returns-in_default : goal.returns-in_default
returns-in_default c = λ has.
    (let shape = c.args.geometry.now in
    let dds = dds_of c.args.dds.now in
    let found = zone_of_data_block shape c.args.block (unslipped_are_data shape dds c.args.block (spare_is_unslipped shape dds c.args.ssa c.args.block has)) in
    c.in_default.ensures found.0 found.1)

pub overflow_sub-place : goal.overflow_sub-place
overflow_sub-place c =
    let shape = c.args.geometry.now in
    let dds = dds_of c.args.dds.now in
    let from = from_first shape dds (scaled shape dds c.args.ssa c.requires.each c.requires.valid c.requires.area.1) c.in-Some.zone c.args.place c.args.block c.requires.at c.in-Some.ensures in
    omega (arith, from, c.kept_before.ensures)

pub returns-then-place-kept_before : goal.returns-then-place-kept_before
returns-then-place-kept_before c =
    no_spare c.args.geometry.now (dds_of c.args.dds.now) c.args.ssa c.requires.each c.requires.valid c.requires.area.1 c.in-Some.zone c.args.place c.args.block c.requires.at c.in-Some.ensures
    (omega (arith, c.if-place-kept_before.true, c.kept_before.ensures, c.zone_count.ensures.count))

next : (c : goal.After-zone_first) → c.zone_first.result ≡ zone_first c.args.geometry.now (suc c.in-Some.zone)
next c = (let e : c.in-Some.zone + 1 ≡ suc c.in-Some.zone = omega arith in c.zone_first.ensures.first ∙ ap (zone_first c.args.geometry.now) e)

behind : (c : goal.After-zone_first) → zone_count c.args.geometry.now c.in-Some.zone ≤ c.args.place - length (zones_unslipped c.args.geometry.now (dds_of c.args.dds.now) c.in-Some.zone)
behind c = omega (arith, c.if-place-kept_before.false, c.kept_before.ensures, c.zone_count.ensures.count)

pub overflow_sub-result : goal.overflow_sub-result
overflow_sub-result c =
    let room = turn_room c.args.geometry.now (dds_of c.args.dds.now) c.args.ssa c.requires.each c.requires.valid c.requires.area.1 c.in-Some.zone c.args.place c.args.block c.requires.at c.in-Some.ensures (behind c) in
    omega (arith, room, next c)

pub returns : goal.returns
returns c =
    let shape = c.args.geometry.now in
    let dds = dds_of c.args.dds.now in
    let e : c.args.place - c.zone_first.result ≡ c.args.place - zone_first shape (suc c.in-Some.zone) = omega (arith, next c) in
    ap (slice_get (spares_in (pools_of shape dds c.args.ssa))) e
    ∙ its_turn shape dds c.args.ssa c.requires.each c.requires.valid c.requires.area.1 c.in-Some.zone c.args.place c.args.block c.requires.at c.in-Some.ensures (behind c)
