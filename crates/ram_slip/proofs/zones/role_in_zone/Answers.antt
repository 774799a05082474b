use Rattle.std.proofs.Common.{◌≡◌, ◌<◌, ◌≤◌, ◌+◌, ◌-◌, ℕ, List, length, sym, ap, ◌∙◌, subst, arith}
use Rattle.std.specs.List.{Contains}
use Rattle.model_geometry.proofs.DataBlocks.{zone_of_data_block, Contains-slice_get}
use Rattle.model_places.specs.Places.{zones_unslipped, zone_count, zone_first, pools_of}
use Rattle.model_pools.specs.Pools.{spares_in, block_in}
use Rattle.ram_dds.specs.Dds.{dds_of}
use Rattle.ram_slip.proofs.SpareAreas.{primary_pools}
use Rattle.ram_slip.proofs.ZonePlaces.{from_first}
use Rattle.ram_slip.proofs.ZoneSpares.{scaled, its_block, its_number, its_turn}
use Rattle.ram_slip.proofs.zones.role_in_zone.Goals as goal

pub returns-in_default : goal.returns-in_default
returns-in_default c = λ has. (let found = zone_of_data_block c.args.geometry.now c.args.block has in c.in_default.ensures found.0 found.1)

pub overflow_sub-j : goal.overflow_sub-j
overflow_sub-j c =
    let shape = c.args.geometry.now in
    let dds = dds_of c.args.dds.now in
    let from = from_first shape dds (scaled shape dds c.args.ssa c.requires.each c.requires.valid c.requires.area.1) c.in-Some.zone c.args.place c.args.block c.requires.at c.in-Some.ensures in
    omega (arith, from, c.kept_before.ensures)

pub returns-then-j-zone_count : goal.returns-then-j-zone_count
returns-then-j-zone_count c =
    let shape = c.args.geometry.now in
    let dds = dds_of c.args.dds.now in
    let inside : c.args.place - length (zones_unslipped shape dds c.in-Some.zone) < zone_count shape c.in-Some.zone = omega (arith, c.if-j-zone_count.true, c.kept_before.ensures, c.zone_count.ensures.count) in
    let number : c.zone_first.result + (c.args.place - c.kept_before.result) ≡ zone_first shape c.in-Some.zone + (c.args.place - length (zones_unslipped shape dds c.in-Some.zone)) = omega (arith, c.zone_first.ensures.first, c.kept_before.ensures) in
    let less = its_number shape dds c.args.ssa c.requires.each c.requires.valid c.requires.area.1 c.in-Some.zone c.args.place c.args.block c.requires.at c.in-Some.ensures inside in (
      omega (arith, less, number),
      ap (block_in (pools_of shape dds c.args.ssa)) number ∙ its_block shape dds c.args.ssa c.requires.each c.requires.valid c.requires.area.1 c.in-Some.zone c.args.place c.args.block c.requires.at c.in-Some.ensures inside,
    )

pub overflow_add-result : goal.overflow_add-result
overflow_add-result c =
    let small = c.zone_first.ensures.small in
    let few = c.zone_count.ensures.small in
    omega (arith, small, c.if-j-zone_count.true, few)

pub returns : goal.returns
returns c =
    let shape = c.args.geometry.now in
    let dds = dds_of c.args.dds.now in
    let from : zone_count shape c.in-Some.zone ≤ c.args.place - length (zones_unslipped shape dds c.in-Some.zone) = omega (arith, c.if-j-zone_count.false, c.kept_before.ensures, c.zone_count.ensures.count) in
    subst (λ (l : List ℕ). Contains l c.args.block) (sym (primary_pools shape dds c.args.ssa c.requires.each))
    (Contains-slice_get (spares_in (pools_of shape dds c.args.ssa)) _ c.args.block (its_turn shape dds c.args.ssa c.requires.each c.requires.valid c.requires.area.1 c.in-Some.zone c.args.place c.args.block c.requires.at c.in-Some.ensures from))
