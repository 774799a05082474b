use Rattle.std.proofs.Common.{◌≡◌, ◌+◌, ◌-◌, ◌<◌, ◌≤◌, ap, ◌∙◌, subst, arith}
use Rattle.std.specs.Prelude.{slice_get, slice_index}
use Rattle.std.specs.List.{Contains}
use Rattle.model_geometry.specs.Geometry.{Shape, data_blocks}
use Rattle.model_geometry.proofs.DataBlocks.{Contains-slice_get}
use Rattle.model_places.specs.Places.{zone_count, zone_first}
use Rattle.model_pools.specs.Pools.{logical_in}
use Rattle.ram_groups.specs.Zoning.{zone_pools}
use Rattle.ram_groups.proofs.Cutting.{is_spare, is_logical}
use Rattle.ram_groups.proofs.Tables.{geometry_is, count_is, first_of, zoned_by, cut_by, few_blocks, neither_by, there_by, below_by}
use Rattle.ram_groups.proofs.zone_layout.ZoneLayoutLayout.role.Goals as goal

pub returns-in-Some-data_index : goal.returns-in-Some-data_index
returns-in-Some-data_index c = (
  subst (λ (s : Shape). Contains (data_blocks s) c.args.block) (geometry_is c.self.inside c.args.self.now c.self.view_is c.self.invariant)
      (Contains-slice_get (data_blocks c.self.inside.geometry) c.in-Some-data_index.field-0 c.args.block c.in-Some-data_index.ensures),
  neither_by c.self.inside c.args.self.now c.self.view_is c.self.invariant c.as_slice.result.now c.as_slice.ensures.value c.args.block c.in_default.ensures,
)

pub zone_of_place-zone-requires : goal.zone_of_place-zone-requires
zone_of_place-zone-requires c = below_by c.self.inside c.args.self.now c.self.view_is c.self.invariant c.as_slice.result.now c.as_slice.ensures.value c.args.block c.in-Some.n c.in-Some.ensures

pub overflow_add-result : goal.overflow_add-result
overflow_add-result c =
    let below = below_by c.self.inside c.args.self.now c.self.view_is c.self.invariant c.as_slice.result.now c.as_slice.ensures.value c.args.block c.in-Some.n c.in-Some.ensures in
    omega (arith, below, c.zone_first.ensures.small, few_blocks c.self.inside c.args.self.now c.self.view_is c.self.invariant)

pub returns-then-after-zone_count : goal.returns-then-after-zone_count
returns-then-after-zone_count c =
    let table = c.args.self.now in
    let inside = c.self.inside in
    let zone = c.zone_of_place-zone.result in
    let found = c.zone_of_place-zone.ensures in
    let from = found.from in
    let at = there_by inside table c.self.view_is c.self.invariant c.as_slice.result.now c.as_slice.ensures.value c.args.block c.in-Some.n c.in-Some.ensures in
    let number : c.zone_first.result + (c.in-Some.n - c.start.result) ≡ zone_first table.shape zone + (c.in-Some.n - slice_index table.starts zone) =
    omega (arith, c.zone_first.ensures.first, c.start.ensures, first_of inside table c.self.view_is c.self.invariant zone) in
    let before : c.in-Some.n - slice_index table.starts zone < zone_count table.shape zone =
    omega (arith, c.if-after-zone_count.true, c.start.ensures, c.zone_count.ensures.count, count_is inside table c.self.view_is c.self.invariant zone) in
    ap (slice_get (logical_in (zone_pools table))) number
    ∙ is_logical table.shape table.blocks table.starts (zoned_by inside table c.self.view_is c.self.invariant) (cut_by inside table c.self.view_is c.self.invariant) zone c.in-Some.n c.args.block found.inside from before at

pub returns : goal.returns
returns c =
    let table = c.args.self.now in
    let inside = c.self.inside in
    let zone = c.zone_of_place-zone.result in
    let found = c.zone_of_place-zone.ensures in
    let from = found.from in
    let at = there_by inside table c.self.view_is c.self.invariant c.as_slice.result.now c.as_slice.ensures.value c.args.block c.in-Some.n c.in-Some.ensures in
    let behind : slice_index table.starts zone + zone_count table.shape zone ≤ c.in-Some.n =
    omega (arith, from, c.if-after-zone_count.false, c.start.ensures, c.zone_count.ensures.count, count_is inside table c.self.view_is c.self.invariant zone) in
    is_spare table.shape table.blocks table.starts (zoned_by inside table c.self.view_is c.self.invariant) (cut_by inside table c.self.view_is c.self.invariant) zone c.in-Some.n c.args.block found.inside behind found.before at
