use Rattle.std.proofs.Common.{◌≡◌, ◌+◌, ◌-◌, ◌∙◌, arith}
use Rattle.std.specs.Prelude.{slice_index}
use Rattle.model_places.specs.Places.{zone_first}
use Rattle.ram_groups.proofs.Tables.{number_below, place_within, physical_by, few_blocks, seen_at, seen_many}
use Rattle.ram_groups.proofs.zone_layout.ZoneLayoutLayout.physical.Goals as goal

pub zone_of_number-zone-requires-clause-inside : goal.zone_of_number-zone-requires-clause-inside
zone_of_number-zone-requires-clause-inside c = number_below c.self.inside c.args.self.now c.self.view_is c.self.invariant c.args.i c.requires

pub overflow_add-start : goal.overflow_add-start
overflow_add-start c =
    let found = c.zone_of_number-zone.ensures in
    let place : c.start.result + (c.args.i - c.zone_first.result) ≡ slice_index c.args.self.now.starts c.zone_of_number-zone.result + (c.args.i - zone_first c.self.inside.geometry c.zone_of_number-zone.result) =
    omega (arith, c.start.ensures, c.zone_first.ensures.first) in
    let below = place_within c.self.inside c.args.self.now c.self.view_is c.self.invariant c.zone_of_number-zone.result c.args.i found.inside found.from found.before _ place in
    omega (arith, below, few_blocks c.self.inside c.args.self.now c.self.view_is c.self.invariant)

pub block_at-requires-clause-inside : goal.block_at-requires-clause-inside
block_at-requires-clause-inside c =
    let found = c.zone_of_number-zone.ensures in
    let place : c.start.result + (c.args.i - c.zone_first.result) ≡ slice_index c.args.self.now.starts c.zone_of_number-zone.result + (c.args.i - zone_first c.self.inside.geometry c.zone_of_number-zone.result) =
    omega (arith, c.start.ensures, c.zone_first.ensures.first) in
    let below = place_within c.self.inside c.args.self.now c.self.view_is c.self.invariant c.zone_of_number-zone.result c.args.i found.inside found.from found.before _ place in
    omega (arith, below, seen_many c.self.inside c.args.self.now c.self.view_is c.self.invariant c.as_slice.result.now c.as_slice.ensures.value)

pub returns : goal.returns
returns c =
    let found = c.zone_of_number-zone.ensures in
    let place : c.start.result + (c.args.i - c.zone_first.result) ≡ slice_index c.args.self.now.starts c.zone_of_number-zone.result + (c.args.i - zone_first c.self.inside.geometry c.zone_of_number-zone.result) =
    omega (arith, c.start.ensures, c.zone_first.ensures.first) in
    c.block_at.ensures
    ∙ seen_at c.self.inside c.args.self.now c.self.view_is c.self.invariant c.as_slice.result.now c.as_slice.ensures.value (c.start.result + (c.args.i - c.zone_first.result))
    ∙ physical_by c.self.inside c.args.self.now c.self.view_is c.self.invariant c.zone_of_number-zone.result c.args.i found.inside found.from found.before _ place
