use Rattle.std.proofs.Common.{◌≡◌, ◌+◌, ◌<◌, ◌≤◌, Some, ap, sym, ◌∙◌, arith}
use Rattle.std.specs.Prelude.{slice_index}
use Rattle.model_places.specs.Places.{zone_count}
use Rattle.ram_groups.proofs.Cutting.{pools_many, start_within, spare_there, no_spare}
use Rattle.ram_groups.proofs.Tables.{zones_are, count_is, zoned_by, cut_by, small_start, seen_at, seen_many}
use Rattle.ram_groups.proofs.zone_layout.ZoneLayoutLayout.spare.Goals as goal

pub start-requires : goal.start-requires
start-requires c =
    let table = c.args.self.now in
    omega (arith, c.requires, pools_many table.shape table.blocks table.starts)

pub zone_count-requires-clause-zone : goal.zone_count-requires-clause-zone
zone_count-requires-clause-zone c =
    let table = c.args.self.now in
    omega (arith, c.requires, pools_many table.shape table.blocks table.starts, zones_are c.self.inside table c.self.view_is c.self.invariant)

pub start-requires-2 : goal.start-requires-2
start-requires-2 c =
    let table = c.args.self.now in
    omega (arith, c.requires, pools_many table.shape table.blocks table.starts)

pub overflow_add-first : goal.overflow_add-first
overflow_add-first c =
    let table = c.args.self.now in
    let inside = c.self.inside in
    let within : c.args.pool < table.shape.zones = omega (arith, c.requires, pools_many table.shape table.blocks table.starts) in
    let fits = (cut_by inside table c.self.view_is c.self.invariant).fits c.args.pool within in
    let small = small_start inside table c.self.view_is c.self.invariant (c.args.pool + 1) (omega (arith, within)) in
    omega (arith, fits, small, c.start.ensures, c.zone_count.ensures.count, count_is inside table c.self.view_is c.self.invariant c.args.pool)

pub overflow_sub-start : goal.overflow_sub-start
overflow_sub-start c =
    let table = c.args.self.now in
    let inside = c.self.inside in
    let within : c.args.pool < table.shape.zones = omega (arith, c.requires, pools_many table.shape table.blocks table.starts) in
    let fits = (cut_by inside table c.self.view_is c.self.invariant).fits c.args.pool within in
    omega (arith, fits, c.start.ensures, c.start-2.ensures, c.zone_count.ensures.count, count_is inside table c.self.view_is c.self.invariant c.args.pool)

pub block_at-requires-clause-inside : goal.block_at-requires-clause-inside
block_at-requires-clause-inside c =
    let table = c.args.self.now in
    let inside = c.self.inside in
    let within : c.args.pool < table.shape.zones = omega (arith, c.requires, pools_many table.shape table.blocks table.starts) in
    let end = start_within table.shape table.blocks table.starts (zoned_by inside table c.self.view_is c.self.invariant) (cut_by inside table c.self.view_is c.self.invariant) (c.args.pool + 1) (omega (arith, within)) in
    omega (arith, end, c.if-k-start.true, c.start-2.ensures, seen_many inside table c.self.view_is c.self.invariant c.as_slice.result.now c.as_slice.ensures.value)

pub returns-then-k-start : goal.returns-then-k-start
returns-then-k-start c =
    let table = c.args.self.now in
    let inside = c.self.inside in
    let within : c.args.pool < table.shape.zones = omega (arith, c.requires, pools_many table.shape table.blocks table.starts) in
    let first : c.start.result + c.zone_count.result ≡ slice_index table.starts c.args.pool + zone_count table.shape c.args.pool =
    omega (arith, c.start.ensures, c.zone_count.ensures.count, count_is inside table c.self.view_is c.self.invariant c.args.pool) in
    let place : c.start.result + c.zone_count.result + c.args.k ≡ slice_index table.starts c.args.pool + zone_count table.shape c.args.pool + c.args.k = omega (arith, first) in
    let before : slice_index table.starts c.args.pool + zone_count table.shape c.args.pool + c.args.k < slice_index table.starts (c.args.pool + 1) =
    omega (arith, c.if-k-start.true, c.start-2.ensures, first) in
    ap Some (c.block_at.ensures
    ∙ seen_at inside table c.self.view_is c.self.invariant c.as_slice.result.now c.as_slice.ensures.value (c.start.result + c.zone_count.result + c.args.k)
    ∙ ap (slice_index table.blocks) place)
    ∙ sym (spare_there table.shape table.blocks table.starts (zoned_by inside table c.self.view_is c.self.invariant) (cut_by inside table c.self.view_is c.self.invariant) c.args.pool c.args.k within before)

pub returns : goal.returns
returns c =
    let table = c.args.self.now in
    let inside = c.self.inside in
    let within : c.args.pool < table.shape.zones = omega (arith, c.requires, pools_many table.shape table.blocks table.starts) in
    let behind : slice_index table.starts (c.args.pool + 1) ≤ slice_index table.starts c.args.pool + zone_count table.shape c.args.pool + c.args.k =
    omega (arith, c.if-k-start.false, c.start.ensures, c.start-2.ensures, c.zone_count.ensures.count, count_is inside table c.self.view_is c.self.invariant c.args.pool) in
    sym (no_spare table.shape table.blocks table.starts (zoned_by inside table c.self.view_is c.self.invariant) (cut_by inside table c.self.view_is c.self.invariant) c.args.pool c.args.k within behind)
