use Rattle.std.proofs.Common.{◌≡◌, ◌+◌, ◌-◌, ◌≤◌, arith}
use Rattle.std.proofs.lemmas.List.{length-map}
use Rattle.model_geometry.specs.Geometry.{zone_start}
use Rattle.model_lists.specs.declared.dds.PdlEntry.{PdlEntry}
use Rattle.model_lists.specs.Values.{pdl_blocks}
use Rattle.ram_layout.proofs.Zoned.{zone_room, passed_before, zone_more}
use Rattle.ram_layout.proofs.filling.put_zone.Goals as goal

pub overflow_sub-end : goal.overflow_sub-end
overflow_sub-end c = omega (arith, c.zone_start-end.ensures.least)

pub push_kept-requires-clause-ordered : goal.push_kept-requires-clause-ordered
push_kept-requires-clause-ordered c =
    let room = zone_room c.args.geometry.now c.zone_start-first.ensures.lawful c.args.zone in
    omega (arith, c.zone_start-first.ensures.start, c.zone_start-end.ensures.start, room)

pub push_kept-requires-clause-room : goal.push_kept-requires-clause-room
push_kept-requires-clause-room c =
    let so_far = c.requires.zones in
    let long = length-map c.args.slipped.now (λ (e : PdlEntry). e.block) in
    let first : zone_start c.args.geometry.now c.args.zone ≤ c.zone_start-first.result + 1 = omega (arith, c.zone_start-first.ensures.start) in
    let before = passed_before (pdl_blocks c.args.slipped.now) c.args.passed (zone_start c.args.geometry.now c.args.zone) (c.zone_start-first.result + 1) c.count_below-before.result so_far.passed_within so_far.passed_are first c.count_below-before.ensures in
    omega (arith, c.requires.few, c.count_below-until.ensures.within, so_far.passed_within, long, before, c.requires.room, c.requires.inside)

pub returns-clause-zones : goal.returns-clause-zones
returns-clause-zones c =
    let so_far = c.requires.zones in
    let lawful = c.zone_start-first.ensures.lawful in
    let first : c.zone_start-first.result + 1 ≡ zone_start c.args.geometry.now c.args.zone + 1 = omega (arith, c.zone_start-first.ensures.start) in
    let end : c.zone_start-end.result - 1 ≡ zone_start c.args.geometry.now (c.args.zone + 1) - 1 = omega (arith, c.zone_start-end.ensures.start) in
    zone_more c.args.geometry.now lawful (pdl_blocks c.args.slipped.now) c.args.zone c.args.passed c.count_below-until.result (c.zone_start-first.result + 1) (c.zone_start-end.result - 1) c.args.runs.now.items c.push_kept.new.runs.items
    so_far first end c.count_below-until.ensures c.push_kept.ensures.table c.push_kept.ensures.blocks c.push_kept.ensures.behind

pub returns-clause-few : goal.returns-clause-few
returns-clause-few c =
    let so_far = c.requires.zones in
    let room = zone_room c.args.geometry.now c.zone_start-first.ensures.lawful c.args.zone in
    let first : zone_start c.args.geometry.now c.args.zone ≤ c.zone_start-first.result + 1 = omega (arith, c.zone_start-first.ensures.start) in
    let end : zone_start c.args.geometry.now c.args.zone ≤ c.zone_start-end.result - 1 = omega (arith, c.zone_start-end.ensures.start, room) in
    let before = passed_before (pdl_blocks c.args.slipped.now) c.args.passed (zone_start c.args.geometry.now c.args.zone) (c.zone_start-first.result + 1) c.count_below-before.result so_far.passed_within so_far.passed_are first c.count_below-before.ensures in
    let until = passed_before (pdl_blocks c.args.slipped.now) c.args.passed (zone_start c.args.geometry.now c.args.zone) (c.zone_start-end.result - 1) c.count_below-until.result so_far.passed_within so_far.passed_are end c.count_below-until.ensures in
    omega (arith, c.push_kept.ensures.more, c.requires.few, before, until)
