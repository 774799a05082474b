use Rattle.std.proofs.Common.{◌≡◌, ◌+◌, ◌*◌, length, arith}
use Rattle.model_places.specs.Places.{zones_unslipped}
use Rattle.ram_dds.specs.Dds.{dds_of}
use Rattle.ram_slip.proofs.ZonePlaces.{first_by_count}
use Rattle.ram_slip.proofs.zones.kept_before.Goals as goal

sum : (c : goal.After-count_before-slipped) → length (zones_unslipped c.args.geometry.now (dds_of c.args.dds.now) c.args.zone) + c.count_before-slipped.result + 8 + 2 * c.args.zone ≡ c.zone_start-start.result
sum c = first_by_count c.args.geometry.now (dds_of c.args.dds.now) c.zone_start-start.ensures.lawful.some_scale c.requires.valid c.args.zone _ _ _ c.requires.zone c.zone_start-start.ensures.start c.as_slice.ensures c.count_before-slipped.ensures

pub overflow_sub-result-2 : goal.overflow_sub-result-2
overflow_sub-result-2 c = (let all = sum c in omega (arith, all))

pub overflow_cast-result : goal.overflow_cast-result
overflow_cast-result c = (let all = sum c in let small = c.zone_start-start.ensures.small in omega (arith, all, small))

pub overflow_sub-result-3 : goal.overflow_sub-result-3
overflow_sub-result-3 c = (let all = sum c in omega (arith, all))

pub returns : goal.returns
returns c = (let all = sum c in omega (arith, all))
