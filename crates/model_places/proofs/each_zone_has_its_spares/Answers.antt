use Rattle.std.proofs.Common.{◌≡◌, ℕ, ◌+◌, List, length, drop, ap, ◌∙◌, arith}
use Rattle.std.proofs.lemmas.List.FromFn.{length-map-range_with_len}
use Rattle.model_pools.specs.Pools.{Pool, spares_at, block_in, pool_of}
use Rattle.model_pools.proofs.Zoned.{spares_at_zone}
use Rattle.model_geometry.specs.Geometry.{zone_start}
use Rattle.model_places.specs.Places.{zone_group, zone_unslipped, zone_count, zone_first}
use Rattle.model_places.specs.Valid.{slipped_in}
use Rattle.model_places.proofs.ByKind.{zone_pools, zone_room, zone_area, zones_few, zones_few_from, zones_told, first_over_is, no_zone_grows}
use Rattle.model_places.proofs.Zones.{zones_are_all, zone_cut_out, zoned_block, zoned_pool}
use Rattle.model_places.proofs.each_zone_has_its_spares.Goals as goal

pub returns-clause-count : goal.returns-clause-count
returns-clause-count c = λ shape lists is area. (let none = (zone_area shape is lists.sdl.ssa area.of_kind).none in omega (arith, none, zone_room shape is lists.sdl.ssa))

pub returns-clause-pools : goal.returns-clause-pools
returns-clause-pools c = λ shape lists is. ap length (zone_pools shape is lists.dds lists.sdl.ssa) ∙ length-map-range_with_len (zone_group shape lists.dds) 0 shape.zones

pub returns-clause-spares : goal.returns-clause-spares
returns-clause-spares c = λ shape lists zone is less.
    ap (λ (p : List Pool). spares_at p zone) (zone_pools shape is lists.dds lists.sdl.ssa)
    ∙ spares_at_zone (zone_unslipped shape lists.dds) (zone_count shape) (zone_start shape) 0 shape.zones zone less
    ∙ (let same : 0 + zone ≡ zone = omega arith in ap (λ (z : ℕ). drop (zone_count shape z) (zone_unslipped shape lists.dds z)) same)

pub returns-clause-few : goal.returns-clause-few
returns-clause-few c = λ shape blocks is. (zones_few shape is blocks, zones_few_from shape is blocks)

pub returns-clause-told : goal.returns-clause-told
returns-clause-told c = λ shape blocks zone is less over first.
    zones_told shape is blocks ∙ first_over_is shape.psa (slipped_in shape blocks) shape.zones zone less over first

pub returns-clause-stays : goal.returns-clause-stays
returns-clause-stays c = no_zone_grows

pub returns-clause-all : goal.returns-clause-all
returns-clause-all c = zones_are_all

pub returns-clause-cut : goal.returns-clause-cut
returns-clause-cut c = λ shape dds zone scaled within. zone_cut_out shape dds scaled zone within

pub returns-clause-blocks : goal.returns-clause-blocks
returns-clause-blocks c = λ shape lists zone j is valid area within inside.
    ap (λ (p : List Pool). block_in p (zone_first shape zone + j)) (zone_pools shape is lists.dds lists.sdl.ssa)
    ∙ zoned_block shape lists.dds is valid lists.sdl.ssa area zone j within inside

pub returns-clause-pool : goal.returns-clause-pool
returns-clause-pool c = λ shape lists zone j is valid area within inside.
    ap (λ (p : List Pool). pool_of p (zone_first shape zone + j)) (zone_pools shape is lists.dds lists.sdl.ssa)
    ∙ zoned_pool shape lists.dds is valid lists.sdl.ssa area zone j within inside
