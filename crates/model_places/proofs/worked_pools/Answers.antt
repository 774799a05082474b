use Rattle.std.proofs.Common.{refl}
use Rattle.model_geometry.specs.Geometry.{zone_start, is_data, data_blocks, spare_room}
use Rattle.model_places.specs.Places.{unslipped, pools_of, free_primary_count, free_supplementary_count}
use Rattle.model_places.proofs.worked_pools.Goals as goal

pub returns-clause-zone : goal.returns-clause-zone
unfolding zone_start is_data data_blocks unslipped pools_of spare_room free_primary_count free_supplementary_count
returns-clause-zone c = refl

pub returns-clause-next_zone : goal.returns-clause-next_zone
unfolding zone_start is_data data_blocks unslipped pools_of spare_room free_primary_count free_supplementary_count
returns-clause-next_zone c = refl

pub returns-clause-all : goal.returns-clause-all
unfolding zone_start is_data data_blocks unslipped pools_of spare_room free_primary_count free_supplementary_count
returns-clause-all c = refl

pub returns-clause-first : goal.returns-clause-first
unfolding zone_start is_data data_blocks unslipped pools_of spare_room free_primary_count free_supplementary_count
returns-clause-first c = refl

pub returns-clause-count : goal.returns-clause-count
unfolding zone_start is_data data_blocks unslipped pools_of spare_room free_primary_count free_supplementary_count
returns-clause-count c = refl

pub returns-clause-pool : goal.returns-clause-pool
unfolding zone_start is_data data_blocks unslipped pools_of spare_room free_primary_count free_supplementary_count
returns-clause-pool c = refl

pub returns-clause-its_spares : goal.returns-clause-its_spares
unfolding zone_start is_data data_blocks unslipped pools_of spare_room free_primary_count free_supplementary_count
returns-clause-its_spares c = refl

pub returns-clause-slipped_before : goal.returns-clause-slipped_before
unfolding zone_start is_data data_blocks unslipped pools_of spare_room free_primary_count free_supplementary_count
returns-clause-slipped_before c = refl

pub returns-clause-slipped_after : goal.returns-clause-slipped_after
unfolding zone_start is_data data_blocks unslipped pools_of spare_room free_primary_count free_supplementary_count
returns-clause-slipped_after c = refl

pub returns-clause-slipped_zone : goal.returns-clause-slipped_zone
unfolding zone_start is_data data_blocks unslipped pools_of spare_room free_primary_count free_supplementary_count
returns-clause-slipped_zone c = refl

pub returns-clause-slipped_all : goal.returns-clause-slipped_all
unfolding zone_start is_data data_blocks unslipped pools_of spare_room free_primary_count free_supplementary_count
returns-clause-slipped_all c = refl

pub returns-clause-slipped_first : goal.returns-clause-slipped_first
unfolding zone_start is_data data_blocks unslipped pools_of spare_room free_primary_count free_supplementary_count
returns-clause-slipped_first c = refl

pub returns-clause-slipped_count : goal.returns-clause-slipped_count
unfolding zone_start is_data data_blocks unslipped pools_of spare_room free_primary_count free_supplementary_count
returns-clause-slipped_count c = refl

pub returns-clause-slipped_spares : goal.returns-clause-slipped_spares
unfolding zone_start is_data data_blocks unslipped pools_of spare_room free_primary_count free_supplementary_count
returns-clause-slipped_spares c = refl
