use Rattle.std.proofs.Common.{refl}
use Rattle.model_geometry.specs.Geometry.{zone_start, is_data, data_blocks, spare_room}
use Rattle.model_places.specs.Places.{unslipped, pools_of, free_primary_count, free_supplementary_count}
use Rattle.model_places.specs.Valid.{told_too_many}
use Rattle.model_places.proofs.worked_zones.Goals as goal

pub returns-clause-first : goal.returns-clause-first
unfolding zone_start is_data data_blocks unslipped pools_of spare_room free_primary_count free_supplementary_count told_too_many
returns-clause-first c = refl

pub returns-clause-capacity : goal.returns-clause-capacity
unfolding zone_start is_data data_blocks unslipped pools_of spare_room free_primary_count free_supplementary_count told_too_many
returns-clause-capacity c = refl

pub returns-clause-spares : goal.returns-clause-spares
unfolding zone_start is_data data_blocks unslipped pools_of spare_room free_primary_count free_supplementary_count told_too_many
returns-clause-spares c = refl

pub returns-clause-last : goal.returns-clause-last
unfolding zone_start is_data data_blocks unslipped pools_of spare_room free_primary_count free_supplementary_count told_too_many
returns-clause-last c = refl

pub returns-clause-next_zone : goal.returns-clause-next_zone
unfolding zone_start is_data data_blocks unslipped pools_of spare_room free_primary_count free_supplementary_count told_too_many
returns-clause-next_zone c = refl

pub returns-clause-next_spares : goal.returns-clause-next_spares
unfolding zone_start is_data data_blocks unslipped pools_of spare_room free_primary_count free_supplementary_count told_too_many
returns-clause-next_spares c = refl

pub returns-clause-home : goal.returns-clause-home
unfolding zone_start is_data data_blocks unslipped pools_of spare_room free_primary_count free_supplementary_count told_too_many
returns-clause-home c = refl

pub returns-clause-free : goal.returns-clause-free
unfolding zone_start is_data data_blocks unslipped pools_of spare_room free_primary_count free_supplementary_count told_too_many
returns-clause-free c = refl

pub returns-clause-none : goal.returns-clause-none
unfolding zone_start is_data data_blocks unslipped pools_of spare_room free_primary_count free_supplementary_count told_too_many
returns-clause-none c = refl

pub returns-clause-others : goal.returns-clause-others
unfolding zone_start is_data data_blocks unslipped pools_of spare_room free_primary_count free_supplementary_count told_too_many
returns-clause-others c = refl

pub returns-clause-number : goal.returns-clause-number
unfolding zone_start is_data data_blocks unslipped pools_of spare_room free_primary_count free_supplementary_count told_too_many
returns-clause-number c = refl

pub returns-clause-no_second : goal.returns-clause-no_second
unfolding zone_start is_data data_blocks unslipped pools_of spare_room free_primary_count free_supplementary_count told_too_many
returns-clause-no_second c = refl

pub returns-clause-slipped : goal.returns-clause-slipped
unfolding zone_start is_data data_blocks unslipped pools_of spare_room free_primary_count free_supplementary_count told_too_many
returns-clause-slipped c = refl

pub returns-clause-slipped_spares : goal.returns-clause-slipped_spares
unfolding zone_start is_data data_blocks unslipped pools_of spare_room free_primary_count free_supplementary_count told_too_many
returns-clause-slipped_spares c = refl

pub returns-clause-slipped_capacity : goal.returns-clause-slipped_capacity
unfolding zone_start is_data data_blocks unslipped pools_of spare_room free_primary_count free_supplementary_count told_too_many
returns-clause-slipped_capacity c = refl

pub returns-clause-told : goal.returns-clause-told
unfolding zone_start is_data data_blocks unslipped pools_of spare_room free_primary_count free_supplementary_count told_too_many
returns-clause-told c = refl

pub returns-clause-told_first : goal.returns-clause-told_first
unfolding zone_start is_data data_blocks unslipped pools_of spare_room free_primary_count free_supplementary_count told_too_many
returns-clause-told_first c = refl

pub returns-clause-pools : goal.returns-clause-pools
unfolding zone_start is_data data_blocks unslipped pools_of spare_room free_primary_count free_supplementary_count told_too_many
returns-clause-pools c = (refl, refl)
