use Rattle.model_places.proofs.ByKind.{so_many_pools, slip_pool_count, zone_pool_count}
use Rattle.model_places.proofs.a_disc_has_so_many_pools.Goals as goal

pub returns-clause-many : goal.returns-clause-many
returns-clause-many c = so_many_pools

pub returns-clause-one : goal.returns-clause-one
returns-clause-one c = slip_pool_count

pub returns-clause-zones : goal.returns-clause-zones
returns-clause-zones c = zone_pool_count
