use Rattle.ram_groups.proofs.Made.{zoning_is}
use Rattle.ram_groups.proofs.laws.a_table_of_zones_has_the_pools_of_its_disc.Goals as goal

pub returns : goal.returns
returns c = zoning_is
