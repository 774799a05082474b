use Rattle.ram_zones.proofs.Sums.{zone_start_is}
use Rattle.ram_zones.proofs.geometry.Geometry.zone_start.Goals as goal

pub returns-clause-start : goal.returns-clause-start
returns-clause-start c = zone_start_is _ _ _ _ c.self.view_is c.start_of_zone.ensures
