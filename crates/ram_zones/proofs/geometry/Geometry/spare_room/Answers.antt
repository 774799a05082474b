use Rattle.ram_zones.proofs.Sums.{slip_room_is, zone_room_is, zones_fewer}
use Rattle.ram_zones.proofs.geometry.Geometry.spare_room.Goals as goal

pub returns-in-OneGroup-clause-room : goal.returns-in-OneGroup-clause-room
returns-in-OneGroup-clause-room c = slip_room_is _ _ c.self.view_is c.in-OneGroup.is

pub returns-in-EachZone-clause-room : goal.returns-in-EachZone-clause-room
returns-in-EachZone-clause-room c = zone_room_is _ _ c.self.view_is c.in-EachZone.is

pub returns-in-EachZone-clause-fewer : goal.returns-in-EachZone-clause-fewer
returns-in-EachZone-clause-fewer c = zones_fewer _ _ c.self.view_is c.in-EachZone.is c.self.invariant
