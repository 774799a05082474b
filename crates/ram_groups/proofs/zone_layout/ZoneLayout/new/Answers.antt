use Rattle.std.proofs.Common.{length, ap, arith}
use Rattle.ram_dds.specs.Dds.{dds_of}
use Rattle.ram_slip.proofs.SpareAreas.{primary_is}
use Rattle.ram_groups.proofs.Made.{zoning_made, whole_made}
use Rattle.ram_groups.proofs.zone_layout.ZoneLayout.new.Goals as goal

pub fill_zones-requires-clause-room : goal.fill_zones-requires-clause-room
fill_zones-requires-clause-room c =
    let few = (primary_is c.args.geometry.now (dds_of c.args.dds.now) c.spare_room-room.ensures.lawful c.requires.valid).0 in
    omega (arith, few, ap length c.as_slice.ensures, c.spare_room-room.ensures.room, c.spare_room-room.ensures.most, c.spare_room-room.ensures.lawful.most_zones, c.in_ok-runs.ensures.room.1)

pub invariant_of-result : goal.invariant_of-result
invariant_of-result c =
    whole_made (record { geometry = c.args.geometry.now; runs = c.fill_zones.new.runs; starts = c.fill_zones.new.starts }) (dds_of c.args.dds.now) c.as_slice.result.now
    c.spare_room-room.ensures.lawful c.requires.zones c.as_slice.ensures c.fill_zones.ensures.blocks c.fill_zones.ensures.starts
    c.requires.valid c.fill_zones.ensures.table c.fill_zones.ensures.small
    (omega (arith, c.fill_zones.ensures.room, c.in_ok-runs.ensures.room.1)) (omega (arith, c.fill_zones.ensures.starts_room, c.in_ok-starts.ensures.room.1))

pub returns-clause-zoning : goal.returns-clause-zoning
returns-clause-zoning c =
    zoning_made (record { geometry = c.args.geometry.now; runs = c.fill_zones.new.runs; starts = c.fill_zones.new.starts }) (dds_of c.args.dds.now) c.as_slice.result.now
    c.spare_room-room.ensures.lawful c.requires.zones c.as_slice.ensures c.fill_zones.ensures.blocks c.fill_zones.ensures.starts
