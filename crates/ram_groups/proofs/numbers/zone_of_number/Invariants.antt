use Rattle.std.proofs.Common.{◌-◌, ◌≤◌, ◌<◌}
use Rattle.model_places.specs.Places.{zone_first}
use Rattle.ram_groups.proofs.numbers.zone_of_number.Given as goal

abbrev pub invariant-loop-zone : goal.invariant-loop-zone
invariant-loop-zone l = record {
  some : l.zone < l.end;
  within : l.end ≤ l.geometry.zones;
  from : zone_first l.geometry l.zone ≤ l.i;
  before : l.i < zone_first l.geometry l.end;
}

abbrev pub decreases-loop-zone : goal.decreases-loop-zone
decreases-loop-zone l = l.end - l.zone
