use Rattle.std.specs.Prelude.{◌≡◌, ◌+◌, ◌≤◌, vec_len, vec_capacity}
use Rattle.model_lists.specs.Values.{pdl_blocks}
use Rattle.ram_groups.specs.Zoning.{AreStarts}
use Rattle.ram_layout.specs.Filling.{HasZones}
use Rattle.ram_groups.proofs.filling.fill_zones.Given as goal

abbrev pub invariant-loop-zone : goal.invariant-loop-zone
invariant-loop-zone l = record {
  zones : HasZones l.geometry (pdl_blocks l.slipped) l.zone l.passed l.runs.items;
  starts : AreStarts l.geometry (pdl_blocks l.slipped) l.zone l.starts.items;
  few : vec_len l.runs ≤ l.zone + l.passed;
  many : vec_len l.starts ≡ l.zone;
  room : vec_capacity l.fn.runs ≤ vec_capacity l.runs;
  starts_room : vec_capacity l.fn.starts ≤ vec_capacity l.starts;
  within : l.zone ≤ l.geometry.zones;
}
