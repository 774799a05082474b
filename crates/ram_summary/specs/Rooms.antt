-- The rooms that a script from a number is answered in. For who takes them, and for the call that works in them.
use Rattle.std.specs.Prelude.{◌≤◌, vec_capacity}
use Rattle.model_geometry.specs.declared.kinds.LayoutKind.TheVariants.{OneGroup}
use Rattle.ram_generate.specs.declared.TheConstants.{SCRIPT_ROOM}
use Rattle.ram_script.specs.Rooms.{AreReady}
use Rattle.ram_summary.specs.declared.rooms.GenerateRooms.{GenerateRooms}
use Rattle.ram_summary.specs.declared.summary.TheConstants.{SUMMARY_ROOM}

-- The rooms for the lines are ready for discs with one group of spares, and there is room for the script and for its summary. (This
-- project's own.)
pub record AreReadyFor (rooms : GenerateRooms) : Type 0 where
  pub lines : AreReady OneGroup rooms.lines
  pub script : SCRIPT_ROOM ≤ vec_capacity rooms.script
  pub summary : SUMMARY_ROOM ≤ vec_capacity rooms.summary
