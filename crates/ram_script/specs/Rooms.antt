-- The rooms that the lines of a script are answered in. For who takes them, and for the calls that work in them.
use Rattle.std.specs.Prelude.{◌≡◌}
use Rattle.model_geometry.specs.declared.kinds.LayoutKind.{LayoutKind}
use Rattle.ram_text.specs.DialogueRoom.{IsEmptyRoom}
use Rattle.ram_script.specs.declared.rooms.ScriptRooms.{ScriptRooms}
use Rattle.ram_script.specs.RunState.{IsFresh, HasRoom}

-- The rooms are for discs with a layout of this kind, and no line came yet. (This project's own, as all here.)
pub record AreReady (kind : LayoutKind) (rooms : ScriptRooms) : Type 0 where
  pub fresh : IsFresh rooms.state
  pub room : HasRoom rooms.state
  pub empty : IsEmptyRoom rooms.dialogue
  pub kind_is : rooms.target.drive.kind ≡ kind
