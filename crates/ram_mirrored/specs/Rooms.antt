-- The rooms that a mirror of two discs works in. For who takes them, and for the calls that work in them.
use Rattle.std.specs.Prelude.{◌≤◌, vec_capacity}
use Rattle.ram_pair.specs.Pairs.{AreOfOneGroup}
use Rattle.ram_text.specs.DialogueRoom.{IsEmptyRoom}
use Rattle.ram_text.specs.declared.payload.TheConstants.{PAYLOAD_ROOM}
use Rattle.ram_mirrored.specs.declared.rooms.MirroredRooms.{MirroredRooms}

-- The rooms are for discs with one group of spares and for the data of any line, and no line came yet. (This project's own.)
pub record AreReadyToMirror (rooms : MirroredRooms) : Type 0 where
  pub kind : AreOfOneGroup rooms.pair
  pub empty : IsEmptyRoom rooms.dialogue
  pub payload : PAYLOAD_ROOM ≤ vec_capacity rooms.payload
  pub shown : PAYLOAD_ROOM ≤ vec_capacity rooms.shown
