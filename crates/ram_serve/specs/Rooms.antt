-- The rooms of a session. For who takes them, and for the calls that work in them.
use Rattle.std.specs.Prelude.{◌≡◌, ◌≤◌, vec_capacity}
use Rattle.model_geometry.specs.declared.kinds.LayoutKind.{LayoutKind}
use Rattle.ram_nbd.specs.declared.handshake.TheConstants.{ANSWER_BYTES}
use Rattle.ram_text.specs.declared.payload.TheConstants.{PAYLOAD_ROOM}
use Rattle.ram_transmission.specs.declared.requests.TheConstants.{REQUEST_ROOM}
use Rattle.ram_serve.specs.declared.rooms.MessageRooms.{MessageRooms}
use Rattle.ram_serve.specs.declared.rooms.SessionRooms.{SessionRooms}

-- There is room for the data of any request and for its reply, for the data of any command, and for the answer to any option. (This
-- project's own, as all here.)
pub record HasMessageRoom (rooms : MessageRooms) : Type 0 where
  pub message : REQUEST_ROOM ≤ vec_capacity rooms.message
  pub data_in : PAYLOAD_ROOM ≤ vec_capacity rooms.data_in
  pub answer : ANSWER_BYTES ≤ vec_capacity rooms.answer

-- The rooms are for discs with a layout of this kind.
pub record AreReadyToServe (kind : LayoutKind) (rooms : SessionRooms) : Type 0 where
  pub kind_is : rooms.target.drive.kind ≡ kind
  pub room : HasMessageRoom rooms.messages
