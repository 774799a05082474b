-- What a dialogue begins with: for the calls that make one.
use Rattle.std.specs.Prelude.{◌≡◌, []}
use Rattle.std.specs.Borrow.{MutBor}
use Rattle.ram_text.specs.declared.dialogue.Dialogue.{Dialogue}
use Rattle.ram_text.specs.declared.dialogue.DialogueRoom.{DialogueRoom}

-- nothing was read yet, and nothing is gathered (this project's own, as all here)
pub record IsEmptyRoom (room : DialogueRoom) : Type 0 where
  pub buffered : room.reader.buffered ≡ []
  pub taken : room.reader.taken ≡ 0
  pub gathered : room.writer.gathered ≡ []

-- the dialogue is this conversation, in this room
pub record IsBetween {T K : Type 0} (talk : MutBor T) (room : MutBor DialogueRoom) (dialogue : Dialogue T K) : Type 0 where
  pub same_talk : dialogue.talk.ghost_name ≡ talk.ghost_name
  pub same_room : dialogue.room.ghost_name ≡ room.ghost_name
  pub talk_is : dialogue.talk.now ≡ talk.now
  pub room_is : dialogue.room.now ≡ room.now
