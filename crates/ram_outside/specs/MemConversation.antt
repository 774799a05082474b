-- What a conversation in memory keeps of when more was asked for. (This project's own, as all here.)
use Rattle.std.specs.Prelude.{◌≡◌, Option, None, Some, List, [], map, reverse, if◌then◌else◌}
use Rattle.ram_outside.specs.Conversation.{Asked, AsksNow, asked_with}
use Rattle.ram_outside.specs.Memory.{SinkState}
use Rattle.ram_outside.specs.declared.memory.conversation.MemAsked.{MemAsked}
use Rattle.ram_outside.specs.declared.memory.conversation.MemConversation.{MemConversation}

-- how it stood then
abbrev pub asked_of : MemAsked → Asked
asked_of asked = asked_with (Some asked.left.items) (Some asked.written.items)

-- how it stood whenever more was asked for, the newest first, unless it was forgotten
abbrev pub asks_known : MemConversation → Option (List Asked)
asks_known talk = if talk.forgot then None else Some (reverse (map asked_of talk.asked.items))

-- the times that are kept, the oldest first; none where it was forgotten
abbrev pub asks_kept : MemConversation → List MemAsked
asks_kept talk = if talk.forgot then [] else talk.asked.items

-- the conversation with this sink in place of its own
abbrev pub with_mem_sink : MemConversation → SinkState → MemConversation
with_mem_sink talk sink = record talk { report = sink }

-- how it stands is kept, or all is forgotten, and nothing else changed
pub record NotesNow (old new : MemConversation) : Type 0 where
  pub script : new.script ≡ old.script
  pub report : new.report ≡ old.report
  pub asks : AsksNow (asked_with (Some old.script.left) (Some old.report.written)) (asks_known old) (asks_known new)
