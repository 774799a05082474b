-- What a dialogue shows of its conversation, and what its calls do: for the dialogue, and for the loop over the lines of a run.
use Rattle.std.specs.Prelude.{◌≡◌, ◌⊎◌, ℕ, Option, List, [], Result, Ok, Err}
use Rattle.ram_outside.specs.Sink.{FailsOnce, SinkShown, length_with, sink_shown}
use Rattle.ram_outside.specs.declared.sink.Sink.{Ghosts as Sinks}
use Rattle.ram_outside.specs.Conversation.{AsksOnly}
use Rattle.ram_outside.specs.declared.conversation.Conversation.{Ghosts as Conversations}
use Rattle.ram_text.specs.Lines.{Reading, HoldsLine, NextLineRule, IsOpenAsk, left_of}
use Rattle.ram_report.specs.Writer.{FlushRule, PrintRule, due}
use Rattle.ram_text.specs.declared.dialogue.Dialogue.{Dialogue}
use Rattle.ram_text.specs.declared.dialogue.DialogueRoom.{DialogueRoom}
use Rattle.ram_report.specs.declared.gathered.Print.{Print}
use Rattle.ram_report.specs.declared.gathered.SinkFailed.{SinkFailed}
use Rattle.ram_text.specs.declared.lines.NextLine.{NextLine}

-- the conversation that it is (this project's own, as all here)
abbrev pub talk_of : {T K : Type 0} → Dialogue T K → T
talk_of dialogue = dialogue.talk.now

-- the room that it works in
abbrev pub dialogue_room : {T K : Type 0} → Dialogue T K → DialogueRoom
dialogue_room dialogue = dialogue.room.now

-- what its reader holds
abbrev pub reader_of : {T K : Type 0} → Dialogue T K → Reading
reader_of dialogue = dialogue.room.now.reader

-- the text that it has gathered and not handed over
abbrev pub gathered_of : {T K : Type 0} → Dialogue T K → List ℕ
gathered_of dialogue = dialogue.room.now.writer.gathered

-- its conversation and its room are where they were: what happens to the one happens to the other
pub record HasSameEnds {T K : Type 0} (old new : Dialogue T K) : Type 0 where
  pub talk : new.talk.ghost_name ≡ old.talk.ghost_name
  pub room : new.room.ghost_name ≡ old.room.ghost_name

module _ {T K : Type 0} (talks : Conversations T K) where
  -- the sink that its report goes to
  abbrev pub sink_of : Dialogue T K → K
  sink_of dialogue = talks.report (talk_of dialogue)

  -- nothing was asked for: as much is left to come, and was read
  pub record AsksNothing (old new : Dialogue T K) : Type 0 where
    pub reading : reader_of new ≡ reader_of old
    pub left : talks.left (talk_of new) ≡ talks.left (talk_of old)
    pub faults : talks.faults (talk_of new) ≡ talks.faults (talk_of old)
    pub asked : talks.asked (talk_of new) ≡ talks.asked (talk_of old)

module _ {T K : Type 0} (talks : Conversations T K) (sinks : Sinks K) where
  -- What is due: what the sink has written, and then what is gathered for it.
  abbrev pub due_in : Dialogue T K → Option (List ℕ)
  due_in dialogue = due (sinks.written (sink_of talks dialogue)) (gathered_of dialogue)

  -- what its sink shows
  abbrev pub shown_of : Dialogue T K → SinkShown
  shown_of dialogue = sink_shown (sinks.written (sink_of talks dialogue)) (sinks.refused (sink_of talks dialogue))
      (sinks.faults (sink_of talks dialogue))

  -- The sink failed, once, and what it refused is the end of what was due: all of that was offered to it.
  pub record RefusesDue (old new : Dialogue T K) : Type 0 where
    pub refused : sinks.refused (sink_of talks new) ≡ length_with (due_in old) 0
    pub count : FailsOnce (sinks.faults (sink_of talks old)) (sinks.faults (sink_of talks new))

  -- All that is due was handed over, or a whole line is held; or the sink failed. What is due stays.
  abbrev pub ShowRule : Dialogue T K → Dialogue T K → Result (Unit {0}) SinkFailed → Type 0
  ShowRule old new (Ok done) = (due_in new ≡ due_in old) × (HoldsLine (reader_of old) ⊎ (gathered_of new ≡ []))
      × (sinks.faults (sink_of talks new) ≡ sinks.faults (sink_of talks old))
  ShowRule old new (Err failed) = (due_in new ≡ due_in old) × RefusesDue old new

  -- Whenever more was asked for, all that is due was written, and no whole line had come.
  abbrev pub AsksShown : Dialogue T K → Dialogue T K → Type 0
  AsksShown old new = AsksOnly (IsOpenAsk (left_of talks (reader_of old) (talk_of old)) (due_in old))
      (talks.asked (talk_of old)) (talks.asked (talk_of new))

  -- The next line was looked for.
  pub record LooksOn (old new : Dialogue T K) (next : NextLine) : Type 0 where
    pub rule : NextLineRule talks (reader_of old) (reader_of new) (talk_of old) (talk_of new) next
    pub due : due_in new ≡ due_in old
    pub count : sinks.faults (sink_of talks new) ≡ sinks.faults (sink_of talks old)

  -- The sink failed before more was asked for.
  pub record StopsAsking (old new : Dialogue T K) : Type 0 where
    pub nothing : AsksNothing talks old new
    pub due : due_in new ≡ due_in old
    pub refuses : RefusesDue old new

  -- What the search for the next line may do, by its answer.
  abbrev pub SearchRule : Dialogue T K → Dialogue T K → Result NextLine SinkFailed → Type 0
  SearchRule old new (Ok next) = LooksOn old new next
  SearchRule old new (Err failed) = StopsAsking old new

  -- A text was printed, or cut off by a failure of the sink, and nothing was asked.
  pub record Tells (old new : Dialogue T K) (text : List ℕ) (answer : Print) : Type 0 where
    pub ends : HasSameEnds old new
    pub nothing : AsksNothing talks old new
    pub prints : PrintRule (sinks.refused (sink_of talks new)) (due_in old) (due_in new)
        (sinks.faults (sink_of talks old)) (sinks.faults (sink_of talks new)) text answer

  -- What is gathered was handed over, or a part of it, and nothing was asked.
  pub record HandsOverAll (old new : Dialogue T K) (answer : Print) : Type 0 where
    pub ends : HasSameEnds old new
    pub nothing : AsksNothing talks old new
    pub rule : FlushRule (sinks.refused (sink_of talks new)) (due_in old) (due_in new) (gathered_of new)
        (sinks.faults (sink_of talks old)) (sinks.faults (sink_of talks new)) answer
