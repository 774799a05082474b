-- The counts of failures of source, sink and image over a run. For the calls of the run and its main clause.
use Rattle.std.specs.Prelude.{◌≡◌, ℕ, Result, Ok, Err}
use Rattle.model_counts.specs.Counts.{Rose}
use Rattle.ram_outside.specs.Sink.{FailsOnce}
use Rattle.ram_outside.specs.declared.sink.Sink.{Ghosts as Sinks}
use Rattle.ram_outside.specs.declared.conversation.Conversation.{Ghosts as Conversations}
use Rattle.ram_text.specs.Dialogue.{sink_of, talk_of}
use Rattle.ram_text.specs.declared.dialogue.Dialogue.{Dialogue}
use Rattle.ram_machine.specs.declared.reply.Reply.{Reply}
use Rattle.ram_machine.specs.declared.stopped.Stopped.{Stopped}
use Rattle.ram_machine.specs.declared.stopped.Stopped.TheVariants as stopped

-- The counts of source, sink and image. (This project's own, as all here.)
pub record Counts : Type 0 where
  pub source : ℕ
  pub sink : ℕ
  pub image : ℕ

-- these counts
abbrev pub counts_of : ℕ → ℕ → ℕ → Counts
counts_of source sink image = record { source = source; sink = sink; image = image }

module _ {T K : Type 0} (talks : Conversations T K) (sinks : Sinks K) where
  -- the counts of a dialogue's source and sink, and that of the image
  abbrev pub counts_with : Dialogue T K → ℕ → Counts
  counts_with dialogue image =
      counts_of (talks.faults (talk_of dialogue)) (sinks.faults (sink_of talks dialogue)) image

-- every count is as it was: nothing failed
pub record SameCounts (before after : Counts) : Type 0 where
  pub source : after.source ≡ before.source
  pub sink : after.sink ≡ before.sink
  pub image : after.image ≡ before.image

-- the source failed, and nothing else
pub record OnlySourceRose (before after : Counts) : Type 0 where
  pub source : Rose before.source after.source
  pub sink : after.sink ≡ before.sink
  pub image : after.image ≡ before.image

-- the sink failed, once, and nothing else
pub record OnlySinkRose (before after : Counts) : Type 0 where
  pub source : after.source ≡ before.source
  pub sink : FailsOnce before.sink after.sink
  pub image : after.image ≡ before.image

-- the image failed, and nothing else
pub record OnlyImageRose (before after : Counts) : Type 0 where
  pub source : after.source ≡ before.source
  pub sink : after.sink ≡ before.sink
  pub image : Rose before.image after.image

-- the source failed, and then the sink, once
pub record SourceAndSinkRose (before after : Counts) : Type 0 where
  pub source : Rose before.source after.source
  pub sink : FailsOnce before.sink after.sink
  pub image : after.image ≡ before.image

-- the image failed, and then the sink, once
pub record ImageAndSinkRose (before after : Counts) : Type 0 where
  pub source : after.source ≡ before.source
  pub sink : FailsOnce before.sink after.sink
  pub image : Rose before.image after.image

-- The count that tells why a run ends rose, and no other.
abbrev pub WhyCounts : Counts → Counts → Stopped → Type 0
WhyCounts before after stopped.SourceFault = OnlySourceRose before after
WhyCounts before after stopped.SinkFault = OnlySinkRose before after
WhyCounts before after stopped.ImageFault = OnlyImageRose before after
WhyCounts before after _ = SameCounts before after

-- the same of a call that may stop a run; where it does not, nothing failed
abbrev pub StopCounts : {X : Type 0} → Counts → Counts → Result X Stopped → Type 0
StopCounts before after (Ok x) = SameCounts before after
StopCounts before after (Err why) = WhyCounts before after why

-- the sink's count, where nothing else can fail: it rose exactly where the sink failed, by one
abbrev pub SinkCount : ℕ → ℕ → Result (Unit {0}) Stopped → Type 0
SinkCount faults faults' (Err stopped.SinkFault) = FailsOnce faults faults'
SinkCount faults faults' _ = faults' ≡ faults

-- the same where the outcome of a line is told: one that ends the run is not printed
abbrev pub TellCount : ℕ → ℕ → Result Reply Stopped → Result (Unit {0}) Stopped → Type 0
TellCount faults faults' (Ok reply) result = SinkCount faults faults' result
TellCount faults faults' (Err why) result = faults' ≡ faults
