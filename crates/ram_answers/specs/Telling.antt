-- What stands with each status, over what answers the lines. For the call that answers a whole script. (This project's own, as all here.)
use Rattle.std.specs.Prelude.{◌≡◌, ℕ, Some, Err, List}
use Rattle.ram_outside.specs.declared.sink.Sink.{Ghosts as Sinks}
use Rattle.ram_outside.specs.declared.conversation.Conversation.{Ghosts as Conversations}
use Rattle.ram_text.specs.Dialogue.{sink_of, talk_of}
use Rattle.ram_text.specs.declared.dialogue.Dialogue.{Dialogue}
use Rattle.ram_machine.specs.declared.stopped.Stopped.{Stopped}
use Rattle.ram_machine.specs.declared.status.Status.{Status}
use Rattle.ram_script.specs.RunCounts.{Counts}
use Rattle.ram_answers.specs.declared.answers.Answers.{Ghosts as Answerers}
use Rattle.ram_answers.specs.TextRuns.{TextBeginning, IsTextStep}
use Rattle.ram_answers.specs.Reports.{Heard, ToldWith}

-- what is known of the conversation of a dialogue
abbrev pub heard_in : {T K : Type 0} → Conversations T K → Sinks K → Dialogue T K → Heard
heard_in talks sinks dialogue = record {
  left = talks.left (talk_of dialogue);
  written = sinks.written (sink_of talks dialogue);
  refused = sinks.refused (sink_of talks dialogue);
}

module _ {A R : Type 0} (these : Answerers A R) where
  -- a line of these bytes is not answered for this reason
  abbrev pub StopsAnswering : A → List ℕ → Stopped → A → Type 0
  StopsAnswering before raw why after = these.answered before raw (Err why) after

  -- what stands with each status, where this answers the lines first
  abbrev pub TextsToldWith : TextBeginning A → Heard → A → (old new : Counts) → Status → Type 0
  TextsToldWith first heard after old new status = ToldWith (λ start. start ≡ first.start) (λ before number event after. IsTextStep these before number event after) StopsAnswering
      first.script first.report heard after old new status

  -- what is left of the script and what is written are those of the beginning
  pub record HearsBeginning (first : TextBeginning A) (heard : Heard) (start : A) : Type 0 where
    pub start_is : start ≡ first.start
    pub left_is : heard.left ≡ Some first.script
    pub written_is : heard.written ≡ Some first.report
