-- What is known of a conversation and an opener around a call that runs something, and what is done with them. (This project's own, as all here.)
use Rattle.std.specs.Prelude.{◌≡◌, ℕ, ◌⊎◌, Option, List, take}
use Rattle.std.specs.Io.KnownBytes.{append_known}
use Rattle.ram_outside.specs.Opener.{OpenerView, and_asked}
use Rattle.ram_outside.specs.Seen.{seen_opener}
use Rattle.ram_outside.specs.declared.opener.Access.{Access}
use Rattle.ram_outside.specs.declared.opener.Opener.{Ghosts as Openers}
use Rattle.ram_outside.specs.Sink.{FailsOnce}
use Rattle.ram_outside.specs.declared.sink.Sink.{Ghosts as Sinks}
use Rattle.ram_outside.specs.Conversation.{Asked}
use Rattle.ram_outside.specs.declared.conversation.Conversation.{Ghosts as Conversations}
use Rattle.ram_script.specs.RunCounts.{Counts, counts_of}
use Rattle.ram_machine.specs.declared.status.Status.{Status}
use Rattle.ram_machine.specs.declared.status.Status.TheVariants as statuses

-- this text is written, by the status: all of it, or the beginning of it where the sink failed
abbrev pub WritesText : Option (List ℕ) → Option (List ℕ) → List ℕ → Status → Type 0
WritesText written written' text statuses.Done = written' ≡ append_known written text
WritesText written written' text statuses.SinkFault = (n : ℕ) × (written' ≡ append_known written (take n text))
WritesText written written' text _ = ⊥

-- the sink's count where a text alone is written, by the status
abbrev pub TextCount : ℕ → ℕ → Status → Type 0
TextCount faults faults' statuses.Done = faults' ≡ faults
TextCount faults faults' statuses.SinkFault = FailsOnce faults faults'
TextCount faults faults' _ = ⊥

-- What is known of a conversation and an opener: what is left to come, what was written, how many bytes there would be with what the sink
-- refused, when more was asked for, and how often each part has failed.
pub record Surroundings (I : Type 0) : Type 0 where
  pub left : Option (List ℕ)
  pub written : Option (List ℕ)
  pub refused : Option ℕ
  pub asked : Option (List Asked)
  pub opener : OpenerView I
  pub counts : Counts

module _ {T K O I : Type 0} (talks : Conversations T K) (sinks : Sinks K) (openers : Openers O I) where
  -- the surroundings that these are
  abbrev pub around : T → O → Surroundings I
  around talk opener = record {
    left = talks.left talk;
    written = sinks.written (talks.report talk);
    refused = sinks.refused (talks.report talk);
    asked = talks.asked talk;
    opener = seen_opener openers opener;
    counts = counts_of (talks.faults talk) (sinks.faults (talks.report talk)) (openers.faults opener);
  }

-- What is done of a run, by what is known before and after.
module _ {I : Type 0} (old new : Surroundings I) where
  -- nothing was opened, asked for or read
  pub record IsUnused : Type 0 where
    pub unread : new.left ≡ old.left
    pub unasked : new.asked ≡ old.asked
    pub unopened : new.opener ≡ old.opener

  -- nothing was opened, read or written
  pub record IsUntouched : Type 0 where
    pub unused : IsUnused
    pub unwritten : new.written ≡ old.written

  -- with the status of usage nothing was opened, read or written
  abbrev pub UntouchedByUsage : Status → Type 0
  UntouchedByUsage statuses.Usage = IsUntouched
  UntouchedByUsage _ = Unit {0}

  -- this text is written, and nothing was opened or read
  abbrev pub TellsText : List ℕ → Status → Type 0
  TellsText text status = IsUnused × WritesText old.written new.written text status

  -- nothing was read, written or handed back: no image was opened
  pub record IsNotOpened : Type 0 where
    pub unread : new.left ≡ old.left
    pub unwritten : new.written ≡ old.written
    pub unreturned : new.opener.returned ≡ old.opener.returned

  -- the opener was asked for this name, once, for this, and for no other
  abbrev pub IsAskedFor : Access → List ℕ → Type 0
  IsAskedFor access name = new.opener.asked ≡ and_asked access name old.opener.asked

  -- the opener was asked for nothing, and no image was opened
  pub record IsNotAsked : Type 0 where
    pub unasked : new.opener.asked ≡ old.opener.asked
    pub unopened : IsNotOpened

  -- The opener was asked for this name, once, for this; or it failed before it was.
  abbrev pub AsksOnce : Access → List ℕ → Status → Type 0
  AsksOnce access name statuses.ImageFault = IsAskedFor access name ⊎ IsNotAsked
  AsksOnce access name _ = IsAskedFor access name
