-- What is promised of a script for a mirror of the discs in two images: the contract of the call that opens them. (This project's own, as all
-- here.)
use Rattle.std.specs.Prelude.{◌≡◌, ℕ, ◌+◌, ◌≤◌, ◌⊎◌, Bool, true, Option, Some, IfSome, List}
use Rattle.std.specs.Bool.{OnTrue}
use Rattle.ram_outside.specs.Conversation.{AsksOnly}
use Rattle.ram_outside.specs.Opener.{and_asked}
use Rattle.ram_outside.specs.Past.{Moment, HasNewest, OnlyNewestFailed}
use Rattle.ram_outside.specs.declared.conversation.Conversation.{Ghosts as Conversations}
use Rattle.ram_outside.specs.declared.opener.Access.TheVariants.{ReadWrite}
use Rattle.ram_outside.specs.declared.sink.Sink.{Ghosts as Sinks}
use Rattle.ram_machine.specs.declared.status.Status.{Status}
use Rattle.ram_machine.specs.declared.status.Status.TheVariants as statuses
use Rattle.ram_script.specs.Around.{Surroundings, IsNotOpened}
use Rattle.ram_script.specs.Opened.{bytes_returned}
use Rattle.ram_script.specs.RunCounts.{Counts, counts_of}
use Rattle.ram_answers.specs.Reports.{Heard}
use Rattle.ram_mirrored.specs.MirrorPromise.{KeepsPair}
use Rattle.ram_mirrored.specs.MirrorRuns.{MirrorBeginning, IsMirrorToldBy, MirrorStandsWith}

-- what is left of the script, what is written and the bytes of both images are those of the beginning
pub record IsMirrorBeginning (first : MirrorBeginning) (heard : Heard) (a b : Option (List ℕ)) : Type 0 where
  pub left_is : heard.left ≡ Some first.script
  pub written_is : heard.written ≡ Some first.report
  pub a_is : a ≡ Some first.images.a
  pub b_is : b ≡ Some first.images.b

module _ {T K : Type 0} (talks : Conversations T K) (sinks : Sinks K) where
  -- what is known of a conversation
  abbrev pub heard_of : T → Heard
  heard_of talk = record {
    left = talks.left talk;
    written = sinks.written (talks.report talk);
    refused = sinks.refused (talks.report talk);
  }

  -- its counts, and how often both images have failed
  abbrev pub counts_beside : T → (failed_a failed_b : ℕ) → Counts
  counts_beside talk failed_a failed_b =
      counts_of (talks.faults talk) (sinks.faults (talks.report talk)) (failed_a + failed_b)

-- what is known of the conversation in what is around a run
abbrev pub heard_around : {I : Type 0} → Surroundings I → Heard
heard_around now = record { left = now.left; written = now.written; refused = now.refused }

-- What is known of source, sink and opener is what a run begins with; the opener tells which images it gives next, and what is handed back.
pub record BeginsMirror {I : Type 0} (bytes_of : I → Option (List ℕ)) (first : MirrorBeginning) (before : Surroundings I) (knows : Bool) : Type 0 where
  pub a : I
  pub b : I
  pub next_is : before.opener.next ≡ Some a
  pub after_next_is : before.opener.after_next ≡ Some b
  pub begins : IsMirrorBeginning first (heard_around before) (bytes_of a) (bytes_of b)
  pub knows_is : knows ≡ true

-- By what is known before and after, for images of these names, where the opener tells what is handed back or not.
module _ {I : Type 0} (knows : Bool) (old new : Surroundings I) (a b : List ℕ) where
  -- the opener was asked for the first image, and for no other
  abbrev pub IsAskedForOne : Type 0
  IsAskedForOne = new.opener.asked ≡ and_asked ReadWrite a old.opener.asked

  -- it was asked for both, once each and in this order, to be read and written
  abbrev pub IsAskedForBoth : Type 0
  IsAskedForBoth = new.opener.asked ≡ and_asked ReadWrite b (and_asked ReadWrite a old.opener.asked)

  -- The first image was not opened: nothing was read, written or handed back.
  pub record FirstUnopened : Type 0 where
    pub asked : IsAskedForOne ⊎ (new.opener.asked ≡ old.opener.asked)
    pub unopened : IsNotOpened old new

  -- The second image was not opened: nothing was read or written, and the first was handed back untouched.
  pub record SecondUnopened : Type 0 where
    pub asked : IsAskedForBoth ⊎ IsAskedForOne
    pub unread : new.left ≡ old.left
    pub unwritten : new.written ≡ old.written
    pub returned : IfSome old.opener.next (λ image. OnTrue knows (new.opener.returned ≡ Some image))

  -- the opener failed before both images were open
  abbrev pub FailsToOpen : Type 0
  FailsToOpen = FirstUnopened ⊎ SecondUnopened

  -- Both images were asked for; or the opener failed before they were open.
  abbrev pub AsksForBoth : Status → Type 0
  AsksForBoth statuses.ImageFault = IsAskedForBoth ⊎ FailsToOpen
  AsksForBoth _ = IsAskedForBoth

-- Of the images that were handed back each stopped at its first failure, if it failed at all, and one of them did: where its past is known,
-- no call but its last failed, and it has the bytes right after that call.
pub record OneStopped {I : Type 0} (bytes_of : I → Option (List ℕ)) (past_of : I → Option (List Moment)) (new : Surroundings I) : Type 0 where
  pub a : I
  pub b : I
  pub a_returned : new.opener.returned_before ≡ Some a
  pub b_returned : new.opener.returned ≡ Some b
  pub a_failed : ℕ
  pub b_failed : ℕ
  pub one : 1 ≤ a_failed + b_failed
  pub a_last : IfSome (past_of a) (OnlyNewestFailed a_failed)
  pub b_last : IfSome (past_of b) (OnlyNewestFailed b_failed)
  pub a_bytes : IfSome (past_of a) (HasNewest (bytes_of a))
  pub b_bytes : IfSome (past_of b) (HasNewest (bytes_of b))

-- What is promised of a script for a mirror of the discs in the images of these names, by what is known before and after, where the opener
-- tells what is handed back or not, and by the status. The opener is asked for both, in order, once each, to be read and written (`asks`).
-- Where script, report and images are known, the report is the text of the answers and the images are as the last state leaves them (`run`),
-- or not both were opened. Whenever more of the script is asked for, all answers to the whole lines that came by then are written (`talks`).
-- Each sector is a register in the lines that were answered, by script, report and the bytes of both images alone (`promise`).
-- An image that failed has the bytes right after the first of its calls that failed, or not both were opened (`fails`).
pub record RunsMirror {I : Type 0} (bytes_of : I → Option (List ℕ)) (past_of : I → Option (List Moment)) (knows : Bool)
    (old new : Surroundings I) (status : Status) (a b : List ℕ) : Type 0 where
  pub asks : AsksForBoth knows old new a b status
  pub run : (first : MirrorBeginning) → BeginsMirror bytes_of first old knows
      → MirrorStandsWith first (heard_around new) (bytes_returned bytes_of new.opener.returned_before)
      (bytes_returned bytes_of new.opener.returned) old.counts new.counts status
      ⊎ ((status ≡ statuses.ImageFault) × FailsToOpen knows old new a b)
  pub talks : (first : MirrorBeginning) → BeginsMirror bytes_of first old knows → AsksOnly (IsMirrorToldBy first) old.asked new.asked
  pub promise : (first : MirrorBeginning) → BeginsMirror bytes_of first old knows
      → KeepsPair first.script first.report first.images new.written
  pub fails : knows ≡ true → status ≡ statuses.ImageFault → OneStopped bytes_of past_of new ⊎ FailsToOpen knows old new a b
