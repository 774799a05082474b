-- How far a session came between two messages, and what one request makes of it. For the loops over options and requests and the calls below
-- them. (This project's own, as all here.)
use Rattle.std.specs.Prelude.{◌≡◌, ℕ, ◌<◌, ◌≤◌, Option, Result, Ok, Err, List, [], length, take}
use Rattle.std.specs.Io.KnownBytes.{append_known}
use Rattle.model_nbd.specs.declared.NbdOperation.{NbdOperation}
use Rattle.model_nbd.specs.declared.NbdOperation.TheVariants as operations
use Rattle.model_nbd.specs.Handshake.{Export, Serving}
use Rattle.ram_outside.specs.Sink.{FailsOnce}
use Rattle.ram_outside.specs.declared.sink.Sink.{Ghosts as Sinks}
use Rattle.ram_outside.specs.declared.conversation.Conversation.{Ghosts as Conversations}
use Rattle.ram_text.specs.declared.script.Line.{Line}
use Rattle.ram_machine.specs.declared.status.Status.{Status}
use Rattle.ram_machine.specs.declared.status.Status.TheVariants as statuses
use Rattle.ram_machine.specs.States.{State, Served, Disc}
use Rattle.ram_script.specs.Progress.{Beginning}
use Rattle.ram_script.specs.RunCounts.{Counts, counts_of, SameCounts}
use Rattle.ram_session.specs.Talk.{Phase, Transmission, phase_asked}
use Rattle.ram_session.specs.Opening.{export_after}
use Rattle.ram_session.specs.Session.{SessionSoFar, IsLeftAt, TalkEnds, SessionCounts}
use Rattle.ram_transmission.specs.Requests.{RequestDone, RequestFails}

-- Between two messages, of which n came at least: all that was due was told, the client of a session in which this is served stands in this
-- phase, and the messages lead to one of these states.
pub record BetweenMessages (first : Beginning) (faults : List Line) (export : Export) (phase : Phase) (n : ℕ)
    (stands : State → Type 0) (left written : Option (List ℕ)) : Type 0 where
  pub far : SessionSoFar first faults
  pub serves : export_after far.opened.steps ≡ export
  pub phase_is : far.phase ≡ phase
  pub many : n ≤ length far.turns
  pub at : IsLeftAt far stands left written []

-- The same between two requests to a disc of this many bytes: the messages lead to a disc. (`stands` tells which states the drive stands for.)
pub record BetweenRequests (first : Beginning) (faults : List Line) (size n : ℕ) (stands : State → Type 0)
    (left written : Option (List ℕ)) : Type 0 where
  pub between : BetweenMessages first faults (Serving size) Transmission n stands left written
  pub disc : Served
  pub disc_is : between.far.now ≡ Disc disc

-- What requests make of it, by the answer of the call: they are answered; or the session ends with this status.
abbrev pub RequestsLeadTo : Beginning → (faults : List Line) → (size n : ℕ) → (stands : State → Type 0) → (left written : Option (List ℕ))
    → Result (Unit {0}) Status → Type 0
RequestsLeadTo first faults size n stands left written (Ok done) = BetweenRequests first faults size n stands left written
RequestsLeadTo first faults size n stands left written (Err status) = TalkEnds first faults stands left written status

-- The reply to a request that was done is told, whole or in part; a client that leaves is told nothing.
abbrev pub ReplyRule : (written written' : Option (List ℕ)) → NbdOperation → (reply : List ℕ) → Result (Unit {0}) Status → Type 0
ReplyRule written written' operation reply (Ok done) = (phase_asked operation ≡ Transmission) × (written' ≡ append_known written reply)
ReplyRule written written' operation reply (Err statuses.Done) = (operation ≡ operations.Disconnect) × (written' ≡ written)
ReplyRule written written' operation reply (Err statuses.SinkFault) =
    (n : ℕ) × (n < length reply) × (written' ≡ append_known written (take n reply))
ReplyRule written written' operation reply (Err status) = ⊥

-- the sink's count, by the answer: it rose by one where the sink failed, and else it stayed
abbrev pub ReplyCount : (faults faults' : ℕ) → Result (Unit {0}) Status → Type 0
ReplyCount faults faults' (Err statuses.SinkFault) = FailsOnce faults faults'
ReplyCount faults faults' result = faults' ≡ faults

module _ (after : State → Type 0) (written written' : Option (List ℕ)) where
  -- the request was done, and its reply told so
  pub record AnsweredSo (s : Served) (operation : NbdOperation) (payload : List ℕ) (cookie : ℕ) (result : Result (Unit {0}) Status) : Type 0
    where
      pub reply : List ℕ
      pub done : RequestDone after s operation payload cookie reply
      pub told : ReplyRule written written' operation reply result

  -- What answering a request may do, by the answer of the call: where the image failed, nothing is told.
  abbrev pub AnswerRule : Served → NbdOperation → (payload : List ℕ) → (cookie : ℕ) → Result (Unit {0}) Status → Type 0
  AnswerRule s operation payload cookie (Err statuses.ImageFault) =
      RequestFails after s operation payload × (written' ≡ written)
  AnswerRule s operation payload cookie result = AnsweredSo s operation payload cookie result

module _ {T K : Type 0} (talks : Conversations T K) (sinks : Sinks K) where
  -- the counts of a conversation's source and sink, and that of the image
  abbrev pub counts_now : T → (image : ℕ) → Counts
  counts_now talk image = counts_of (talks.faults talk) (sinks.faults (talks.report talk)) image

-- The counts, by the answer of a call that may end a session: where it does not, nothing failed.
abbrev pub TurnCounts : {X : Type 0} → (before after : Counts) → Result X Status → Type 0
TurnCounts before after (Ok done) = SameCounts before after
TurnCounts before after (Err status) = SessionCounts before after status
