-- A whole session of a client, and what stands with each status when it ends. For the main clause of the word that serves a client.
-- (This project's own, as all here.)
use Rattle.std.specs.Prelude.{◌≡◌, ℕ, ◌-◌, ◌^◌, ◌<◌, ◌≤◌, ◌⊎◌, Option, Some, Ok, Err, List, [], ◌∷◌, ◌++◌, length, take}
use Rattle.std.specs.Io.KnownBytes.{prepend_known}
use Rattle.model_nbd.specs.Messages.{greeting, Request, IsRequest, request_bytes}
use Rattle.model_nbd.specs.Handshake.{Serving}
use Rattle.model_nbd.specs.Operations.{request_asks}
use Rattle.model_nbd.specs.Commands.{commands_of}
use Rattle.ram_outside.specs.Conversation.{Asked}
use Rattle.ram_text.specs.declared.script.Line.{Line}
use Rattle.ram_machine.specs.declared.reply.Reply.{Reply}
use Rattle.ram_machine.specs.declared.status.Status.{Status}
use Rattle.ram_machine.specs.declared.status.Status.TheVariants as statuses
use Rattle.ram_machine.specs.declared.stopped.Stopped.TheVariants as stopped
use Rattle.ram_machine.specs.Inserted.{LeavesImage}
use Rattle.ram_machine.specs.States.{State}
use Rattle.ram_machine.specs.LineSteps.{Step}
use Rattle.ram_script.specs.Progress.{Beginning}
use Rattle.ram_script.specs.Endings.{Aftermath}
use Rattle.ram_script.specs.RunCounts.{Counts, SameCounts, OnlySourceRose, OnlySinkRose, OnlyImageRose}
use Rattle.ram_session.specs.Doing.{Did, Doing, WereGood, FailsInNext, FailsBeforeReply}
use Rattle.ram_session.specs.Talk.{Phase, Transmission, Left, Violation, Turned, Talk, AwaitsMessage, BeginsNoMessage, sent_in, told_in}
use Rattle.ram_session.specs.Opening.{IsSessionOpened, IsOpenedInPart, RefusesFault, export_after}

-- A session so far: it was opened; the messages that came, the state and the phase that they lead to, and what follows them of what the
-- client sends.
pub record SessionSoFar (first : Beginning) (faults : List Line) : Type 0 where
  pub opened : IsSessionOpened first faults
  pub turns : List Turned
  pub now : State
  pub phase : Phase
  pub talk : Talk (export_after opened.steps) opened.ready turns now phase
  pub rest : List ℕ
  pub sent_is : first.script ≡ sent_in turns ++ rest

-- the answer to the newest message, or the greeting
abbrev pub newest : List Turned → List ℕ
newest [] = greeting
newest (turned ∷ before) = turned.bytes

-- what was told before it
abbrev pub earlier : List Turned → List ℕ
earlier [] = []
earlier (turned ∷ before) = told_in before

-- More was asked for when these messages had come: all that was due was told, another message may come, and what had
-- come of it was no whole one. (No answer is kept back, and nothing is awaited of a client that left.)
pub record IsToldBy (first : Beginning) (faults : List Line) (ask : Asked) : Type 0 where
  pub far : SessionSoFar first faults
  pub written_is : ask.written ≡ Some (first.report ++ told_in far.turns)
  pub awaits : AwaitsMessage far.phase
  pub came : List ℕ
  pub no_message : BeginsNoMessage far.phase came
  pub rest_is : prepend_known came ask.left ≡ Some far.rest

-- How a session ends, of which so much came: what is left to come, what is written, and which states may be left.
module _ {first : Beginning} {faults : List Line} (far : SessionSoFar first faults) (leaves : State → Type 0)
    (left written : Option (List ℕ)) where
  -- All that was due was told, and what is left is as the messages leave it. Of what follows them these bytes came, and no others.
  pub record IsLeftAt (came : List ℕ) : Type 0 where
    pub written_is : written ≡ Some (first.report ++ told_in far.turns)
    pub left_is : prepend_known came left ≡ Some far.rest
    pub leaves_now : leaves far.now

  -- The client left, or what it sends ended behind a message.
  pub record HasEnded : Type 0 where
    pub ended : (far.phase ≡ Left) ⊎ (far.rest ≡ [])
    pub at : IsLeftAt []

  -- The protocol has no answer to the last message; or what follows it is no message, or only a part of one; or as many messages came as
  -- a session has at most.
  abbrev pub BreaksProtocol : Type 0
  BreaksProtocol = ((far.phase ≡ Violation) × IsLeftAt [])
      ⊎ ((came : List ℕ) × (0 < length came) × AwaitsMessage far.phase × BeginsNoMessage far.phase far.rest × IsLeftAt came)
      ⊎ ((2 ^ 64 - 1 ≤ length far.turns) × IsLeftAt [])

  -- The source failed, and what it gave of what follows is no whole message.
  pub record IsCutBySource : Type 0 where
    pub awaits : AwaitsMessage far.phase
    pub came : List ℕ
    pub no_message : BeginsNoMessage far.phase came
    pub at : IsLeftAt came

  -- The sink failed in the newest answer, or in the greeting: all before it was told, and a part of it.
  pub record IsCutBySink : Type 0 where
    pub n : ℕ
    pub part : n < length (newest far.turns)
    pub written_is : written ≡ Some (first.report ++ (earlier far.turns ++ take n (newest far.turns)))
    pub left_is : left ≡ Some far.rest
    pub leaves_now : leaves far.now

  -- The next message is a request. Its first commands were good, and in the next one the image failed; or all of them were, and the
  -- image failed as all was to last. Nothing is told of the request.
  pub record IsCutByImage : Type 0 where
    pub size : ℕ
    pub serves : export_after far.opened.steps ≡ Serving size
    pub asks : far.phase ≡ Transmission
    pub request : Request
    pub whole : IsRequest request
    pub rest : List ℕ
    pub comes : far.rest ≡ request_bytes request ++ rest
    pub dids : List Did
    pub good : WereGood dids
    pub mid : State
    pub done : Doing far.now dids mid
    pub state : State
    pub fails : FailsInNext (commands_of (request_asks size request.header) request.payload) dids mid state
        ⊎ FailsBeforeReply (request_asks size request.header)
        (commands_of (request_asks size request.header) request.payload) dids mid state
    pub written_is : written ≡ Some (first.report ++ told_in far.turns)
    pub left_is : left ≡ Some rest
    pub leaves_state : leaves state

-- How a session ends in which a client was greeted, by its status.
abbrev pub TalkEnds : Beginning → (faults : List Line) → (leaves : State → Type 0) → (left written : Option (List ℕ)) → Status
    → Type 0
TalkEnds first faults leaves left written statuses.Done = (far : SessionSoFar first faults) × HasEnded far leaves left written
TalkEnds first faults leaves left written statuses.Script = (far : SessionSoFar first faults) × BreaksProtocol far leaves left written
TalkEnds first faults leaves left written statuses.SourceFault = (far : SessionSoFar first faults) × IsCutBySource far leaves left written
TalkEnds first faults leaves left written statuses.SinkFault = (far : SessionSoFar first faults) × IsCutBySink far leaves left written
TalkEnds first faults leaves left written statuses.ImageFault = (far : SessionSoFar first faults) × IsCutByImage far leaves left written
TalkEnds first faults leaves left written _ = ⊥

-- No client was greeted: nothing came and nothing was told.
pub record IsNotGreeted (first : Beginning) (after : Aftermath) : Type 0 where
  pub written_is : after.written ≡ Some first.report
  pub left_is : after.left ≡ Some first.script

-- A fault that the words ask for was refused. The state after it may be left.
pub record EndsAtFault (first : Beginning) (faults : List Line) (leaves : State → Type 0) : Type 0 where
  pub part : IsOpenedInPart first faults
  pub reply : Reply
  pub data_in : List ℕ
  pub state : State
  pub step : Step part.now part.next.line part.next.payload (Ok reply) data_in state
  pub refused : RefusesFault reply
  pub leaves_state : leaves state

-- The image failed in a line before a client was greeted. The state after it may be left.
pub record EndsInOpening (first : Beginning) (faults : List Line) (leaves : State → Type 0) : Type 0 where
  pub part : IsOpenedInPart first faults
  pub data_in : List ℕ
  pub state : State
  pub step : Step part.now part.next.line part.next.payload (Err stopped.ImageFault) data_in state
  pub leaves_state : leaves state

-- The image failed when it was opened, which leaves its bytes.
pub record EndsUnopened (first : Beginning) (after : Aftermath) : Type 0 where
  pub ungreeted : IsNotGreeted first after
  pub image_is : after.image ≡ Some first.image

-- A fault that the words ask for was refused, so no client was greeted. The image is as the lines leave it.
abbrev pub EndsRefused : Beginning → (faults : List Line) → Aftermath → Type 0
EndsRefused first faults after = EndsAtFault first faults (λ s. LeavesImage s after.image) × IsNotGreeted first after

-- The image failed before a client was greeted: when it was opened, or in a line, as which it is left.
abbrev pub EndsFailed : Beginning → (faults : List Line) → Aftermath → Type 0
EndsFailed first faults after =
    EndsUnopened first after ⊎ (EndsInOpening first faults (λ s. LeavesImage s after.image) × IsNotGreeted first after)

-- A client was greeted, and the session ended with this status. The image is as its messages leave it.
abbrev pub EndsGreeted : Beginning → (faults : List Line) → Aftermath → Status → Type 0
EndsGreeted first faults after status = TalkEnds first faults (λ s. LeavesImage s after.image) after.left after.written status

-- What stands with each status of a session, where the bytes of source, sink and image are known.
abbrev pub SessionStands : Beginning → (faults : List Line) → Aftermath → Status → Type 0
SessionStands first faults after statuses.Script = EndsRefused first faults after ⊎ EndsGreeted first faults after statuses.Script
SessionStands first faults after statuses.ImageFault = EndsFailed first faults after ⊎ EndsGreeted first faults after statuses.ImageFault
SessionStands first faults after status = EndsGreeted first faults after status

-- The count that a status tells of rose, and no other; with every other status nothing failed at all. Some are no status of a session,
-- whatever is known.
abbrev pub SessionCounts : (before after : Counts) → Status → Type 0
SessionCounts before after statuses.ImageFault = OnlyImageRose before after
SessionCounts before after statuses.SourceFault = OnlySourceRose before after
SessionCounts before after statuses.SinkFault = OnlySinkRose before after
SessionCounts before after statuses.Differs = ⊥
SessionCounts before after statuses.Usage = ⊥
SessionCounts before after statuses.NoMemory = ⊥
SessionCounts before after _ = SameCounts before after
