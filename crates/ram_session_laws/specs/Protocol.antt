-- A client that keeps to the protocol: each of its messages may come where the answer to the one before leads. For the law that it is
-- served to its end. (This project's own, as all here.)
use Rattle.std.specs.Prelude.{◌≡◌, ℕ, List, [], ◌∷◌, ◌++◌}
use Rattle.model_nbd.specs.Handshake.{Export, Serving, option_answer}
use Rattle.model_nbd.specs.Operations.{request_asks}
use Rattle.ram_text.specs.declared.script.Line.{Line}
use Rattle.ram_machine.specs.Inserted.{LeavesImage}
use Rattle.ram_machine.specs.declared.status.Status.{Status}
use Rattle.ram_machine.specs.declared.status.Status.TheVariants as statuses
use Rattle.ram_script.specs.Endings.{Aftermath}
use Rattle.ram_script.specs.Progress.{Beginning}
use Rattle.ram_session.specs.Talk.{Message, Flags, Wants, Asks, message_bytes, Phase, Greeted, Options, Transmission, Violation, phase_after, phase_asked, MayCome, Turned}
use Rattle.ram_session.specs.Session.{SessionSoFar, HasEnded}

-- where the answer to a message leads, to a client that this is served
abbrev pub phase_told : Export → Phase → Message → Phase
phase_told export Greeted (Flags zeros) = Options zeros
phase_told export (Options zeros) (Wants option) = phase_after zeros (option_answer export zeros option).next
phase_told (Serving size) Transmission (Asks request) = phase_asked (request_asks size request.header)
phase_told _ _ _ = Violation

-- These messages, the oldest first, may come one after another from this phase on, and the protocol has an answer to each.
abbrev pub KeepsProtocol : Export → Phase → List Message → Type 0
KeepsProtocol export phase [] = ¬ (phase ≡ Violation)
KeepsProtocol export phase (message ∷ rest) = MayCome phase message × KeepsProtocol export (phase_told export phase message) rest

-- their bytes
abbrev pub messages_bytes : List Message → List ℕ
messages_bytes [] = []
messages_bytes (message ∷ rest) = message_bytes message ++ messages_bytes rest

-- the messages that came, the oldest first
abbrev pub messages_in : List Turned → List Message
messages_in [] = []
messages_in (turned ∷ before) = messages_in before ++ turned.message ∷ []

-- The session ended with Done behind these messages, each of which was answered.
pub record IsServedToEnd (first : Beginning) (faults : List Line) (messages : List Message) (after : Aftermath) (status : Status)
    : Type 0 where
  pub done : status ≡ statuses.Done
  pub far : SessionSoFar first faults
  pub ended : HasEnded far (λ s. LeavesImage s after.image) after.left after.written
  pub all : messages_in far.turns ≡ messages
