-- The talk of a client and a drive, message by message: what each message does to the drive, what the client is told, and what may
-- come then. (After the NBD protocol; the words are this project's own.)
use Rattle.std.specs.Prelude.{◌≡◌, ℕ, Bool, List, [], ◌∷◌, ◌++◌}
use Rattle.model_nbd.specs.declared.NbdOperation.{NbdOperation}
use Rattle.model_nbd.specs.declared.NbdOperation.TheVariants as operations
use Rattle.model_nbd.specs.declared.NextPhase.{NextPhase}
use Rattle.model_nbd.specs.declared.NextPhase.TheVariants as phases
use Rattle.model_nbd.specs.Messages.{greeting, client_flags, OptionRequest, IsOptionRequest, option_bytes, Request, IsRequest, request_bytes}
use Rattle.model_nbd.specs.Handshake.{Export, Serving, option_answer}
use Rattle.model_nbd.specs.Operations.{request_asks}
use Rattle.model_nbd.specs.Commands.{commands_of}
use Rattle.ram_machine.specs.States.{State}
use Rattle.ram_session.specs.Doing.{Did, Doing, AreDone, reply_to}

-- What a client sends: its flags, once, by which it wants the padding of EXPORT_NAME or not; then options; then requests.
pub data Message : Type 0 where
  Flags : Bool → Message
  Wants : OptionRequest → Message
  Asks : Request → Message

-- the bytes of a message
abbrev pub message_bytes : Message → List ℕ
message_bytes (Flags zeros) = client_flags zeros
message_bytes (Wants option) = option_bytes option
message_bytes (Asks request) = request_bytes request

-- Where a session stands: the client was greeted; it sends options, and wants the padding of EXPORT_NAME or not; it sends requests; it
-- has left; or the protocol has no answer for it.
pub data Phase : Type 0 where
  Greeted : Phase
  Options : Bool → Phase
  Transmission : Phase
  Left : Phase
  Violation : Phase

-- the phase after an option
abbrev pub phase_after : (zeros : Bool) → NextPhase → Phase
phase_after zeros phases.Options = Options zeros
phase_after zeros phases.Transmission = Transmission
phase_after zeros phases.Left = Left
phase_after zeros phases.Violation = Violation

-- the phase after a request
abbrev pub phase_asked : NbdOperation → Phase
phase_asked operations.Disconnect = Left
phase_asked _ = Transmission

-- this message may come in this phase
abbrev pub MayCome : Phase → Message → Type 0
MayCome Greeted (Flags zeros) = Unit {0}
MayCome (Options zeros) (Wants option) = IsOptionRequest option
MayCome Transmission (Asks request) = IsRequest request
MayCome _ _ = ⊥

-- another message may come in this phase
abbrev pub AwaitsMessage : Phase → Type 0
AwaitsMessage Left = ⊥
AwaitsMessage Violation = ⊥
AwaitsMessage _ = Unit {0}

-- these bytes do not begin with a whole message that may come in this phase
abbrev pub BeginsNoMessage : Phase → List ℕ → Type 0
BeginsNoMessage phase bytes =
    (message : Message) (after : List ℕ) → MayCome phase message → ¬ (bytes ≡ message_bytes message ++ after)

-- A message that came: the commands that were done for it, and what the client was told.
pub record Turned : Type 0 where
  pub message : Message
  pub dids : List Did
  pub bytes : List ℕ

-- after the flags nothing is done or told, and options follow
pub record IsFlagged (zeros : Bool) (dids : List Did) (bytes : List ℕ) (next : Phase) : Type 0 where
  pub nothing_done : dids ≡ []
  pub nothing_told : bytes ≡ []
  pub next_is : next ≡ Options zeros

-- an option is answered as the protocol has it, and nothing is done
pub record IsOptionAnswered (export : Export) (zeros : Bool) (option : OptionRequest) (dids : List Did) (bytes : List ℕ)
    (next : Phase) : Type 0 where
  pub whole : IsOptionRequest option
  pub nothing_done : dids ≡ []
  pub told_is : bytes ≡ (option_answer export zeros option).bytes
  pub next_is : next ≡ phase_after zeros (option_answer export zeros option).next

-- For a request to a disc of this many bytes the commands of what it asks are done, and the client is told how they ended.
pub record IsRequestAnswered (size : ℕ) (request : Request) (dids : List Did) (bytes : List ℕ) (next : Phase) : Type 0 where
  pub whole : IsRequest request
  pub done : AreDone (commands_of (request_asks size request.header) request.payload) dids
  pub told_is : bytes ≡ reply_to request.header.cookie (request_asks size request.header) dids
  pub next_is : next ≡ phase_asked (request_asks size request.header)

-- What a message makes of where the session of a client stands, to whom this is served: what is done and told, and the next phase.
abbrev pub FollowsBy : Phase → Message → Export → List Did → List ℕ → Phase → Type 0
FollowsBy Greeted (Flags zeros) export dids bytes next = IsFlagged zeros dids bytes next
FollowsBy (Options zeros) (Wants option) export dids bytes next = IsOptionAnswered export zeros option dids bytes next
FollowsBy Transmission (Asks request) (Serving size) dids bytes next = IsRequestAnswered size request dids bytes next
FollowsBy _ _ _ dids bytes next = ⊥

-- the same of a message that came
abbrev pub TurnFollows : Export → Phase → Turned → Phase → Type 0
TurnFollows export phase turned next = FollowsBy phase turned.message export turned.dids turned.bytes next

-- The messages, the newest first, lead from the state in which the client is greeted to this state and phase.
abbrev pub Talk : Export → State → List Turned → State → Phase → Type 0
Talk export first [] last phase = (last ≡ first) × (phase ≡ Greeted)
Talk export first (turned ∷ before) last phase =
    (mid : State) × (was : Phase) × Talk export first before mid was
    × Doing mid turned.dids last × TurnFollows export was turned phase

-- what the client sent
abbrev pub sent_in : List Turned → List ℕ
sent_in [] = []
sent_in (turned ∷ before) = sent_in before ++ message_bytes turned.message

-- what it was told: the greeting, and the answer to each message
abbrev pub told_in : List Turned → List ℕ
told_in [] = greeting
told_in (turned ∷ before) = told_in before ++ turned.bytes

-- all commands that were done
abbrev pub dids_in : List Turned → List Did
dids_in [] = []
dids_in (turned ∷ before) = turned.dids ++ dids_in before
