-- What taking the next message may do, by how it ended: what is left to come, before and after, and the counts. For the calls that take
-- the messages of a client. (This project's own, as all here.)
use Rattle.std.specs.Prelude.{◌≡◌, ℕ, ◌<◌, ◌≤◌, ◌^◌, nat_lt, if◌then◌else◌, Bool, Option, Some, Result, Ok, Err, List, [], ◌++◌, length}
use Rattle.model_counts.specs.Counts.{Rose}
use Rattle.model_nbd.specs.declared.Header.{Header}
use Rattle.model_nbd.specs.declared.NbdOperation.{NbdOperation}
use Rattle.model_nbd.specs.declared.NbdOperation.TheVariants as operations
use Rattle.model_nbd.specs.declared.TheConstants.{OPTION_LIMIT}
use Rattle.model_nbd.specs.Messages.{client_flags, OptionRequest, IsOptionRequest, option_head_bytes, option_bytes}
use Rattle.model_nbd.specs.Messages.{IsHeader, header_bytes, data_after, Request, IsRequest, request_bytes}
use Rattle.model_nbd.specs.Handshake.{Export, OptionAnswer, option_answer, long_answer, short_answer}
use Rattle.model_nbd.specs.Operations.{request_asks}
use Rattle.model_nbd.specs.Commands.{commands_of}
use Rattle.ram_nbd.specs.declared.handshake.OptionHead.{OptionHead}
use Rattle.ram_outside.specs.Conversation.{Asked}
use Rattle.ram_receive.specs.Receiving.{Went}
use Rattle.ram_machine.specs.declared.status.Status.{Status}
use Rattle.ram_machine.specs.declared.status.Status.TheVariants as statuses
use Rattle.ram_session.specs.Talk.{Phase, AwaitsMessage, BeginsNoMessage}
use Rattle.ram_transmission.specs.Requests.{Fits}
use Rattle.ram_serve.specs.declared.incoming.Incoming.{Incoming}
use Rattle.ram_serve.specs.Messages.{EndsAfter, MoreRule}

-- More was asked for in a message of this phase: what had come of it was no whole one, and this was written.
pub record IsAskWithin (left written : Option (List ℕ)) (phase : Phase) (ask : Asked) : Type 0 where
  pub awaits : AwaitsMessage phase
  pub came : List ℕ
  pub none : BeginsNoMessage phase came
  pub went : Went left ask.left came
  pub written_is : ask.written ≡ written

-- the data of a write are in the room
abbrev pub HoldsData : NbdOperation → (payload room : List ℕ) → Type 0
HoldsData (operations.Write lba n fua) payload room = room ≡ payload
HoldsData _ payload room = Unit {0}

-- The data of a write follow its header, and the room of a request holds them.
abbrev pub TakesData : Header → NbdOperation → Type 0
TakesData header (operations.Write lba n fua) = (header.kind ≡ 1) × (header.len ≤ 33554432)
TakesData header _ = Unit {0}

-- How an option that begins so is answered, by its data in the room: of those that are too long nothing is known.
abbrev pub head_answer : Export → (zeros : Bool) → OptionHead → (room : List ℕ) → OptionAnswer
head_answer export zeros head room =
    if nat_lt OPTION_LIMIT head.length then long_answer head.number else short_answer export zeros head.number room

-- The room does for these data of an option.
abbrev pub AnswersAlike : OptionHead → (payload room : List ℕ) → Type 0
AnswersAlike head payload room = (export : Export) (zeros : Bool)
    → head_answer export zeros head room ≡ head_answer export zeros head payload

module _ (left left' : Option (List ℕ)) (faults faults' : ℕ) where
  -- These bytes came, and begin no message of this phase, whatever follows them of what is left.
  pub record IsNoMessage (phase : Phase) : Type 0 where
    pub came : List ℕ
    pub some : 0 < length came
    pub went : Went left left' came
    pub none : (rest : List ℕ) → left' ≡ Some rest → BeginsNoMessage phase (came ++ rest)
    pub count : faults' ≡ faults

  -- The source failed, and what came before is no whole message of this phase.
  pub record IsCutOff (phase : Phase) : Type 0 where
    pub came : List ℕ
    pub went : Went left left' came
    pub none : BeginsNoMessage phase came
    pub count : Rose faults faults'

  -- No message of this phase came: nothing comes any more; what came is none; or the source failed in it.
  abbrev pub NoneCame : Phase → Status → Type 0
  NoneCame phase statuses.Done = EndsAfter left left' faults faults' []
  NoneCame phase statuses.Script = IsNoMessage phase
  NoneCame phase statuses.SourceFault = IsCutOff phase
  NoneCame phase status = ⊥

  -- Taking a message of this phase: it came whole, or none did.
  abbrev pub TakeRule : {X : Type 0} → (whole : X → Type 0) → Phase → Result X Status → Type 0
  TakeRule whole phase (Ok message) = whole message
  TakeRule whole phase (Err status) = NoneCame phase status

  -- these flags came
  pub record FlagsCame (zeros : Bool) : Type 0 where
    pub went : Went left left' (client_flags zeros)
    pub count : faults' ≡ faults

  -- this beginning of an option came
  pub record OptionHeadCame (head : OptionHead) : Type 0 where
    pub number_fits : head.number < 2 ^ 32
    pub length_fits : head.length < 2 ^ 32
    pub went : Went left left' (option_head_bytes head.number head.length)
    pub count : faults' ≡ faults

  -- The data that follow it: they came, and the room does for them; or fewer came.
  abbrev pub OptionDataRule : OptionHead → (room : List ℕ) → Result (Unit {0}) Status → Type 0
  OptionDataRule head room result = (payload : List ℕ)
      × MoreRule left left' faults faults' head.length payload result × AnswersAlike head payload room

  -- An option that begins so came whole. The room does for its data.
  pub record OptionCame (room : List ℕ) (head : OptionHead) : Type 0 where
    pub option : OptionRequest
    pub whole : IsOptionRequest option
    pub went : Went left left' (option_bytes option)
    pub count : faults' ≡ faults
    pub answers : (export : Export) (zeros : Bool) → head_answer export zeros head room ≡ option_answer export zeros option

  -- this header came
  pub record HeaderCame (header : Header) : Type 0 where
    pub fields : IsHeader header
    pub went : Went left left' (header_bytes header)
    pub count : faults' ≡ faults

  -- The data that follow this header: they came, and those of a write are in the room; or fewer came.
  abbrev pub DataRule : Header → NbdOperation → (room : List ℕ) → Result (Unit {0}) Status → Type 0
  DataRule header operation room result = (payload : List ℕ)
      × MoreRule left left' faults faults' (data_after header) payload result × HoldsData operation payload room

  -- A request to a disc of this many bytes came whole, and this is what it asks. The room does for its data.
  pub record RequestCame (size : ℕ) (room : List ℕ) (incoming : Incoming) : Type 0 where
    pub request : Request
    pub whole : IsRequest request
    pub went : Went left left' (request_bytes request)
    pub count : faults' ≡ faults
    pub cookie_is : incoming.cookie ≡ request.header.cookie
    pub operation_is : incoming.operation ≡ request_asks size request.header
    pub fits : Fits incoming.operation room
    pub commands : commands_of incoming.operation room ≡ commands_of incoming.operation request.payload
