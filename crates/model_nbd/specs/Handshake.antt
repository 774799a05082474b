-- How each option of the handshake is answered, and what the session does then. (After the NBD protocol; which options are
-- taken is this project's own.)
use Rattle.std.specs.Prelude.{ℕ, ◌+◌, ◌*◌, ◌==◌, ◌&&◌, ◌||◌, nat_lt, nat_le, if◌then◌else◌, Bool, List, [], ◌++◌, length, drop, replicate}
use Rattle.byteorder.specs.Endian.{big_bytes, big_number}
use Rattle.model_nbd.specs.Messages.{OptionRequest, option_reply}
use Rattle.model_nbd.specs.declared.NextPhase.{NextPhase}
use Rattle.model_nbd.specs.declared.NextPhase.TheVariants.{Options, Transmission, Left, Violation}
use Rattle.model_nbd.specs.declared.TheConstants.{EXPORT_NAME, ABORT, LIST, INFO, GO}
use Rattle.model_nbd.specs.declared.TheConstants.{ACKNOWLEDGED, SERVER, FACT, UNSUPPORTED, INVALID, UNKNOWN, TOO_BIG}
use Rattle.model_nbd.specs.declared.TheConstants.{MOST_BYTES, OPTION_LIMIT, EXPORT_FLAGS}

-- What is served: a disc of this many bytes; or nothing, and a text that says why.
pub data Export : Type 0 where
  Serving : ℕ → Export
  Nothing : List ℕ → Export

-- the bytes that an option is answered with, and what follows
pub record OptionAnswer : Type 0 where
  pub bytes : List ℕ
  pub next : NextPhase

-- the option is answered with this, and another is awaited
abbrev pub answered : (number kind : ℕ) → List ℕ → OptionAnswer
answered number kind payload = record { bytes = option_reply number kind payload; next = Options }

-- EXPORT_NAME, with the padding of 124 zeros unless the client leaves it out. It has no error reply: where there is no disc, or
-- another name is asked for, the session ends.
abbrev pub export_name_answer : Export → (zeros : Bool) → (name : List ℕ) → OptionAnswer
export_name_answer (Nothing why) zeros name = record { bytes = []; next = Violation }
export_name_answer (Serving size) zeros name =
    if length name == 0 then record {
      bytes = big_bytes 8 size ++ big_bytes 2 EXPORT_FLAGS ++ (if zeros then replicate 124 0 else []);
      next = Transmission;
    } else record { bytes = []; next = Violation }

-- The data of INFO and GO: a name after its length, a list of 2-byte numbers after theirs, and nothing else.
abbrev pub is_info_request : List ℕ → Bool
is_info_request payload =
    nat_le (6 + big_number 4 payload) (length payload)
    && (length payload == 6 + big_number 4 payload + 2 * big_number 2 (drop (4 + big_number 4 payload) payload))

-- INFO_EXPORT, INFO_BLOCK_SIZE (a sector at least, a block at best, at most `MOST_BYTES`), and the acknowledgement
abbrev pub export_info : (number size : ℕ) → List ℕ
export_info number size =
    option_reply number FACT (big_bytes 2 0 ++ big_bytes 8 size ++ big_bytes 2 EXPORT_FLAGS)
    ++ option_reply number FACT (big_bytes 2 3 ++ big_bytes 4 2048 ++ big_bytes 4 32768 ++ big_bytes 4 MOST_BYTES)
    ++ option_reply number ACKNOWLEDGED []

-- INFO and GO tell of the disc; GO begins the transmission.
abbrev pub info_answer : Export → (number : ℕ) → OptionAnswer
info_answer (Nothing why) number = answered number UNKNOWN why
info_answer (Serving size) number =
    record { bytes = export_info number size; next = if number == GO then Transmission else Options }

-- The data of INFO and GO have to ask for the export of the empty name.
abbrev pub named_info_answer : Export → (number : ℕ) → List ℕ → OptionAnswer
named_info_answer export number payload =
    if is_info_request payload then (if big_number 4 payload == 0 then info_answer export number else answered number UNKNOWN [])
    else answered number INVALID []

-- LIST has no data: there is one export, of the empty name.
abbrev pub list_answer : List ℕ → OptionAnswer
list_answer payload =
    if length payload == 0 then record {
      bytes = option_reply LIST SERVER (big_bytes 4 0) ++ option_reply LIST ACKNOWLEDGED [];
      next = Options;
    } else answered LIST INVALID []

-- An option with more data than are taken: EXPORT_NAME has no reply that says so, and ends the session.
abbrev pub long_answer : (number : ℕ) → OptionAnswer
long_answer number =
    if number == EXPORT_NAME then record { bytes = []; next = Violation } else answered number TOO_BIG []

-- An option whose data are not too long.
abbrev pub short_answer : Export → (zeros : Bool) → (number : ℕ) → List ℕ → OptionAnswer
short_answer export zeros number payload =
    if number == EXPORT_NAME then export_name_answer export zeros payload
    else if number == ABORT then record { bytes = option_reply ABORT ACKNOWLEDGED []; next = Left }
    else if number == LIST then list_answer payload
    else if (number == INFO) || (number == GO) then named_info_answer export number payload
    else answered number UNSUPPORTED []

-- How an option is answered.
abbrev pub option_answer : Export → (zeros : Bool) → OptionRequest → OptionAnswer
option_answer export zeros option =
    if nat_lt OPTION_LIMIT (length option.payload) then long_answer option.number
    else short_answer export zeros option.number option.payload
