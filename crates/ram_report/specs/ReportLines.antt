-- The text of each answer and of each last line: for the functions that print them, and for the run that says what is due.
use Rattle.std.specs.Prelude.{◌≡◌, ℕ, ◌+◌, ◌*◌, ◌/◌, ◌%◌, ◌^◌, ◌<◌, ◌≤◌, ◌==◌, Bool, true, false, if◌then◌else◌, Option, Some, None, IfSome, List, [], ◌∷◌, ◌++◌, length, take, drop, slice_index, codes, decimal}
use Rattle.std.specs.List.{list_all, flat_map, range_with_len}
use Rattle.hex.specs.Hex.{encode_lower, lower_digits}
use Rattle.model_commands.specs.Commands.{operation_of, field}
use Rattle.model_commands.specs.declared.Operation.{Operation}
use Rattle.model_commands.specs.declared.Operation.TheVariants.{Read10, Read12}
use Rattle.model_sense.specs.declared.sense.Sense.{Sense}
use Rattle.model_sense.specs.declared.answer.Answer.{Answer}
use Rattle.model_sense.specs.declared.answer.Answer.TheVariants as answers
use Rattle.ram_report.specs.declared.printing.Event.{Event}
use Rattle.ram_report.specs.declared.printing.Event.TheVariants as events
use Rattle.ram_report.specs.declared.printing.LastLine.{LastLine}
use Rattle.ram_report.specs.declared.printing.LastLine.TheVariants as lasts

-- a line of the report: the number of the script's line, a space and the words (this project's own)
abbrev pub numbered : ℕ → List ℕ → List ℕ
numbered number words = decimal number ++ (codes " " ++ words ++ codes "\n")

-- the words of an answer to a line that is no command (this project's own)
abbrev pub event_words : Event → List ℕ
event_words events.Pressed = codes "pressed"
event_words events.NotPressed = codes "not pressed"
event_words (events.Ready capacity) = codes "ready " ++ decimal capacity
event_words events.NotFormatted = codes "not formatted"
event_words events.Cut = codes "cut"
event_words events.Failed = codes "failed"
event_words events.NoSuchBlock = codes "no such block"
event_words events.Armed = codes "armed"
event_words events.Full = codes "full"
event_words events.Idle = codes "idle"
event_words (events.Written lba) = codes "written " ++ decimal lba
event_words (events.NoSpare lba) = codes "check 3/32/00 info " ++ decimal lba
event_words events.NoUpdate = codes "check 3/32/01"
event_words events.Off = codes "off"
event_words (events.Readable lba) = codes "readable " ++ decimal lba
event_words (events.Unreadable lba) = codes "unreadable " ++ decimal lba
event_words (events.Found count) = codes "found " ++ decimal count

-- the line of a block that cannot be read, by its first sector (this project's own)
abbrev pub lost_line : (block : ℕ) → List ℕ
lost_line block = codes "lost " ++ decimal (16 * block) ++ codes "\n"

-- the lines of the first n of these blocks (this project's own)
abbrev pub lost_text : (blocks : List ℕ) → (count : ℕ) → List ℕ
lost_text blocks count = flat_map (λ k. lost_line (slice_index blocks k)) (range_with_len 0 count)

-- the lines behind an answer that tells how many blocks a scrub found: these blocks (this project's own)
abbrev pub found_text : Event → (found : List ℕ) → List ℕ
found_text (events.Found count) found = lost_text found (length found)
found_text event found = []

-- the lines of an answer to a line that is no command (this project's own)
abbrev pub event_text : ℕ → Event → (found : List ℕ) → List ℕ
event_text number event found = numbered number (event_words event) ++ found_text event found

-- K/AA/QQ: the sense key, which is its low four bits, as one hexadecimal digit, and the code and its qualifier as two
-- each, in lower case (this project's own, of the numbers of INCITS MMC)
abbrev pub sense_code : Sense → List ℕ
sense_code sense =
    slice_index lower_digits (sense.key % 16) ∷ [] ++ codes "/" ++ encode_lower (sense.asc ∷ [])
    ++ codes "/" ++ encode_lower (sense.ascq ∷ [])

-- the information of sense data, where there is some (this project's own)
abbrev pub info_words : Option ℕ → List ℕ
info_words None = []
info_words (Some info) = codes " info " ++ decimal info

-- The words of an answer to a command. The last two answers stop the run, and are not printed. (This project's own.)
abbrev pub answer_words : Answer → List ℕ
answer_words answers.Good = codes "good"
answer_words (answers.Check sense) = codes "check " ++ sense_code sense ++ info_words sense.info
answer_words answers.Cut = codes "cut"
answer_words answers.Off = codes "off"
answer_words answers.Fault = []

-- the answer does not stop the run (this project's own)
abbrev pub IsPrinted : Answer → Type 0
IsPrinted answers.Good = Unit {0}
IsPrinted (answers.Check sense) = Unit {0}
IsPrinted answers.Cut = Unit {0}
IsPrinted answers.Off = Unit {0}
IsPrinted answers.Fault = ⊥

-- whether the command reads sectors (this project's own)
abbrev pub is_read : Option Operation → Bool
is_read (Some Read10) = true
is_read (Some Read12) = true
is_read _ = false

-- the command block of a read that was done has the bytes of its address (this project's own)
abbrev pub IsAddressed : Answer → List ℕ → Type 0
IsAddressed answers.Good cdb = is_read (operation_of cdb) ≡ true → 6 ≤ length cdb
IsAddressed _ cdb = Unit {0}

-- whether each byte is as the first one (this project's own)
abbrev pub is_one_byte : List ℕ → Bool
is_one_byte bytes = list_all (λ byte. byte == slice_index bytes 0) bytes

-- the line of a sector that was read: its one byte where all are equal, else all its bytes (this project's own)
abbrev pub sector_text : ℕ → List ℕ → List ℕ
sector_text lba sector =
    if is_one_byte sector
    then codes "sector " ++ decimal lba ++ codes " fill " ++ encode_lower (slice_index sector 0 ∷ []) ++ codes "\n"
    else codes "sector " ++ decimal lba ++ codes " hex " ++ encode_lower sector ++ codes "\n"

-- sector k of these bytes (this project's own)
abbrev pub sector_at : List ℕ → ℕ → List ℕ
sector_at bytes k = take 2048 (drop (2048 * k) bytes)

-- the lines of the first sectors of these bytes, the first of which is sector `lba` (this project's own)
abbrev pub sectors_text : ℕ → List ℕ → ℕ → List ℕ
sectors_text lba bytes count = flat_map (λ k. sector_text (lba + k) (sector_at bytes k)) (range_with_len 0 count)

-- the line of a reply of another command, where there is one (this project's own)
abbrev pub data_text : List ℕ → List ℕ
data_text bytes =
    if length bytes == 0 then []
    else codes "data " ++ decimal (length bytes) ++ (codes " " ++ encode_lower bytes ++ codes "\n")

-- The lines behind the answer to a command: the sectors that were read, whose first stands in bytes 2 to 5 of the
-- command block, or another reply. (This project's own.)
abbrev pub reply_text : Answer → List ℕ → List ℕ → List ℕ
reply_text answers.Good cdb reply =
    if is_read (operation_of cdb) then sectors_text (field 2 4 cdb) reply (length reply / 2048) else data_text reply
reply_text _ cdb reply = []

-- the lines of an answer to a command (this project's own)
abbrev pub answer_text : ℕ → Answer → List ℕ → List ℕ → List ℕ
answer_text number answer cdb reply = numbered number (answer_words answer) ++ reply_text answer cdb reply

-- the last line of a report (this project's own)
abbrev pub last_text : LastLine → List ℕ
last_text (lasts.End answered) = codes "end " ++ decimal answered ++ codes "\n"
last_text (lasts.NotInLanguage line) = numbered line (codes "not in the script language")
last_text (lasts.LineTooLong line) = numbered line (codes "too long")
last_text lasts.ScriptTooLong = codes "script too long\n"
last_text (lasts.NotADisc line) = numbered line (codes "not a disc")

-- a sense whose parts are in their ranges (this project's own)
pub record SenseFits (sense : Sense) : Type 0 where
  pub key : sense.key < 16
  pub asc : sense.asc < 256
  pub ascq : sense.ascq < 256
  pub info : IfSome sense.info (λ info. info < 2 ^ 32)

-- an answer that is printed, and whose sense is in range (this project's own)
abbrev pub HasWords : Answer → Type 0
HasWords answers.Good = Unit {0}
HasWords (answers.Check sense) = SenseFits sense
HasWords answers.Cut = Unit {0}
HasWords answers.Off = Unit {0}
HasWords answers.Fault = ⊥
