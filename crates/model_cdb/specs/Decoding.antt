-- What a command block asks for, with its data, or why it is refused. For decoding command blocks, and for saying
-- what a command does.
use Rattle.std.specs.Prelude.{◌≡◌, ℕ, ◌*◌, ◌<◌, ◌≤◌, Bool, true, false, ◌&&◌, ◌||◌, not, nat_lt, ◌==◌, if◌then◌else◌, IsTrue, ⊤, Option, Some, None, Result, Ok, Err, List, [], ◌∷◌, length, slice_index}
use Rattle.std.specs.List.{find}
use Rattle.model_commands.specs.declared.TheConstants.{TRANSFER_LIMIT}
use Rattle.model_commands.specs.declared.Operation.{Operation}
use Rattle.model_commands.specs.declared.Operation.TheVariants as operations
use Rattle.model_commands.specs.Commands.{command, operation_of, length_for, field}
use Rattle.model_commands.specs.Fields.{flag, bits}
use Rattle.model_modes.specs.Pages.{is_page_code}
use Rattle.model_modes.specs.ParameterLists.{is_no_list_length}
use Rattle.model_drive.specs.declared.Kind.{Kind}
use Rattle.model_drive.specs.declared.Kind.TheVariants.{Full, Rewrite}
use Rattle.model_sense.specs.Sense.{sense}
use Rattle.model_sense.specs.declared.sense.Sense.{Sense}
use Rattle.model_cdb.specs.declared.commands.Command.{Command}
use Rattle.model_cdb.specs.declared.commands.Command.TheVariants as commands

-- A field of the command block, which is long enough, has a value that the drive does not take: more sectors than a command
-- moves; a format without a parameter list, with another code than 1, or with a bit above; INQUIRY with a page code, of vital
-- product data or not; VERIFY against the host's bytes; the fourth kind of feature request; events that are to be told once they
-- come; another kind of disc information; a list of mode pages in the old layout, or to be saved; the code of no page; another
-- structure than the two. (After INCITS MMC and SPC; which values are taken is this project's own.)
abbrev pub has_refused_field : Operation → List ℕ → Bool
has_refused_field operations.FormatUnit cdb =
    not (flag 1 4 cdb) || not (bits 1 0 3 cdb == 1) || not (bits 1 5 3 cdb == 0)
has_refused_field operations.Inquiry cdb = not (slice_index cdb 2 == 0)
has_refused_field operations.ModeSense6 cdb = not (is_page_code (bits 2 0 6 cdb))
has_refused_field operations.Read10 cdb = nat_lt TRANSFER_LIMIT (field 7 2 cdb)
has_refused_field operations.Write10 cdb = nat_lt TRANSFER_LIMIT (field 7 2 cdb)
has_refused_field operations.WriteAndVerify10 cdb = nat_lt TRANSFER_LIMIT (field 7 2 cdb)
has_refused_field operations.Verify10 cdb = flag 1 1 cdb
has_refused_field operations.GetConfiguration cdb = bits 1 0 2 cdb == 3
has_refused_field operations.GetEventStatusNotification cdb = not (flag 1 0 cdb)
has_refused_field operations.ReadDiscInformation cdb = not (bits 1 0 3 cdb == 0)
has_refused_field operations.ModeSelect10 cdb = not (flag 1 4 cdb) || flag 1 0 cdb
has_refused_field operations.ModeSense10 cdb = not (is_page_code (bits 2 0 6 cdb))
has_refused_field operations.Read12 cdb = nat_lt TRANSFER_LIMIT (field 6 4 cdb)
has_refused_field operations.Write12 cdb = nat_lt TRANSFER_LIMIT (field 6 4 cdb)
has_refused_field operations.ReadDvdStructure cdb = not (slice_index cdb 7 == 0x08) && not (slice_index cdb 7 == 0x0a)
has_refused_field _ cdb = false

-- the command block is too short, or a field has a value that is not taken (this project's own)
abbrev pub has_bad_field : Operation → (cdb : List ℕ) → Bool
has_bad_field operation cdb = nat_lt (length cdb) (command operation).bytes || has_refused_field operation cdb

-- the saved values of mode pages are asked for, and none are saved (after INCITS SPC)
abbrev pub asks_for_saved_values : Operation → List ℕ → Bool
asks_for_saved_values operations.ModeSense6 cdb = bits 2 6 2 cdb == 3
asks_for_saved_values operations.ModeSense10 cdb = bits 2 6 2 cdb == 3
asks_for_saved_values _ cdb = false

-- the data have another length than the command takes (after INCITS MMC and SPC)
abbrev pub has_wrong_length : Operation → (cdb : List ℕ) (given : ℕ) → Bool
has_wrong_length operations.ModeSelect10 cdb given =
    not (given == length_for (Some operations.ModeSelect10) cdb) || is_no_list_length given
has_wrong_length operation cdb given = not (given == length_for (Some operation) cdb)

-- The type of a format, in the upper six bits of byte 8 of its parameter list: 0 formats the disc, 1 expands its spares.
-- (After INCITS MMC.)
abbrev pub format_type : List ℕ → ℕ
format_type payload = bits 8 2 6 payload

-- The parameter list of FORMAT UNIT does not have one descriptor of 8 bytes, or its type is another. A list of
-- mode pages is looked at where the pages are. (After INCITS MMC.)
abbrev pub has_refused_parameters : Operation → List ℕ → Bool
has_refused_parameters operations.FormatUnit payload = not (field 2 2 payload == 8) || nat_lt 1 (format_type payload)
has_refused_parameters _ payload = false

-- the data of a command whose parameter list has one length have that length
abbrev pub HasItsList : Operation → (given : ℕ) → Type 0
HasItsList operations.FormatUnit given = given ≡ 12
HasItsList _ given = ⊤

-- a reason to refuse a command, where it applies
pub record Refusal : Type 0 where
  pub applies : Bool
  pub why : Sense

-- the reason that applies where this holds, with this sense (this project's own)
abbrev pub refusal : Bool → Sense → Refusal
refusal applies why = record { applies = applies; why = why }

-- The reasons to refuse a command of the table, in their order: 5/24/00 for the command block, 5/39/00, 5/1A/00 for the
-- length of the data, 5/26/00 for a parameter list. (After INCITS MMC and SPC; the order is this project's own.)
abbrev pub refusals : Operation → (cdb payload : List ℕ) → List Refusal
refusals operation cdb payload =
    refusal (has_bad_field operation cdb) (sense 0x5 0x24 0x00)
    ∷ refusal (asks_for_saved_values operation cdb) (sense 0x5 0x39 0x00)
    ∷ refusal (has_wrong_length operation cdb (length payload)) (sense 0x5 0x1a 0x00)
    ∷ refusal (has_refused_parameters operation payload) (sense 0x5 0x26 0x00)
    ∷ []

-- What a format is to do: FOV and DCRT in byte 1 of its list ask for one that certifies nothing, and CmpLst in the command
-- block for one that forgets the secondary list. (After INCITS MMC; the meaning of DCRT and CmpLst is this project's own.)
abbrev pub format_kind : (cdb payload : List ℕ) → Kind
format_kind cdb payload = if flag 1 7 payload && flag 1 5 payload then Rewrite else Full (flag 1 3 cdb)

-- What a command asks for that is not refused: the table of the fields that are looked at. No other byte or bit is. With a
-- power condition, in the upper four bits of byte 4, START STOP UNIT neither loads nor takes out. (After INCITS MMC and SPC.)
abbrev pub meaning : Operation → (cdb payload : List ℕ) → Command
meaning operations.TestUnitReady cdb payload = commands.TestUnitReady
meaning operations.RequestSense cdb payload = commands.RequestSense (slice_index cdb 4)
meaning operations.FormatUnit cdb payload =
    if format_type payload == 1 then commands.Expand (field 4 4 payload) else commands.Format (format_kind cdb payload)
meaning operations.Inquiry cdb payload = commands.Inquiry (flag 1 0 cdb) (field 3 2 cdb)
meaning operations.ModeSense6 cdb payload =
    commands.ModeSense true (bits 2 6 2 cdb) (bits 2 0 6 cdb) (slice_index cdb 4)
meaning operations.StartStopUnit cdb payload =
    commands.StartStop (flag 4 0 cdb) (flag 4 1 cdb && bits 4 4 4 cdb == 0)
meaning operations.PreventAllowMediumRemoval cdb payload = commands.Prevent (flag 4 0 cdb)
meaning operations.ReadFormatCapacities cdb payload = commands.FormatCapacities (field 7 2 cdb)
meaning operations.ReadCapacity10 cdb payload = commands.ReadCapacity
meaning operations.Read10 cdb payload = commands.Read (field 2 4 cdb) (field 7 2 cdb)
meaning operations.Write10 cdb payload = commands.Write (field 2 4 cdb) (field 7 2 cdb) (flag 1 3 cdb)
meaning operations.WriteAndVerify10 cdb payload = commands.Write (field 2 4 cdb) (field 7 2 cdb) true
meaning operations.Verify10 cdb payload = commands.Verify (field 2 4 cdb) (field 7 2 cdb)
meaning operations.SynchronizeCache cdb payload = commands.Synchronize
meaning operations.GetConfiguration cdb payload =
    commands.Configuration (bits 1 0 2 cdb) (field 2 2 cdb) (field 7 2 cdb)
meaning operations.GetEventStatusNotification cdb payload = commands.Events (flag 4 4 cdb) (field 7 2 cdb)
meaning operations.ReadDiscInformation cdb payload = commands.DiscInformation (field 7 2 cdb)
meaning operations.ModeSelect10 cdb payload = commands.ModeSelect
meaning operations.ModeSense10 cdb payload =
    commands.ModeSense false (bits 2 6 2 cdb) (bits 2 0 6 cdb) (field 7 2 cdb)
meaning operations.Read12 cdb payload = commands.Read (field 2 4 cdb) (field 6 4 cdb)
meaning operations.Write12 cdb payload = commands.Write (field 2 4 cdb) (field 6 4 cdb) (flag 1 3 cdb)
meaning operations.ReadDvdStructure cdb payload = commands.Structure (slice_index cdb 7) (field 8 2 cdb)
meaning operations.SetStreaming cdb payload = commands.Streaming

-- a command, unless there is a reason to refuse it
abbrev pub unless : Option Refusal → Command → Result Command Sense
unless (Some refused) asked = Err refused.why
unless None asked = Ok asked

-- What a command of the table asks for, or the first reason that applies to refuse it.
abbrev pub decoded_as : Operation → (cdb payload : List ℕ) → Result Command Sense
decoded_as operation cdb payload =
    unless (find (λ r. r.applies) (refusals operation cdb payload)) (meaning operation cdb payload)

-- the same where the table may have none with this code, which is 5/20/00 before all else (after INCITS MMC)
abbrev pub decoded_by : Option Operation → (cdb payload : List ℕ) → Result Command Sense
decoded_by None cdb payload = Err (sense 0x5 0x20 0x00)
decoded_by (Some operation) cdb payload = decoded_as operation cdb payload

-- What a command block asks for, with these data, or why it is refused. (After INCITS MMC and SPC.)
abbrev pub decoded : (cdb payload : List ℕ) → Result Command Sense
decoded cdb payload = decoded_by (operation_of cdb) cdb payload

-- What holds of a command that is not refused: it moves no more sectors than a command may, those that it writes are its
-- data, and mode pages and features are asked for as the drive has them. (This project's own.)
abbrev pub IsWithinLimits : (payload : List ℕ) → Command → Type 0
IsWithinLimits payload (commands.Read lba n) = n ≤ TRANSFER_LIMIT
IsWithinLimits payload (commands.Write lba n fua) = (n ≤ TRANSFER_LIMIT) × (length payload ≡ 2048 * n)
IsWithinLimits payload (commands.Verify lba n) = n ≤ 65535
IsWithinLimits payload (commands.Configuration rt start alloc) = rt < 3
IsWithinLimits payload (commands.ModeSense short control page alloc) = (control < 3) × IsTrue (is_page_code page)
IsWithinLimits payload _ = ⊤
