-- A command that is not refused is within the limits: by cases on its operation.
use Rattle.std.proofs.Common.{rules, arith, ◌≡◌, ℕ, ◌+◌, ◌*◌, ◌<◌, ◌≤◌, Bool, true, false, not, ◌==◌, nat_lt, nat_le, if◌then◌else◌, List, length, drop, slice_index}
use Rattle.std.proofs.lemmas.List.{get_or-drop}
use Rattle.std.proofs.lemmas.Bool.{ltb-false, le-ltb, eqb-false, eqb-true, not-false}
use Rattle.byteorder.specs.Numbers.{big_from-lt}
use Rattle.model_commands.specs.declared.TheConstants.{TRANSFER_LIMIT}
use Rattle.model_commands.specs.declared.Operation.{Operation}
use Rattle.model_commands.specs.declared.Operation.TheVariants as operations
use Rattle.model_commands.specs.Commands.{command, field}
use Rattle.model_commands.specs.Fields.{bits}
use Rattle.model_modes.specs.Pages.{is_page_code}
use Rattle.model_drive.specs.declared.Kind.{Kind}
use Rattle.model_cdb.specs.declared.commands.Command.TheVariants as commands
use Rattle.model_cdb.specs.Decoding.{format_type, format_kind, has_refused_field, asks_for_saved_values, has_wrong_length, meaning, IsWithinLimits}

-- a command block that is long enough
pub not_short : (long found bytes : ℕ) → found ≡ bytes → found ≤ long → nat_lt long bytes ≡ false
not_short long found bytes is fits = le-ltb long bytes (omega (arith, is, fits))

-- what a write takes as its data
pub whole : (given n : ℕ) (long few : Bool) → long ≡ false → few ≡ true
    → not (given == (if long then 0 else if few then n * 2048 else 0)) ≡ false → given ≡ 2048 * n
whole given n true few enough fits same = search rules
whole given n false false enough fits same = search rules
whole given n false true enough fits same =
    let is = eqb-true given (n * 2048) (not-false (given == n * 2048) same) in omega (arith, is)

-- what is written, by the tests that failed
written : (given long bytes n : ℕ) → nat_lt long bytes ≡ false → nat_lt TRANSFER_LIMIT n ≡ false
    → not (given == (if nat_lt long bytes then 0 else if nat_le n TRANSFER_LIMIT then n * 2048 else 0)) ≡ false
    → (n ≤ TRANSFER_LIMIT) × (given ≡ 2048 * n)
written given long bytes n enough most same =
    let fits = ltb-false TRANSFER_LIMIT n most in
    (fits, whole given n (nat_lt long bytes) (nat_le n TRANSFER_LIMIT) enough (search (rules, fits)) same)

two_bytes : (cdb : List ℕ) (at : ℕ) → ((i : ℕ) → slice_index cdb i < 256) → field at 2 cdb ≤ 65535
two_bytes cdb at small =
    let fits = big_from-lt 0 2 (drop at cdb) (λ k. rw get_or-drop (small (at + k))) in omega (arith, fits)

-- two bits that are not both set
below_three : (n : ℕ) → (n == 3) ≡ false → n < 4 → n < 3
below_three n other small = let differs = eqb-false n 3 other in grind (arith, differs, small)

format_fits : (payload : List ℕ) (expands : Bool) (capacity : ℕ) (kind : Kind)
    → IsWithinLimits payload (if expands then commands.Expand capacity else commands.Format kind)
format_fits payload true capacity kind = search rules
format_fits payload false capacity kind = search rules

pub within_limits : (operation : Operation) (cdb payload : List ℕ) → ((i : ℕ) → slice_index cdb i < 256)
    → nat_lt (length cdb) (command operation).bytes ≡ false
    → has_refused_field operation cdb ≡ false → asks_for_saved_values operation cdb ≡ false
    → has_wrong_length operation cdb (length payload) ≡ false
    → IsWithinLimits payload (meaning operation cdb payload)
within_limits operations.TestUnitReady cdb payload small long taken saved given = search rules
within_limits operations.RequestSense cdb payload small long taken saved given = search rules
within_limits operations.FormatUnit cdb payload small long taken saved given =
    format_fits payload (format_type payload == 1) (field 4 4 payload) (format_kind cdb payload)
within_limits operations.Inquiry cdb payload small long taken saved given = search rules
within_limits operations.ModeSense6 cdb payload small long taken saved given =
    (below_three (bits 2 6 2 cdb) saved (omega arith), rw (not-false (is_page_code (bits 2 0 6 cdb)) taken) (search rules))
within_limits operations.StartStopUnit cdb payload small long taken saved given = search rules
within_limits operations.PreventAllowMediumRemoval cdb payload small long taken saved given = search rules
within_limits operations.ReadFormatCapacities cdb payload small long taken saved given = search rules
within_limits operations.ReadCapacity10 cdb payload small long taken saved given = search rules
within_limits operations.Read10 cdb payload small long taken saved given = ltb-false TRANSFER_LIMIT (field 7 2 cdb) taken
within_limits operations.Write10 cdb payload small long taken saved given =
    written (length payload) (length cdb) 10 (field 7 2 cdb) long taken given
within_limits operations.WriteAndVerify10 cdb payload small long taken saved given =
    written (length payload) (length cdb) 10 (field 7 2 cdb) long taken given
within_limits operations.Verify10 cdb payload small long taken saved given = two_bytes cdb 7 small
within_limits operations.SynchronizeCache cdb payload small long taken saved given = search rules
within_limits operations.GetConfiguration cdb payload small long taken saved given =
    below_three (bits 1 0 2 cdb) taken (omega arith)
within_limits operations.GetEventStatusNotification cdb payload small long taken saved given = search rules
within_limits operations.ReadDiscInformation cdb payload small long taken saved given = search rules
within_limits operations.ModeSelect10 cdb payload small long taken saved given = search rules
within_limits operations.ModeSense10 cdb payload small long taken saved given =
    (below_three (bits 2 6 2 cdb) saved (omega arith), rw (not-false (is_page_code (bits 2 0 6 cdb)) taken) (search rules))
within_limits operations.Read12 cdb payload small long taken saved given = ltb-false TRANSFER_LIMIT (field 6 4 cdb) taken
within_limits operations.Write12 cdb payload small long taken saved given =
    written (length payload) (length cdb) 12 (field 6 4 cdb) long taken given
within_limits operations.ReadDvdStructure cdb payload small long taken saved given = search rules
within_limits operations.SetStreaming cdb payload small long taken saved given = search rules
