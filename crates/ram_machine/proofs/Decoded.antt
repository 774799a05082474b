-- What a command that is to be done is: what its block asks for, with as many data as it writes.
use Rattle.std.specs.Prelude.{◌≡◌, ℕ, ◌*◌, Bool, true, false, ◌||◌, not, ◌==◌, nat_lt, nat_le, if◌then◌else◌, Option, Some, None, Result, Ok, Err, List, [], ◌∷◌, length}
use Rattle.std.specs.List.{find}
use Rattle.std.proofs.Common.{rules, refl, sym, ap, ◌∙◌, subst}
use Rattle.std.proofs.lemmas.Bool.{ltb-false}
use Rattle.model_commands.specs.declared.TheConstants.{TRANSFER_LIMIT}
use Rattle.model_commands.specs.declared.Operation.{Operation}
use Rattle.model_commands.specs.declared.Operation.TheVariants as operations
use Rattle.model_commands.specs.Commands.{command, operation_of, field}
use Rattle.model_drive.specs.declared.Kind.{Kind}
use Rattle.model_sense.specs.Sense.{sense}
use Rattle.model_sense.specs.declared.sense.Sense.{Sense}
use Rattle.model_cdb.specs.declared.commands.Command.{Command}
use Rattle.model_cdb.specs.declared.commands.Command.TheVariants as commands
use Rattle.ram_cdb.proofs.Limits.{whole}
use Rattle.model_cdb.specs.Decoding.{refusal, unless, format_type, format_kind, has_refused_field, asks_for_saved_values, has_wrong_length, has_refused_parameters, meaning, decoded_by, decoded}
use Rattle.model_target.specs.declared.host.Host.{Host}
use Rattle.model_target.specs.Host.{is_told}
use Rattle.model_target.specs.Judging.{asked_in, asked_by, asked, IsJudgedBy, IsJudged}
use Rattle.ram_mmc.proofs.Judged.{allowed_holds}

-- what is asked for was decoded
told_asks : (told : Bool) (operation : Operation) (cdb payload : List ℕ) (done : Command) → asked_in told operation cdb payload ≡ Ok done → decoded_by (Some operation) cdb payload ≡ Ok done
told_asks true operation cdb payload done is = absurd cc
told_asks false operation cdb payload done is = is

known_asks : (host : Host) (operation : Option Operation) (cdb payload : List ℕ) (done : Command) → asked_by host operation cdb payload ≡ Ok done → decoded_by operation cdb payload ≡ Ok done
known_asks host None cdb payload done is = absurd cc
known_asks host (Some operation) cdb payload done is = told_asks (is_told host operation) operation cdb payload done is

judged_asks : (host : Host) (formatted : Bool) (cdb payload : List ℕ) (wanted : Result Command Sense) (done : Command) → wanted ≡ asked host cdb payload
    → IsJudgedBy host formatted payload wanted (Ok done) → decoded cdb payload ≡ Ok done
judged_asks host formatted cdb payload (Err why) done wanted_is judged = absurd (let e : Ok done ≡ Err why = judged in cc)
judged_asks host formatted cdb payload (Ok wanted) done wanted_is judged =
    known_asks host (operation_of cdb) cdb payload done
    (sym wanted_is ∙ ap Ok (allowed_holds host formatted payload (λ (c : Command). wanted ≡ c) wanted (Ok done) judged refl))

-- a command that is to be done is what its block asks for
pub asks_for : (host : Host) (formatted : Bool) (cdb payload : List ℕ) (done : Command) → IsJudged host formatted cdb payload (Ok done) → decoded cdb payload ≡ Ok done
asks_for host formatted cdb payload done judged = judged_asks host formatted cdb payload (asked host cdb payload) done refl judged

-- two things that are decoded of one block are one
pub same_asked : (one other : Command) (result : Result Command Sense) → result ≡ Ok one → result ≡ Ok other → one ≡ other
same_asked one other result is also = let e : Ok one ≡ Ok other = sym is ∙ also in cc

-- as many data go with a write as it has sectors
abbrev pub HasItsData : (payload : List ℕ) → Command → Type 0
HasItsData payload (commands.Write lba n fua) = length payload ≡ 2048 * n
HasItsData payload _ = Unit {0}

-- what is written, by the tests that failed
written : (given long bytes n : ℕ) → nat_lt long bytes ≡ false → nat_lt TRANSFER_LIMIT n ≡ false → not (given == (if nat_lt long bytes then 0 else if nat_le n TRANSFER_LIMIT then n * 2048 else 0)) ≡ false
    → given ≡ 2048 * n
written given long bytes n enough most same =
    let fits = ltb-false TRANSFER_LIMIT n most in whole given n (nat_lt long bytes) (nat_le n TRANSFER_LIMIT) enough (search (rules, fits)) same

format_data : (payload : List ℕ) (expands : Bool) (capacity : ℕ) (kind : Kind) → HasItsData payload (if expands then commands.Expand capacity else commands.Format kind)
format_data payload true capacity kind = tt
format_data payload false capacity kind = tt

meant_data : (operation : Operation) (cdb payload : List ℕ) → nat_lt (length cdb) (command operation).bytes ≡ false → has_refused_field operation cdb ≡ false → has_wrong_length operation cdb (length payload) ≡ false
    → HasItsData payload (meaning operation cdb payload)
meant_data operations.FormatUnit cdb payload long taken given = format_data payload (format_type payload == 1) (field 4 4 payload) (format_kind cdb payload)
meant_data operations.Write10 cdb payload long taken given = written (length payload) (length cdb) 10 (field 7 2 cdb) long taken given
meant_data operations.WriteAndVerify10 cdb payload long taken given = written (length payload) (length cdb) 10 (field 7 2 cdb) long taken given
meant_data operations.Write12 cdb payload long taken given = written (length payload) (length cdb) 12 (field 6 4 cdb) long taken given
meant_data _ cdb payload long taken given = tt

-- where a command is not refused, none of the reasons applies
record Passes (short bad unfit : Bool) (means asked : Command) : Type 0 where
  long : short ≡ false
  taken : bad ≡ false
  given : unfit ≡ false
  means_is : means ≡ asked

passes : (short bad saved unfit list : Bool) (a b c d : Sense) (means asked : Command)
    → unless (find (λ r. r.applies) (refusal (short || bad) a ∷ refusal saved b ∷ refusal unfit c ∷ refusal list d ∷ [])) means ≡ Ok asked → Passes short bad unfit means asked
passes true bad saved unfit list a b c d means asked is = absurd cc
passes false true saved unfit list a b c d means asked is = absurd cc
passes false false true unfit list a b c d means asked is = absurd cc
passes false false false true list a b c d means asked is = absurd cc
passes false false false false true a b c d means asked is = absurd cc
passes false false false false false a b c d means asked is = record { long = refl; taken = refl; given = refl; means_is = cc }

known_data : (operation : Option Operation) (cdb payload : List ℕ) (done : Command) → decoded_by operation cdb payload ≡ Ok done → HasItsData payload done
known_data None cdb payload done is = absurd cc
known_data (Some operation) cdb payload done is =
    let p =
    passes (nat_lt (length cdb) (command operation).bytes) (has_refused_field operation cdb) (asks_for_saved_values operation cdb) (has_wrong_length operation cdb (length payload)) (has_refused_parameters operation payload)
    (sense 0x5 0x24 0x00) (sense 0x5 0x39 0x00) (sense 0x5 0x1a 0x00) (sense 0x5 0x26 0x00) (meaning operation cdb payload) done is in
    subst (HasItsData payload) p.means_is (meant_data operation cdb payload p.long p.taken p.given)

-- a command that is decoded has the data that it writes
pub its_data : (cdb payload : List ℕ) (done : Command) → decoded cdb payload ≡ Ok done → HasItsData payload done
its_data cdb payload done is = known_data (operation_of cdb) cdb payload done is
