-- A command that is checked has a sense that is known, and what holds of each of these holds of its sense.
use Rattle.std.specs.Prelude.{◌≡◌, ℕ, ◌==◌, ◌||◌, ◌&&◌, not, nat_lt, Bool, true, false, is_some, length, Option, Some, None, Result, Ok, Err, List, [], ◌∷◌}
use Rattle.std.specs.Bool.{MatchBool}
use Rattle.std.specs.List.{find}
use Rattle.std.proofs.Common.{refl, sym, ap, inl, inr, subst, arith}
use Rattle.model_sectors.specs.declared.ReadOut.{ReadOut}
use Rattle.model_sectors.specs.declared.ReadOut.TheVariants as reads
use Rattle.model_commands.specs.declared.Operation.{Operation}
use Rattle.model_commands.specs.Commands.{command, operation_of}
use Rattle.model_drive.specs.declared.WriteOut.{WriteOut}
use Rattle.model_drive.specs.declared.WriteOut.TheVariants as writes
use Rattle.model_drive.specs.declared.FormatOut.{FormatOut}
use Rattle.model_drive.specs.declared.FormatOut.TheVariants as formats
use Rattle.model_drive.specs.declared.ExpandOut.{ExpandOut}
use Rattle.model_drive.specs.declared.ExpandOut.TheVariants as expands
use Rattle.model_drive.specs.Shown.{Shown}
use Rattle.model_cache.specs.declared.SyncOut.{SyncOut}
use Rattle.model_cache.specs.declared.SyncOut.TheVariants as syncs
use Rattle.model_cache.specs.Values.{Contents}
use Rattle.model_cache.specs.Shown.{CacheShown}
use Rattle.model_cache.specs.Causes.{SyncCause}
use Rattle.model_cache.proofs.Lacking.{LacksOne, through_lacks, write_lacks, sync_lacks}
use Rattle.model_sense.specs.Sense.{sense, sense_at}
use Rattle.model_sense.specs.declared.sense.Sense.{Sense}
use Rattle.model_sense.specs.declared.answer.Answer.TheVariants as answers
use Rattle.model_cdb.specs.declared.commands.Command.{Command}
use Rattle.model_cdb.specs.declared.commands.Command.TheVariants as commands
use Rattle.model_cdb.specs.Decoding.{refusal, unless, meaning, has_refused_field, asks_for_saved_values, has_wrong_length, has_refused_parameters}
use Rattle.model_modes.specs.ParameterLists.{caches_after}
use Rattle.model_target.specs.declared.host.Host.{Host}
use Rattle.model_target.specs.Host.{is_told}
use Rattle.model_target.specs.Judging.{asked_in, asked_by, asked, ejects, needs_disc, needs_format, hindrances, IsAllowed, IsJudgedBy, IsJudged}
use Rattle.model_target.specs.Senses.{IsKnownSense}
use Rattle.model_target.specs.Steps.{read_answer, write_answer, format_answer, expand_answer, sync_answer, settle_answer, WrittenCause, IsSettled, TurnsOff, SetsCache, IsAnswered, TellsStructure, TellsSpares, IsDone, IsAnsweredBy, IsStep}

-- This holds of each sense that a command may be checked with: of the one that no spare is left, where a write lacks one.
pub record HoldsOfSenses (new : Shown) (P : Sense → Type 0) : Type 0 where
  pub not_present : P (sense 0x2 0x3a 0x00)
  pub unread : (lba : ℕ) → P (sense_at 0x3 0x11 0x00 lba)
  pub unformatted : P (sense 0x3 0x31 0x00)
  pub format_failed : P (sense 0x3 0x31 0x01)
  pub no_spare : (named : ℕ) → LacksOne new named → P (sense_at 0x3 0x32 0x00 named)
  pub no_update : P (sense 0x3 0x32 0x01)
  pub wrong_length : P (sense 0x5 0x1a 0x00)
  pub unknown_code : P (sense 0x5 0x20 0x00)
  pub out_of_range : P (sense 0x5 0x21 0x00)
  pub bad_field : P (sense 0x5 0x24 0x00)
  pub bad_list : P (sense 0x5 0x26 0x00)
  pub no_saving : P (sense 0x5 0x39 0x00)
  pub prevented : P (sense 0x5 0x53 0x02)
  pub powered : P (sense 0x6 0x29 0x00)

module _ (P : Sense → Type 0) (old new : CacheShown) (all : HoldsOfSenses new.drive P) where
  -- ---- of an answer that is a check

  same_known : (a b : Sense) → a ≡ b → P a → P b
  same_known a b is known = subst P is known

  same_check : (why due : Sense) → answers.Check why ≡ answers.Check due → P due → P why
  same_check why due is known = same_known due why (let e : answers.Check why ≡ answers.Check due = is in cc) known

  read_check : (why : Sense) (out : ReadOut) → answers.Check why ≡ read_answer out → P why
  read_check why reads.Good is = absurd cc
  read_check why reads.NotFormatted is = same_check why _ is all.unformatted
  read_check why (reads.Range known) is = same_check why _ is all.out_of_range
  read_check why (reads.Unread lba block) is = same_check why _ is (all.unread lba)
  read_check why reads.Cut is = absurd cc
  read_check why reads.Off is = absurd cc
  read_check why reads.Fault is = absurd cc

  written_lacks : (lba n : ℕ) (payload : List ℕ) (fua : Bool) (named : ℕ) → WrittenCause old new lba n payload fua (writes.NoSpare named) → LacksOne new.drive named
  written_lacks lba n payload true named cause = through_lacks old new lba n named cause
  written_lacks lba n payload false named cause = write_lacks old new lba n named payload cause

  write_check : (lba n : ℕ) (payload : List ℕ) (fua : Bool) (why : Sense) (out : WriteOut) → answers.Check why ≡ write_answer out → WrittenCause old new lba n payload fua out → P why
  write_check lba n payload fua why writes.Good is cause = absurd cc
  write_check lba n payload fua why writes.NotFormatted is cause = same_check why _ is all.unformatted
  write_check lba n payload fua why (writes.Range known) is cause = same_check why _ is all.out_of_range
  write_check lba n payload fua why (writes.Unread named block) is cause = same_check why _ is (all.unread named)
  write_check lba n payload fua why (writes.NoSpare named) is cause = same_check why _ is (all.no_spare named (written_lacks lba n payload fua named cause))
  write_check lba n payload fua why (writes.NoUpdate counter) is cause = same_check why _ is all.no_update
  write_check lba n payload fua why writes.Cut is cause = absurd cc
  write_check lba n payload fua why writes.Off is cause = absurd cc
  write_check lba n payload fua why writes.Fault is cause = absurd cc

  sync_check : (why : Sense) (out : SyncOut) → answers.Check why ≡ sync_answer out → SyncCause old new out → P why
  sync_check why syncs.Good is cause = absurd cc
  sync_check why syncs.NotFormatted is cause = same_check why _ is all.unformatted
  sync_check why (syncs.NoSpare named) is cause = same_check why _ is (all.no_spare named (sync_lacks old new named cause))
  sync_check why (syncs.NoUpdate counter) is cause = same_check why _ is all.no_update
  sync_check why syncs.Cut is cause = absurd cc
  sync_check why syncs.Off is cause = absurd cc
  sync_check why syncs.Fault is cause = absurd cc

  settle_check : (mid : CacheShown) → mid.drive ≡ new.drive → (why : Sense) (out : SyncOut) → answers.Check why ≡ settle_answer out → SyncCause old mid out → P why
  settle_check mid same why syncs.Good is cause = absurd cc
  settle_check mid same why syncs.NotFormatted is cause = absurd cc
  settle_check mid same why (syncs.NoSpare named) is cause = same_check why _ is (all.no_spare named (subst (λ (d : Shown). LacksOne d named) same (sync_lacks old mid named cause)))
  settle_check mid same why (syncs.NoUpdate counter) is cause = same_check why _ is all.no_update
  settle_check mid same why syncs.Cut is cause = absurd cc
  settle_check mid same why syncs.Off is cause = absurd cc
  settle_check mid same why syncs.Fault is cause = absurd cc

  format_check : (why : Sense) (out : FormatOut) → answers.Check why ≡ format_answer out → P why
  format_check why formats.Good is = absurd cc
  format_check why (formats.TooMany found) is = same_check why _ is all.format_failed
  format_check why (formats.NoUpdate counter) is = same_check why _ is all.format_failed
  format_check why formats.Cut is = absurd cc
  format_check why formats.Off is = absurd cc
  format_check why formats.Fault is = absurd cc

  expand_check : (why : Sense) (out : ExpandOut) → answers.Check why ≡ expand_answer out → P why
  expand_check why expands.Good is = absurd cc
  expand_check why expands.NotFormatted is = same_check why _ is all.unformatted
  expand_check why (expands.Refused known) is = same_check why _ is all.bad_list
  expand_check why (expands.NoUpdate counter) is = same_check why _ is all.no_update
  expand_check why expands.Cut is = absurd cc
  expand_check why expands.Off is = absurd cc
  expand_check why expands.Fault is = absurd cc

  -- ---- of a command that is refused

  -- of some reasons one applies
  of_four : (a b c d : Bool) (wa wb wc wd why : Sense) (means : Command)
      → unless (find (λ r. r.applies) (refusal a wa ∷ refusal b wb ∷ refusal c wc ∷ refusal d wd ∷ [])) means ≡ Err why
      → P wa → P wb → P wc → P wd → P why
  of_four true b c d wa wb wc wd why means is ka kb kc kd = same_known wa why (let e : Err wa ≡ Err why = is in cc) ka
  of_four false true c d wa wb wc wd why means is ka kb kc kd = same_known wb why (let e : Err wb ≡ Err why = is in cc) kb
  of_four false false true d wa wb wc wd why means is ka kb kc kd = same_known wc why (let e : Err wc ≡ Err why = is in cc) kc
  of_four false false false true wa wb wc wd why means is ka kb kc kd = same_known wd why (let e : Err wd ≡ Err why = is in cc) kd
  of_four false false false false wa wb wc wd why means is ka kb kc kd = absurd cc

  of_three : (a b c : Bool) (wa wb wc why : Sense) (means : Command)
      → unless (find (λ r. r.applies) (refusal a wa ∷ refusal b wb ∷ refusal c wc ∷ [])) means ≡ Err why
      → P wa → P wb → P wc → P why
  of_three true b c wa wb wc why means is ka kb kc = same_known wa why (let e : Err wa ≡ Err why = is in cc) ka
  of_three false true c wa wb wc why means is ka kb kc = same_known wb why (let e : Err wb ≡ Err why = is in cc) kb
  of_three false false true wa wb wc why means is ka kb kc = same_known wc why (let e : Err wc ≡ Err why = is in cc) kc
  of_three false false false wa wb wc why means is ka kb kc = absurd cc

  asked_sensed : (told : Bool) (operation : Operation) (cdb payload : List ℕ) (why : Sense) → asked_in told operation cdb payload ≡ Err why → P why
  asked_sensed true operation cdb payload why is = same_known (sense 0x6 0x29 0x00) why (let e : Err (sense 0x6 0x29 0x00) ≡ Err why = is in cc) all.powered
  asked_sensed false operation cdb payload why is =
      of_four (nat_lt (length cdb) (command operation).bytes || has_refused_field operation cdb) (asks_for_saved_values operation cdb) (has_wrong_length operation cdb (length payload)) (has_refused_parameters operation payload)
      (sense 0x5 0x24 0x00) (sense 0x5 0x39 0x00) (sense 0x5 0x1a 0x00) (sense 0x5 0x26 0x00) why (meaning operation cdb payload) is all.bad_field all.no_saving all.wrong_length all.bad_list

  known_sensed : (host : Host) (operation : Option Operation) (cdb payload : List ℕ) (why : Sense) → asked_by host operation cdb payload ≡ Err why → P why
  known_sensed host None cdb payload why is = same_known (sense 0x5 0x20 0x00) why (let e : Err (sense 0x5 0x20 0x00) ≡ Err why = is in cc) all.unknown_code
  known_sensed host (Some operation) cdb payload why is = asked_sensed (is_told host operation) operation cdb payload why is

  module _ (host : Host) (formatted : Bool) (payload : List ℕ) (why : Sense) where
    hindered : (command : Command) → Err why ≡ unless (find (λ r. r.applies) (hindrances host formatted command)) command → P why
    hindered command is =
        of_three (host.prevented && ejects command) (host.out && needs_disc command) (needs_format command && not formatted)
        (sense 0x5 0x53 0x02) (sense 0x2 0x3a 0x00) (sense 0x3 0x31 0x00) why command (sym is) all.prevented all.not_present all.unformatted

    allowed_sensed : (command : Command) → IsAllowed host formatted payload command (Err why) → P why
    allowed_sensed commands.ModeSelect allowed = same_known (sense 0x5 0x26 0x00) why (sym allowed.0) all.bad_list
    allowed_sensed commands.TestUnitReady allowed = hindered commands.TestUnitReady allowed
    allowed_sensed (commands.RequestSense alloc) allowed = hindered (commands.RequestSense alloc) allowed
    allowed_sensed (commands.Format kind) allowed = hindered (commands.Format kind) allowed
    allowed_sensed (commands.Expand sectors) allowed = hindered (commands.Expand sectors) allowed
    allowed_sensed (commands.Inquiry vital alloc) allowed = hindered (commands.Inquiry vital alloc) allowed
    allowed_sensed (commands.StartStop start eject) allowed = hindered (commands.StartStop start eject) allowed
    allowed_sensed (commands.Prevent on) allowed = hindered (commands.Prevent on) allowed
    allowed_sensed (commands.FormatCapacities alloc) allowed = hindered (commands.FormatCapacities alloc) allowed
    allowed_sensed commands.ReadCapacity allowed = hindered commands.ReadCapacity allowed
    allowed_sensed (commands.Read lba n) allowed = hindered (commands.Read lba n) allowed
    allowed_sensed (commands.Write lba n fua) allowed = hindered (commands.Write lba n fua) allowed
    allowed_sensed (commands.Verify lba n) allowed = hindered (commands.Verify lba n) allowed
    allowed_sensed commands.Synchronize allowed = hindered commands.Synchronize allowed
    allowed_sensed (commands.Configuration rt start alloc) allowed = hindered (commands.Configuration rt start alloc) allowed
    allowed_sensed (commands.Events media alloc) allowed = hindered (commands.Events media alloc) allowed
    allowed_sensed (commands.DiscInformation alloc) allowed = hindered (commands.DiscInformation alloc) allowed
    allowed_sensed (commands.ModeSense short control page alloc) allowed = hindered (commands.ModeSense short control page alloc) allowed
    allowed_sensed (commands.Structure format alloc) allowed = hindered (commands.Structure format alloc) allowed
    allowed_sensed commands.Streaming allowed = hindered commands.Streaming allowed

    judged_sensed : (cdb : List ℕ) (wanted : Result Command Sense) → wanted ≡ asked host cdb payload → IsJudgedBy host formatted payload wanted (Err why) → P why
    judged_sensed cdb (Err first) wanted_is judged = known_sensed host (operation_of cdb) cdb payload why (let e : Err first ≡ asked host cdb payload = wanted_is in let f : Err why ≡ Err first = judged in cc)
    judged_sensed cdb (Ok command) wanted_is judged = allowed_sensed command judged

  -- ---- of a command

  module _ (before after : Contents → Type 0) (why : Sense) where
    not_good : (data_in reply : List ℕ) → IsAnswered old new before after (answers.Check why) answers.Good data_in reply → P why
    not_good data_in reply p = absurd (let e : answers.Check why ≡ answers.Good = p.answer_is in cc)

    not_told : (structure : Bool) (alloc : ℕ) (data_in : List ℕ)
        → MatchBool structure (TellsStructure old new before after alloc (answers.Check why) data_in) (TellsSpares old new before after alloc (answers.Check why) data_in) → P why
    not_told true alloc data_in p = not_good data_in _ p.is_answered
    not_told false alloc data_in p = not_good data_in _ p

    start_sensed : (ejected : Bool) (data_in : List ℕ)
        → MatchBool ejected (IsSettled old new before after (answers.Check why) data_in) (IsAnswered old new before after (answers.Check why) answers.Good data_in []) → P why
    start_sensed true data_in p = settle_check new refl why p.out p.answer_is p.cause
    start_sensed false data_in p = not_good data_in _ p

    select_sensed : (off : Bool) (payload data_in : List ℕ)
        → MatchBool off (TurnsOff old new before after (answers.Check why) data_in) (SetsCache old new before after payload (answers.Check why) data_in) → P why
    select_sensed true payload data_in p = settle_check p.mid (sym (ap (λ (s : CacheShown). s.drive) p.new_is)) why p.out p.answer_is p.cause
    select_sensed false payload data_in p = absurd (let e : answers.Check why ≡ answers.Good = p.answer_is in cc)

    done_sensed : (host : Host) (payload : List ℕ) (command : Command) (data_in : List ℕ) → IsDone old new before after host payload command (answers.Check why) data_in → P why
    done_sensed host payload commands.TestUnitReady data_in p = not_good data_in _ p
    done_sensed host payload (commands.RequestSense alloc) data_in p = not_good data_in _ p
    done_sensed host payload (commands.Format kind) data_in p = format_check why p.out p.answer_is
    done_sensed host payload (commands.Expand sectors) data_in p = expand_check why p.out p.answer_is
    done_sensed host payload (commands.Inquiry vital alloc) data_in p = not_good data_in _ p
    done_sensed host payload (commands.StartStop start eject) data_in p = start_sensed (eject && not start) data_in p
    done_sensed host payload (commands.Prevent on) data_in p = not_good data_in _ p
    done_sensed host payload (commands.FormatCapacities alloc) data_in p = not_good data_in _ p
    done_sensed host payload commands.ReadCapacity data_in p = not_good data_in _ p
    done_sensed host payload (commands.Read lba n) data_in p = read_check why p.out p.answer_is
    done_sensed host payload (commands.Write lba n fua) data_in p = write_check lba n payload fua why p.out p.answer_is p.cause
    done_sensed host payload (commands.Verify lba n) data_in p = read_check why p.out p.answer_is
    done_sensed host payload commands.Synchronize data_in p = sync_check why p.out p.answer_is p.cause
    done_sensed host payload (commands.Configuration rt start alloc) data_in p = not_good data_in _ p
    done_sensed host payload (commands.Events media alloc) data_in p = not_good data_in _ p
    done_sensed host payload (commands.DiscInformation alloc) data_in p = not_good data_in _ p
    done_sensed host payload commands.ModeSelect data_in p = select_sensed (old.caches && not (caches_after payload old.caches)) payload data_in p
    done_sensed host payload (commands.ModeSense short control page alloc) data_in p = not_good data_in _ p
    done_sensed host payload (commands.Structure format alloc) data_in p = not_told (format == 0x08) alloc data_in p
    done_sensed host payload commands.Streaming data_in p = not_good data_in _ p

    by_sensed : (host : Host) (cdb payload : List ℕ) (judged : Result Command Sense) (data_in : List ℕ) → IsJudged host (is_some old.drive.lists) cdb payload judged
        → IsAnsweredBy old new before after host payload judged (answers.Check why) data_in → P why
    by_sensed host cdb payload (Err first) data_in judged p = same_check why first p.answer_is (judged_sensed host (is_some old.drive.lists) payload first cdb (asked host cdb payload) refl judged)
    by_sensed host cdb payload (Ok command) data_in judged p = done_sensed host payload command data_in p

    pub step_sensed : (host later : Host) (cdb payload data_in : List ℕ) → IsStep old new before after host later cdb payload (answers.Check why) data_in → P why
    step_sensed host later cdb payload data_in (inl off) = absurd (let e : answers.Check why ≡ answers.Off = off.1.is_answered.answer_is in cc)
    step_sensed host later cdb payload data_in (inr on) = by_sensed host cdb payload on.1.judged data_in on.1.is_judged on.1.is_answered

-- it is one of those that are known
known : (new : Shown) → HoldsOfSenses new IsKnownSense
known new = record {
  not_present = (0, search arith, refl);
  unread = λ lba. (1, search arith, refl);
  unformatted = (2, search arith, refl);
  format_failed = (3, search arith, refl);
  no_spare = λ named lacks. (4, search arith, refl);
  no_update = (5, search arith, refl);
  wrong_length = (6, search arith, refl);
  unknown_code = (7, search arith, refl);
  out_of_range = (8, search arith, refl);
  bad_field = (9, search arith, refl);
  bad_list = (10, search arith, refl);
  no_saving = (11, search arith, refl);
  prevented = (12, search arith, refl);
  powered = (13, search arith, refl);
}

pub step_known : (old new : CacheShown) (before after : Contents → Type 0) (why : Sense) (host later : Host) (cdb payload data_in : List ℕ) → IsStep old new before after host later cdb payload (answers.Check why) data_in → IsKnownSense why
step_known old new = step_sensed IsKnownSense old new (known new.drive)

-- it says that no spare is left only where a write lacks one
without_sector : (key asc ascq named : ℕ) → sense key asc ascq ≡ sense_at 0x3 0x32 0x00 named → ⊥
without_sector key asc ascq named is = (let e : None ≡ Some named = ap (λ (why : Sense). why.info) is in cc)

lacking : (new : Shown) → HoldsOfSenses new (λ why. (named : ℕ) → why ≡ sense_at 0x3 0x32 0x00 named → LacksOne new named)
lacking new = record {
  not_present = λ named is. absurd (without_sector 0x2 0x3a 0x00 named is);
  unread = λ lba named is. absurd (let code : 0x11 ≡ 0x32 = ap (λ (why : Sense). why.asc) is in omega (arith, code));
  unformatted = λ named is. absurd (without_sector 0x3 0x31 0x00 named is);
  format_failed = λ named is. absurd (without_sector 0x3 0x31 0x01 named is);
  no_spare = λ found lacks named is. subst (LacksOne new) (same_named found named is) lacks;
  no_update = λ named is. absurd (without_sector 0x3 0x32 0x01 named is);
  wrong_length = λ named is. absurd (without_sector 0x5 0x1a 0x00 named is);
  unknown_code = λ named is. absurd (without_sector 0x5 0x20 0x00 named is);
  out_of_range = λ named is. absurd (without_sector 0x5 0x21 0x00 named is);
  bad_field = λ named is. absurd (without_sector 0x5 0x24 0x00 named is);
  bad_list = λ named is. absurd (without_sector 0x5 0x26 0x00 named is);
  no_saving = λ named is. absurd (without_sector 0x5 0x39 0x00 named is);
  prevented = λ named is. absurd (without_sector 0x5 0x53 0x02 named is);
  powered = λ named is. absurd (without_sector 0x6 0x29 0x00 named is);
}
  where
    same_named : (found named : ℕ) → sense_at 0x3 0x32 0x00 found ≡ sense_at 0x3 0x32 0x00 named → found ≡ named
    same_named found named is = (let e : Some found ≡ Some named = ap (λ (why : Sense). why.info) is in cc)

pub step_lacks : (old new : CacheShown) (before after : Contents → Type 0) (host later : Host) (cdb payload data_in : List ℕ) (named : ℕ) → IsStep old new before after host later cdb payload (answers.Check (sense_at 0x3 0x32 0x00 named)) data_in → LacksOne new.drive named
step_lacks old new before after host later cdb payload data_in named step =
    step_sensed (λ why. (at : ℕ) → why ≡ sense_at 0x3 0x32 0x00 at → LacksOne new.drive at) old new (lacking new.drive) before after (sense_at 0x3 0x32 0x00 named) host later cdb payload data_in step named refl
