-- A command counts a fault where it answers Fault, and with no other answer.
use Rattle.std.specs.Prelude.{◌≡◌, ℕ, ◌==◌, if◌then◌else◌, Bool, true, false, ◌&&◌, not, Result, Ok, Err, List, []}
use Rattle.std.specs.Bool.{MatchBool}
use Rattle.std.proofs.Common.{refl, sym, ◌∙◌, inl, inr, ap, subst}
use Rattle.model_sectors.specs.declared.ReadOut.{ReadOut}
use Rattle.model_sectors.specs.declared.ReadOut.TheVariants as reads
use Rattle.model_drive.specs.declared.WriteOut.{WriteOut}
use Rattle.model_drive.specs.declared.WriteOut.TheVariants as writes
use Rattle.model_drive.specs.declared.FormatOut.{FormatOut}
use Rattle.model_drive.specs.declared.FormatOut.TheVariants as formats
use Rattle.model_drive.specs.declared.ExpandOut.{ExpandOut}
use Rattle.model_drive.specs.declared.ExpandOut.TheVariants as expands
use Rattle.model_drive.specs.Shown.{Shown}
use Rattle.model_drive.specs.Faults.{faults, ReadFaults, ExpandFaults, FormatFaults}
use Rattle.model_drive.proofs.Faults.{read_faults, verify_faults, write_faults, expand_faults, format_faults}
use Rattle.model_drive.specs.Reads.{ReadCause}
use Rattle.model_drive.specs.Writes.{WriteCause}
use Rattle.model_counts.specs.Counts.{Rose}
use Rattle.model_cache.specs.declared.SyncOut.{SyncOut}
use Rattle.model_cache.specs.declared.SyncOut.TheVariants as syncs
use Rattle.model_cache.specs.Values.{Contents}
use Rattle.model_cache.specs.Shown.{CacheShown}
use Rattle.model_cache.proofs.Chained.{read_faulted, write_faulted, sync_faulted, HoldsOfChains, of_read, of_write, of_through, of_sync}
use Rattle.model_sense.specs.declared.sense.Sense.{Sense}
use Rattle.model_sense.specs.declared.answer.Answer.{Answer}
use Rattle.model_sense.specs.declared.answer.Answer.TheVariants as answers
use Rattle.model_cdb.specs.declared.commands.Command.{Command}
use Rattle.model_cdb.specs.declared.commands.Command.TheVariants as commands
use Rattle.model_modes.specs.ParameterLists.{caches_after}
use Rattle.model_target.specs.declared.host.Host.{Host}
use Rattle.model_target.specs.Host.{is_good}
use Rattle.model_target.specs.Steps.{read_answer, write_answer, format_answer, expand_answer, sync_answer, settle_answer, WrittenCause, IsSettled, TurnsOff, SetsCache, IsAnswered, TellsStructure, TellsSpares, IsDone, IsAnsweredBy, IsStep, AnswerFaults}

-- a fault is counted where what the medium lies on failed, and none elsewhere
abbrev pub CountsFaults : Bool → Shown → Shown → Type 0
CountsFaults true old new = Rose (faults old) (faults new)
CountsFaults false old new = faults new ≡ faults old

joined : (faulted : Bool) (a b c : Shown) → CountsFaults false a b → CountsFaults faulted b c → CountsFaults faulted a c
joined true a b c is rose = subst (λ (n : ℕ). Rose n (faults c)) is rose
joined false a b c is later = later ∙ is

by_read : (a b : Shown) (lba n : ℕ) (out : ReadOut) → ReadCause a b lba n out → CountsFaults (read_faulted out) a b
by_read a b lba n reads.Good cause = read_faults a b lba n reads.Good cause
by_read a b lba n reads.NotFormatted cause = read_faults a b lba n reads.NotFormatted cause
by_read a b lba n (reads.Range known) cause = read_faults a b lba n (reads.Range known) cause
by_read a b lba n (reads.Unread named block) cause = read_faults a b lba n (reads.Unread named block) cause
by_read a b lba n reads.Cut cause = read_faults a b lba n reads.Cut cause
by_read a b lba n reads.Off cause = read_faults a b lba n reads.Off cause
by_read a b lba n reads.Fault cause = read_faults a b lba n reads.Fault cause

by_write : (a b : Shown) (lba n : ℕ) (out : WriteOut) → WriteCause a b lba n out → CountsFaults (write_faulted out) a b
by_write a b lba n writes.Good cause = write_faults a b lba n writes.Good cause
by_write a b lba n writes.NotFormatted cause = write_faults a b lba n writes.NotFormatted cause
by_write a b lba n (writes.Range known) cause = write_faults a b lba n (writes.Range known) cause
by_write a b lba n (writes.Unread named block) cause = write_faults a b lba n (writes.Unread named block) cause
by_write a b lba n (writes.NoSpare named) cause = write_faults a b lba n (writes.NoSpare named) cause
by_write a b lba n (writes.NoUpdate counter) cause = write_faults a b lba n (writes.NoUpdate counter) cause
by_write a b lba n writes.Cut cause = write_faults a b lba n writes.Cut cause
by_write a b lba n writes.Off cause = write_faults a b lba n writes.Off cause
by_write a b lba n writes.Fault cause = write_faults a b lba n writes.Fault cause

pub counts_faults : HoldsOfChains CountsFaults
counts_faults = record {
  none = λ s. refl;
  join = joined;
  read = λ a b lba n out leaves cause. by_read a b lba n out cause;
  write = λ a b lba n out leaves cause. by_write a b lba n out cause;
}

module _ (old new : Shown) where
  read_counted : (out : ReadOut) → CountsFaults (read_faulted out) old new → AnswerFaults old new (read_answer out)
  read_counted reads.Good p = p
  read_counted reads.NotFormatted p = p
  read_counted (reads.Range known) p = p
  read_counted (reads.Unread lba block) p = p
  read_counted reads.Cut p = p
  read_counted reads.Off p = p
  read_counted reads.Fault p = p

  write_counted : (out : WriteOut) → CountsFaults (write_faulted out) old new → AnswerFaults old new (write_answer out)
  write_counted writes.Good p = p
  write_counted writes.NotFormatted p = p
  write_counted (writes.Range known) p = p
  write_counted (writes.Unread lba block) p = p
  write_counted (writes.NoSpare lba) p = p
  write_counted (writes.NoUpdate counter) p = p
  write_counted writes.Cut p = p
  write_counted writes.Off p = p
  write_counted writes.Fault p = p

  sync_counted : (out : SyncOut) → CountsFaults (sync_faulted out) old new → AnswerFaults old new (sync_answer out)
  sync_counted syncs.Good p = p
  sync_counted syncs.NotFormatted p = p
  sync_counted (syncs.NoSpare lba) p = p
  sync_counted (syncs.NoUpdate counter) p = p
  sync_counted syncs.Cut p = p
  sync_counted syncs.Off p = p
  sync_counted syncs.Fault p = p

  settle_counted : (out : SyncOut) → CountsFaults (sync_faulted out) old new → AnswerFaults old new (settle_answer out)
  settle_counted syncs.Good p = p
  settle_counted syncs.NotFormatted p = p
  settle_counted (syncs.NoSpare lba) p = p
  settle_counted (syncs.NoUpdate counter) p = p
  settle_counted syncs.Cut p = p
  settle_counted syncs.Off p = p
  settle_counted syncs.Fault p = p

  verify_counted : (out : ReadOut) → ReadFaults old new out → AnswerFaults old new (read_answer out)
  verify_counted reads.Good p = p
  verify_counted reads.NotFormatted p = p
  verify_counted (reads.Range known) p = p
  verify_counted (reads.Unread lba block) p = p
  verify_counted reads.Cut p = p
  verify_counted reads.Off p = p
  verify_counted reads.Fault p = p

  by_format : (out : FormatOut) → FormatFaults old new out → AnswerFaults old new (format_answer out)
  by_format formats.Good p = p
  by_format (formats.TooMany found) p = p
  by_format (formats.NoUpdate counter) p = p
  by_format formats.Cut p = p
  by_format formats.Off p = p
  by_format formats.Fault p = p

  by_expand : (out : ExpandOut) → ExpandFaults old new out → AnswerFaults old new (expand_answer out)
  by_expand expands.Good p = p
  by_expand expands.NotFormatted p = p
  by_expand (expands.Refused known) p = p
  by_expand (expands.NoUpdate counter) p = p
  by_expand expands.Cut p = p
  by_expand expands.Off p = p
  by_expand expands.Fault p = p

  told : (answer due : Answer) → answer ≡ due → AnswerFaults old new due → AnswerFaults old new answer
  told answer due is p = subst (λ (a : Answer). AnswerFaults old new a) (sym is) p

module _ (old new : CacheShown) (before after : Contents → Type 0) where
  quietly : (answer : Answer) (data_in reply : List ℕ) → IsAnswered old new before after answer answers.Good data_in reply → AnswerFaults old.drive new.drive answer
  quietly answer data_in reply p = told old.drive new.drive answer answers.Good p.answer_is (ap (λ (s : CacheShown). faults s.drive) p.untouched.same)

  structure_counted : (text : Bool) (alloc : ℕ) (answer : Answer) (data_in : List ℕ)
      → MatchBool text (TellsStructure old new before after alloc answer data_in) (TellsSpares old new before after alloc answer data_in) → AnswerFaults old.drive new.drive answer
  structure_counted true alloc answer data_in p = quietly answer data_in _ p.is_answered
  structure_counted false alloc answer data_in p = quietly answer data_in _ p

  written_counted : (lba n : ℕ) (payload : List ℕ) (fua : Bool) (out : WriteOut) → WrittenCause old new lba n payload fua out → CountsFaults (write_faulted out) old.drive new.drive
  written_counted lba n payload true out cause = of_through CountsFaults counts_faults lba n old new out cause
  written_counted lba n payload false out cause = of_write CountsFaults counts_faults lba n payload old new out cause

  start_counted : (ejected : Bool) (answer : Answer) (data_in : List ℕ) → MatchBool ejected (IsSettled old new before after answer data_in) (IsAnswered old new before after answer answers.Good data_in [])
      → AnswerFaults old.drive new.drive answer
  start_counted true answer data_in p = told old.drive new.drive answer _ p.answer_is (settle_counted old.drive new.drive p.out (of_sync CountsFaults counts_faults old new p.out p.cause))
  start_counted false answer data_in p = quietly answer data_in _ p

  same_drive : (good : Bool) (mid : CacheShown) → new ≡ (if good then record mid { caches = false } else mid) → mid.drive ≡ new.drive
  same_drive true mid is = sym (ap (λ (s : CacheShown). s.drive) is)
  same_drive false mid is = sym (ap (λ (s : CacheShown). s.drive) is)

  select_counted : (off : Bool) (payload : List ℕ) (answer : Answer) (data_in : List ℕ) → MatchBool off (TurnsOff old new before after answer data_in) (SetsCache old new before after payload answer data_in)
      → AnswerFaults old.drive new.drive answer
  select_counted true payload answer data_in p =
      told old.drive new.drive answer _ p.answer_is (settle_counted old.drive new.drive p.out
      (subst (λ (d : Shown). CountsFaults (sync_faulted p.out) old.drive d) (same_drive (is_good answer) p.mid p.new_is) (of_sync CountsFaults counts_faults old p.mid p.out p.cause)))
  select_counted false payload answer data_in p = told old.drive new.drive answer answers.Good p.answer_is (ap (λ (s : CacheShown). faults s.drive) p.mode)

  done_counted : (host : Host) (payload : List ℕ) (command : Command) (answer : Answer) (data_in : List ℕ) → IsDone old new before after host payload command answer data_in → AnswerFaults old.drive new.drive answer
  done_counted host payload commands.TestUnitReady answer data_in p = quietly answer data_in _ p
  done_counted host payload (commands.RequestSense alloc) answer data_in p = quietly answer data_in _ p
  done_counted host payload (commands.Format kind) answer data_in p = told old.drive new.drive answer _ p.answer_is (by_format old.drive new.drive p.out (format_faults old.drive new.drive kind p.out p.cause.0))
  done_counted host payload (commands.Expand sectors) answer data_in p = told old.drive new.drive answer _ p.answer_is (by_expand old.drive new.drive p.out (expand_faults old.drive new.drive sectors p.out p.cause.0))
  done_counted host payload (commands.Inquiry vital alloc) answer data_in p = quietly answer data_in _ p
  done_counted host payload (commands.StartStop start eject) answer data_in p = start_counted (eject && not start) answer data_in p
  done_counted host payload (commands.Prevent on) answer data_in p = quietly answer data_in _ p
  done_counted host payload (commands.FormatCapacities alloc) answer data_in p = quietly answer data_in _ p
  done_counted host payload commands.ReadCapacity answer data_in p = quietly answer data_in _ p
  done_counted host payload (commands.Read lba n) answer data_in p = told old.drive new.drive answer _ p.answer_is (read_counted old.drive new.drive p.out (of_read CountsFaults counts_faults lba n old new p.out p.cause))
  done_counted host payload (commands.Write lba n fua) answer data_in p = told old.drive new.drive answer _ p.answer_is (write_counted old.drive new.drive p.out (written_counted lba n payload fua p.out p.cause))
  done_counted host payload (commands.Verify lba n) answer data_in p = told old.drive new.drive answer _ p.answer_is (verify_counted old.drive new.drive p.out (verify_faults old.drive new.drive lba n p.out p.cause.0))
  done_counted host payload commands.Synchronize answer data_in p = told old.drive new.drive answer _ p.answer_is (sync_counted old.drive new.drive p.out (of_sync CountsFaults counts_faults old new p.out p.cause))
  done_counted host payload (commands.Configuration rt start alloc) answer data_in p = quietly answer data_in _ p
  done_counted host payload (commands.Events media alloc) answer data_in p = quietly answer data_in _ p
  done_counted host payload (commands.DiscInformation alloc) answer data_in p = quietly answer data_in _ p
  done_counted host payload commands.ModeSelect answer data_in p = select_counted (old.caches && not (caches_after payload old.caches)) payload answer data_in p
  done_counted host payload (commands.ModeSense short control page alloc) answer data_in p = quietly answer data_in _ p
  done_counted host payload (commands.Structure format alloc) answer data_in p = structure_counted (format == 0x08) alloc answer data_in p
  done_counted host payload commands.Streaming answer data_in p = quietly answer data_in _ p

  by_counted : (host : Host) (payload : List ℕ) (judged : Result Command Sense) (answer : Answer) (data_in : List ℕ) → IsAnsweredBy old new before after host payload judged answer data_in → AnswerFaults old.drive new.drive answer
  by_counted host payload (Err why) answer data_in p = told old.drive new.drive answer (answers.Check why) p.answer_is (ap (λ (s : CacheShown). faults s.drive) p.untouched.same)
  by_counted host payload (Ok command) answer data_in p = done_counted host payload command answer data_in p

  pub step_counted : (host later : Host) (cdb payload : List ℕ) (answer : Answer) (data_in : List ℕ) → IsStep old new before after host later cdb payload answer data_in → AnswerFaults old.drive new.drive answer
  step_counted host later cdb payload answer data_in (inl off) = told old.drive new.drive answer answers.Off off.1.is_answered.answer_is (ap (λ (s : CacheShown). faults s.drive) off.1.is_answered.untouched.same)
  step_counted host later cdb payload answer data_in (inr on) = by_counted host payload on.1.judged answer data_in on.1.is_answered
