-- What a command leaves a drive standing for, found in its step.
use Rattle.std.specs.Prelude.{◌≡◌, ℕ, ◌==◌, Bool, true, false, ◌&&◌, not, Result, Ok, Err, List, []}
use Rattle.std.specs.Bool.{MatchBool}
use Rattle.std.proofs.Common.{sym, inl, inr, subst}
use Rattle.model_drive.specs.declared.WriteOut.{WriteOut}
use Rattle.model_cache.specs.Values.{Contents}
use Rattle.model_cache.specs.Shown.{CacheShown}
use Rattle.model_cache.specs.Steps.{ReadContents, VerifyContents, FormatContents, ExpandContents, SyncContents}
use Rattle.model_cache.proofs.Found.{read_found, verify_found, write_found, through_found, expand_found, format_found, sync_found}
use Rattle.model_sense.specs.declared.sense.Sense.{Sense}
use Rattle.model_sense.specs.declared.answer.Answer.{Answer}
use Rattle.model_sense.specs.declared.answer.Answer.TheVariants as answers
use Rattle.model_cdb.specs.declared.commands.Command.{Command}
use Rattle.model_cdb.specs.declared.commands.Command.TheVariants as commands
use Rattle.model_modes.specs.ParameterLists.{caches_after}
use Rattle.model_target.specs.declared.host.Host.{Host}
use Rattle.model_target.specs.Steps.{WrittenContents, IsSettled, TurnsOff, SetsCache, IsAnswered, TellsStructure, TellsSpares, IsDone, IsAnsweredBy, IsStep}

module _ (old new : CacheShown) (before after : Contents → Type 0) (s : Contents) (stood : before s) where
  -- what the drive stands for afterwards
  abbrev FindsBy : ((Contents → Type 0) → (Contents → Type 0) → Type 0) → Type 0
  FindsBy Rule = (t : Contents) × after t × Rule (λ x. x ≡ s) (λ x. x ≡ t)

  answered_found : (answer due : Answer) (data_in reply : List ℕ) → IsAnswered old new before after answer due data_in reply
      → FindsBy (λ was is. IsAnswered old new was is answer due data_in reply)
  answered_found answer due data_in reply p = (
    s,
    p.untouched.stands s stood,
    record { answer_is = p.answer_is; data_is = p.data_is; untouched = record { same = p.untouched.same; stands = λ x e. e } },
  )

  structure_found : (text : Bool) (alloc : ℕ) (answer : Answer) (data_in : List ℕ)
      → MatchBool text (TellsStructure old new before after alloc answer data_in) (TellsSpares old new before after alloc answer data_in)
      → FindsBy (λ was is. MatchBool text (TellsStructure old new was is alloc answer data_in) (TellsSpares old new was is alloc answer data_in))
  structure_found true alloc answer data_in p =
      let found = answered_found answer _ data_in _ p.is_answered in
      (found.0, found.1, record { text = p.text; is_text = p.is_text; is_answered = found.2 })
  structure_found false alloc answer data_in p = answered_found answer _ data_in _ p

  written_found : (lba n : ℕ) (payload : List ℕ) (fua : Bool) (out : WriteOut) → WrittenContents old new lba n payload after s fua out
      → (t : Contents) × after t × WrittenContents old new lba n payload (λ x. x ≡ t) s fua out
  written_found lba n payload true out step = through_found after old new lba n payload s out step
  written_found lba n payload false out step = write_found after old new lba n payload s out step

  start_found : (ejected : Bool) (answer : Answer) (data_in : List ℕ) → MatchBool ejected (IsSettled old new before after answer data_in) (IsAnswered old new before after answer answers.Good data_in [])
      → FindsBy (λ was is. MatchBool ejected (IsSettled old new was is answer data_in) (IsAnswered old new was is answer answers.Good data_in []))
  start_found true answer data_in p =
      let found = sync_found after new s p.out (p.step s stood) in (
        found.0,
        found.1,
        record {
          out = p.out;
          cause = p.cause;
          step = λ x e. subst (λ y. SyncContents new (λ z. z ≡ found.0) y p.out) (sym e) found.2;
          answer_is = p.answer_is;
          no_data = p.no_data;
        },
      )
  start_found false answer data_in p = answered_found answer _ data_in _ p

  select_found : (off : Bool) (payload : List ℕ) (answer : Answer) (data_in : List ℕ) → MatchBool off (TurnsOff old new before after answer data_in) (SetsCache old new before after payload answer data_in)
      → FindsBy (λ was is. MatchBool off (TurnsOff old new was is answer data_in) (SetsCache old new was is payload answer data_in))
  select_found true payload answer data_in p =
      let found = sync_found after p.mid s p.out (p.step s stood) in (
        found.0,
        found.1,
        record {
          mid = p.mid;
          out = p.out;
          cause = p.cause;
          step = λ x e. subst (λ y. SyncContents p.mid (λ z. z ≡ found.0) y p.out) (sym e) found.2;
          new_is = p.new_is;
          answer_is = p.answer_is;
          no_data = p.no_data;
        },
      )
  select_found false payload answer data_in p = (s, p.stands s stood, record { mode = p.mode; stands = λ x e. e; answer_is = p.answer_is; no_data = p.no_data })

  done_found : (host : Host) (payload : List ℕ) (command : Command) (answer : Answer) (data_in : List ℕ) → IsDone old new before after host payload command answer data_in
      → FindsBy (λ was is. IsDone old new was is host payload command answer data_in)
  done_found host payload commands.TestUnitReady answer data_in p = answered_found answer _ data_in _ p
  done_found host payload (commands.RequestSense alloc) answer data_in p = answered_found answer _ data_in _ p
  done_found host payload (commands.Format kind) answer data_in p =
      let found = format_found after old.drive new.drive s kind p.out (p.step s stood) in (
        found.0,
        found.1,
        record {
          out = p.out;
          cause = p.cause;
          step = λ x e. subst (λ y. FormatContents old.drive new.drive (λ z. z ≡ found.0) y kind p.out) (sym e) found.2;
          answer_is = p.answer_is;
          no_data = p.no_data;
        },
      )
  done_found host payload (commands.Expand sectors) answer data_in p =
      let found = expand_found after s sectors p.out (p.step s stood) in (
        found.0,
        found.1,
        record {
          out = p.out;
          cause = p.cause;
          step = λ x e. subst (λ y. ExpandContents (λ z. z ≡ found.0) y sectors p.out) (sym e) found.2;
          answer_is = p.answer_is;
          no_data = p.no_data;
        },
      )
  done_found host payload (commands.Inquiry vital alloc) answer data_in p = answered_found answer _ data_in _ p
  done_found host payload (commands.StartStop start eject) answer data_in p = start_found (eject && not start) answer data_in p
  done_found host payload (commands.Prevent on) answer data_in p = answered_found answer _ data_in _ p
  done_found host payload (commands.FormatCapacities alloc) answer data_in p = answered_found answer _ data_in _ p
  done_found host payload commands.ReadCapacity answer data_in p = answered_found answer _ data_in _ p
  done_found host payload (commands.Read lba n) answer data_in p =
      let found = read_found after s lba n p.bytes p.out (p.step s stood) in (
        found.0,
        found.1,
        record {
          out = p.out;
          bytes = p.bytes;
          cause = p.cause;
          step = λ x e. subst (λ y. ReadContents (λ z. z ≡ found.0) y lba n p.bytes p.out) (sym e) found.2;
          answer_is = p.answer_is;
          data_is = p.data_is;
        },
      )
  done_found host payload (commands.Write lba n fua) answer data_in p =
      let found = written_found lba n payload fua p.out (p.step s stood) in (
        found.0,
        found.1,
        record {
          out = p.out;
          cause = p.cause;
          step = λ x e. subst (λ y. WrittenContents old new lba n payload (λ z. z ≡ found.0) y fua p.out) (sym e) found.2;
          answer_is = p.answer_is;
          no_data = p.no_data;
        },
      )
  done_found host payload (commands.Verify lba n) answer data_in p =
      let found = verify_found after s p.out (p.step s stood) in (
        found.0,
        found.1,
        record {
          out = p.out;
          cause = p.cause;
          step = λ x e. subst (λ y. VerifyContents (λ z. z ≡ found.0) y p.out) (sym e) found.2;
          answer_is = p.answer_is;
          no_data = p.no_data;
        },
      )
  done_found host payload commands.Synchronize answer data_in p =
      let found = sync_found after new s p.out (p.step s stood) in (
        found.0,
        found.1,
        record {
          out = p.out;
          cause = p.cause;
          step = λ x e. subst (λ y. SyncContents new (λ z. z ≡ found.0) y p.out) (sym e) found.2;
          answer_is = p.answer_is;
          no_data = p.no_data;
        },
      )
  done_found host payload (commands.Configuration rt start alloc) answer data_in p = answered_found answer _ data_in _ p
  done_found host payload (commands.Events media alloc) answer data_in p = answered_found answer _ data_in _ p
  done_found host payload (commands.DiscInformation alloc) answer data_in p = answered_found answer _ data_in _ p
  done_found host payload commands.ModeSelect answer data_in p = select_found (old.caches && not (caches_after payload old.caches)) payload answer data_in p
  done_found host payload (commands.ModeSense short control page alloc) answer data_in p = answered_found answer _ data_in _ p
  done_found host payload (commands.Structure format alloc) answer data_in p = structure_found (format == 0x08) alloc answer data_in p
  done_found host payload commands.Streaming answer data_in p = answered_found answer _ data_in _ p

  by_found : (host : Host) (payload : List ℕ) (judged : Result Command Sense) (answer : Answer) (data_in : List ℕ) → IsAnsweredBy old new before after host payload judged answer data_in
      → FindsBy (λ was is. IsAnsweredBy old new was is host payload judged answer data_in)
  by_found host payload (Err why) answer data_in p = answered_found answer (answers.Check why) data_in _ p
  by_found host payload (Ok command) answer data_in p = done_found host payload command answer data_in p

  pub step_found : (host later : Host) (cdb payload : List ℕ) (answer : Answer) (data_in : List ℕ) → IsStep old new before after host later cdb payload answer data_in
      → FindsBy (λ was is. IsStep old new was is host later cdb payload answer data_in)
  step_found host later cdb payload answer data_in (inl off) =
      let found = answered_found answer answers.Off data_in _ off.1.is_answered in
      (found.0, found.1, inl (off.0, record { is_answered = found.2; later_is = off.1.later_is }))
  step_found host later cdb payload answer data_in (inr on) =
      let found = by_found host payload on.1.judged answer data_in on.1.is_answered in
      (found.0, found.1, inr (on.0, record { judged = on.1.judged; is_judged = on.1.is_judged; is_answered = found.2; later_is = on.1.later_is }))
