-- While the write cache is never turned on, a drive with one is a drive without: each line of it is a line of that, and so is a run.
use Rattle.std.specs.Prelude.{not, ◌≡◌, ℕ, ◌==◌, ◌&&◌, ◌⊎◌, Bool, true, false, MatchBool, IsSome, is_some, Some, Result, Ok, Err, List, [], ◌∷◌, take}
use Rattle.std.specs.List.{find}
use Rattle.std.proofs.Common.{refl, sym, ap, ◌∙◌, inl, inr, subst}
use Rattle.std.proofs.lemmas.List.Elements.{All-head, All-tail}
use Rattle.model_geometry.specs.declared.kinds.LayoutKind.{LayoutKind}
use Rattle.model_geometry.specs.Geometry.{Shape, shape_in, total}
use Rattle.model_medium.specs.Cells.{Cell}
use Rattle.model_medium.specs.declared.Fate.{Fate}
use Rattle.model_image.specs.Cells.{cells_of}
use Rattle.model_image.specs.Image.{blank_cells, pressed_image}
use Rattle.model_modes.specs.Pages.{mode_data}
use Rattle.model_modes.specs.ParameterLists.{caches_after}
use Rattle.model_sectors.specs.Discs.{Standing, On, Off}
use Rattle.model_sectors.specs.declared.ReadOut.{ReadOut}
use Rattle.model_sectors.specs.declared.ReadOut.TheVariants as reads
use Rattle.model_sectors.specs.declared.PowerOut.{PowerOut}
use Rattle.model_sectors.specs.declared.PowerOut.TheVariants as powers
use Rattle.model_drive.specs.Shown.{Shown, StandsFor, IsOn, capacity}
use Rattle.model_drive.specs.declared.Kind.{Kind}
use Rattle.model_drive.specs.declared.WriteOut.{WriteOut}
use Rattle.model_drive.specs.declared.WriteOut.TheVariants as writes
use Rattle.model_cache.specs.declared.SyncOut.{SyncOut}
use Rattle.model_cache.specs.declared.SyncOut.TheVariants as syncs
use Rattle.model_cache.specs.declared.TickOut.{TickOut}
use Rattle.model_cache.specs.declared.TickOut.TheVariants as ticks
use Rattle.model_cache.specs.Values.{Contents, StandsCached, plain}
use Rattle.model_cache.specs.Shown.{CacheShown, CacheStandsFor}
use Rattle.model_cache.specs.Causes.{leaves_after_read, ThroughCause, SyncCause, TickCause}
use Rattle.model_cache.specs.Steps.{ThroughContents, SyncContents, TickContents, PowerContents}
use Rattle.model_cache.specs.Plain.{uncached}
use Rattle.model_cache.proofs.Plainly.{is_uncached, none_drained, plain_read_cause, plain_read_quiet, plain_read_step, plain_verify_cause, plain_verify_step, plain_write_cause, plain_write_step, plain_format_cause, plain_format_step, plain_expand_cause, plain_expand_step, plain_power_cause, plain_power_step}
use Rattle.model_cache.proofs.SameBlocks.{stands_for_it}
use Rattle.model_scrub.specs.declared.ends.StepEnd.{StepEnd}
use Rattle.model_scrub.specs.declared.ends.StepEnd.TheVariants as steps
use Rattle.model_scrub.specs.declared.ends.PassEnd.{PassEnd}
use Rattle.model_scrub.specs.declared.ends.PassEnd.TheVariants as passes
use Rattle.model_scrub.specs.Scrubs.{Scrubber}
use Rattle.model_scrub.specs.Asks.{StepRule, StepContents, PassRule, PassContents}
use Rattle.model_scrub.proofs.Chained.{HoldsOfVerifications, of_step, of_pass}
use Rattle.model_sense.specs.Sense.{sense}
use Rattle.model_sense.specs.declared.sense.Sense.{Sense}
use Rattle.model_sense.specs.declared.answer.Answer.{Answer}
use Rattle.model_sense.specs.declared.answer.Answer.TheVariants as answers
use Rattle.model_cdb.specs.declared.commands.Command.{Command}
use Rattle.model_cdb.specs.declared.commands.Command.TheVariants as commands
use Rattle.model_cdb.specs.Decoding.{refusal, unless, decoded}
use Rattle.model_target.specs.declared.host.Host.{Host}
use Rattle.model_target.specs.Judging.{asked, IsAllowed, IsJudgedBy, IsJudged}
use Rattle.model_target.specs.Replies.{sense_reply, inquiry_by, capacity_reply, events_reply, structure_reply}
use Rattle.model_target.specs.Steps.{write_answer, sync_answer, settle_answer, configuration_told, disc_told, capacities_told, spares_told, WrittenCause, WrittenContents, IsRead, IsFormatted, IsExpanded, IsVerified, IsSynchronised, IsSettled, IsSelected, IsAnswered, TellsStructure, TellsSpares, IsDone, IsAnsweredBy, IsStep as ExecutesTo}
use Rattle.ram_mmc.proofs.Judged.{allowed_holds}
use Rattle.ram_medium.specs.declared.control.FailEnd.{FailEnd}
use Rattle.ram_medium.specs.declared.control.FailEnd.TheVariants as fails
use Rattle.ram_report.specs.declared.printing.Event.TheVariants as events
use Rattle.ram_text.specs.declared.script.Line.{Line}
use Rattle.ram_text.specs.declared.script.Line.TheVariants as lines
use Rattle.ram_machine.specs.declared.reply.Reply.{Reply}
use Rattle.ram_machine.specs.declared.reply.Reply.TheVariants as replies
use Rattle.ram_machine.specs.declared.stopped.Stopped.TheVariants as stopped
use Rattle.ram_machine.specs.Control.{contents_after_fail}
use Rattle.ram_machine.specs.Replies.{Outcome, power_outcome, tick_outcome}
use Rattle.ram_machine.specs.States.{BareImage, State, Served, Unopened, Disc, renewed, kind_of, IsFirst, IsLeft, IsInserted, IsPressedDisc, IsHalfPressed, IsPressedUnopened}
use Rattle.ram_machine.specs.LineSteps.{KeepsRest, PowerLine, FailLine, WearLine, CutLine, TickLine, StepLine, PassLine, PressStep, DiscRule, DiscStep, OnDisc, ScrubberRule, LineBytes, Step}
use Rattle.ram_machine.specs.Runs.{IsStep, Run}
use Rattle.ram_machine.specs.Answered.{AnsweredStep}
use Rattle.ram_machine.specs.Alone.{StandsAlone, IsAlone, LeavesAloneAsDecoded, LeavesAlone, LeaveAlone}
use Rattle.ram_machine.specs.PlainCommands.{PlainAnswer, PlainRead, PlainWrite, PlainVerification, PlainFormat, PlainExpansion, PlainStructure, PlainSpares, PlainDone, PlainlyAnswered, PlainCommand}
use Rattle.ram_machine.specs.PlainRuns.{PlainServed, PlainState, PlainImage, PlainDisc, plainly_renewed, plain_kind, IsUnopenedPress, IsPlainlyLeft, IsPlainlyInserted, IsPlainlyFirst, IsServedPlainly, IsInPlainly, stands_after_fail, stands_after_step, stands_after_pass, PlainScrubStep, PlainScrubPass, KeepsPlainly, PlainPower, PlainFail, PlainWear, PlainCut, PlainTick, PlainRule, PlainDiscStep, OnPlainDisc, IsPlainlyPressed, IsUnopenedPlainly, IsHalfPlainly, PlainPress, PlainStep, PlainRun}
use Rattle.ram_machine.proofs.Decoded.{asks_for}

no_oldest : (block : ℕ) (rest : List ℕ) → [] ≡ block ∷ rest → ⊥
no_oldest block rest is = cc

-- on a disc that is not formatted a synchronisation is refused
refused_unformatted : (prevented out : Bool) (first second third : Sense) (done : Command)
    → Ok done ≡ unless (find (λ r. r.applies) (refusal (prevented && false) first ∷ refusal (out && true) second ∷ refusal (true && true) third ∷ [])) commands.Synchronize → ⊥
refused_unformatted true true first second third done is = cc
refused_unformatted true false first second third done is = cc
refused_unformatted false true first second third done is = cc
refused_unformatted false false first second third done is = cc

module _ (host : Host) (cdb payload : List ℕ) where
  allowed_formatted : (formatted : Bool) (done : Command) → IsAllowed host formatted payload commands.Synchronize (Ok done) → formatted ≡ true
  allowed_formatted true done allowed = refl
  allowed_formatted false done allowed = absurd (refused_unformatted host.prevented host.out (sense 0x5 0x53 0x02) (sense 0x2 0x3a 0x00) (sense 0x3 0x31 0x00) done allowed)

  judged_formatted : (formatted : Bool) (wanted : Result Command Sense) → IsJudgedBy host formatted payload wanted (Ok commands.Synchronize) → formatted ≡ true
  judged_formatted formatted (Err why) judged = absurd (let e : Ok commands.Synchronize ≡ Err why = judged in cc)
  judged_formatted formatted (Ok wanted) judged =
      let is = allowed_holds host formatted payload (λ (c : Command). wanted ≡ c) wanted (Ok commands.Synchronize) judged refl in
      allowed_formatted formatted commands.Synchronize (subst (λ (c : Command). IsAllowed host formatted payload c (Ok commands.Synchronize)) is judged)

-- verifications leave a cache that is off and empty
none_after_read : (out : ReadOut) → leaves_after_read out [] ≡ []
none_after_read reads.Good = refl
none_after_read reads.NotFormatted = refl
none_after_read (reads.Range known) = refl
none_after_read (reads.Unread named block) = refl
none_after_read reads.Cut = refl
none_after_read reads.Off = refl
none_after_read reads.Fault = refl

abbrev StaysUncached : Bool → CacheShown → CacheShown → Type 0
StaysUncached faulted a b = a ≡ uncached a.drive → b ≡ uncached b.drive

stays_uncached : HoldsOfVerifications StaysUncached
stays_uncached = record {
  none = λ s is. is;
  join = λ faulted a b c first then is. then (first is);
  verify = λ a b lba n out cause is. is_uncached b (cause.1 ∙ ap (λ (x : CacheShown). leaves_after_read out x.pending) is ∙ none_after_read out) (cause.2 ∙ ap (λ (x : CacheShown). x.caches) is);
}

-- What a line leaves of a drive whose cache is off and empty: it is off and empty still, and this is so of what the disc stands for.
record Leaves (new : CacheShown) (t : Contents) (says : Standing → Type 0) : Type 0 where
  uncached_is : new ≡ uncached new.drive
  standing : Standing
  contents_is : t ≡ plain standing
  so : says standing

module _ (drive : Shown) (new : CacheShown) (s : Standing) (t : Contents) where
  same_drive : new ≡ uncached drive → new.drive ≡ drive
  same_drive is = ap (λ (x : CacheShown). x.drive) is

  as_before : (says : Standing → Type 0) → new ≡ uncached drive → plain s ≡ t → says s → Leaves new t says
  as_before says is same so = record { uncached_is = is ∙ ap uncached (sym (same_drive is)); standing = s; contents_is = sym same; so = so }

  -- ---- of a command

  as_answered : (answer due : Answer) (data_in reply : List ℕ) → answer ≡ due → data_in ≡ reply → new ≡ uncached drive → plain s ≡ t
      → Leaves new t (λ u. PlainAnswer drive new.drive s u answer due data_in reply)
  as_answered answer due data_in reply answer_is data_is is same =
      as_before (λ u. PlainAnswer drive new.drive s u answer due data_in reply) is same
      (record { answer_is = answer_is; data_is = data_is; same = same_drive is; stands = refl })

  answered : (answer due : Answer) (data_in reply : List ℕ) → IsAnswered (uncached drive) new (λ x. x ≡ plain s) (λ x. x ≡ t) answer due data_in reply
      → Leaves new t (λ u. PlainAnswer drive new.drive s u answer due data_in reply)
  answered answer due data_in reply p = as_answered answer due data_in reply p.answer_is p.data_is p.untouched.same (p.untouched.stands (plain s) refl)

  by_standing : (out : SyncOut) (good : out ≡ syncs.Good) (u : Standing) → SyncContents new (λ x. x ≡ t) (plain u) out → plain u ≡ t
  by_standing out good u step = of_good u (subst (SyncContents new (λ x. x ≡ t) (plain u)) good step)
    where
      of_good : (u : Standing) → SyncContents new (λ x. x ≡ t) (plain u) syncs.Good → plain u ≡ t
      of_good (On disc) same = same
      of_good (Off discs) same = absurd same

  sync_good : IsOn drive → IsSome drive.lists → (out : SyncOut) → SyncCause (uncached drive) new out → (out ≡ syncs.Good) × (new ≡ uncached drive)
  sync_good on formatted syncs.Good cause = (refl, (none_drained (uncached drive) new writes.Good cause.drained).1)
  sync_good on formatted syncs.NotFormatted cause = absurd (cause.unformatted formatted)
  sync_good on formatted (syncs.NoSpare lba) cause = absurd (let e = (none_drained (uncached drive) new (writes.NoSpare lba) cause.drained).0 in cc)
  sync_good on formatted (syncs.NoUpdate counter) cause = absurd (let e = (none_drained (uncached drive) new (writes.NoUpdate counter) cause.drained).0 in cc)
  sync_good on formatted syncs.Cut cause = absurd (let e = (none_drained (uncached drive) new writes.Cut cause.drained).0 in cc)
  sync_good on formatted syncs.Off cause = absurd (cause.off on)
  sync_good on formatted syncs.Fault cause = absurd (let e = (none_drained (uncached drive) new writes.Fault cause.drained).0 in cc)

  -- before an ejection there is nothing to write
  settle_good : IsOn drive → (out : SyncOut) → SyncCause (uncached drive) new out → SyncContents new (λ x. x ≡ t) (plain s) out → (settle_answer out ≡ answers.Good) × (new ≡ uncached drive) × (plain s ≡ t)
  settle_good on syncs.Good cause step = (refl, (none_drained (uncached drive) new writes.Good cause.drained).1, by_standing syncs.Good refl s step)
  settle_good on syncs.NotFormatted cause step = (refl, cause.nothing, unformatted s step)
    where
      unformatted : (u : Standing) → SyncContents new (λ x. x ≡ t) (plain u) syncs.NotFormatted → plain u ≡ t
      unformatted (On disc) same = same.1
      unformatted (Off discs) same = absurd same
  settle_good on (syncs.NoSpare lba) cause step = absurd (let e = (none_drained (uncached drive) new (writes.NoSpare lba) cause.drained).0 in cc)
  settle_good on (syncs.NoUpdate counter) cause step = absurd (let e = (none_drained (uncached drive) new (writes.NoUpdate counter) cause.drained).0 in cc)
  settle_good on syncs.Cut cause step = absurd (let e = (none_drained (uncached drive) new writes.Cut cause.drained).0 in cc)
  settle_good on syncs.Off cause step = absurd (cause.off on)
  settle_good on syncs.Fault cause step = absurd (let e = (none_drained (uncached drive) new writes.Fault cause.drained).0 in cc)

  start_plainly : IsOn drive → (ejected : Bool) (answer : Answer) (data_in : List ℕ)
      → MatchBool ejected (IsSettled (uncached drive) new (λ x. x ≡ plain s) (λ x. x ≡ t) answer data_in) (IsAnswered (uncached drive) new (λ x. x ≡ plain s) (λ x. x ≡ t) answer answers.Good data_in [])
      → Leaves new t (λ u. PlainAnswer drive new.drive s u answer answers.Good data_in [])
  start_plainly on true answer data_in p =
      let good = settle_good on p.out p.cause (p.step (plain s) refl) in
      as_answered answer answers.Good data_in [] (p.answer_is ∙ good.0) p.no_data good.1 good.2
  start_plainly on false answer data_in p = answered answer answers.Good data_in [] p

  synchronised : IsOn drive → IsSome drive.lists → (answer : Answer) (data_in : List ℕ) → IsSynchronised (uncached drive) new (λ x. x ≡ plain s) (λ x. x ≡ t) answer data_in
      → Leaves new t (λ u. PlainAnswer drive new.drive s u answer answers.Good data_in [])
  synchronised on formatted answer data_in p =
      let good = sync_good on formatted p.out p.cause in
      as_answered answer answers.Good data_in [] (p.answer_is ∙ ap sync_answer good.0) p.no_data good.1 (by_standing p.out good.0 s (p.step (plain s) refl))

  read_plainly : (lba n : ℕ) (answer : Answer) (data_in : List ℕ) → IsRead (uncached drive) new (λ x. x ≡ plain s) (λ x. x ≡ t) lba n answer data_in
      → Leaves new t (λ u. PlainRead drive new.drive s u lba n answer data_in)
  read_plainly lba n answer data_in p =
      let cause = plain_read_cause drive new lba n p.out p.cause in
      let now = plain_read_step t s lba n p.bytes p.out (p.step (plain s) refl) in
      record {
        uncached_is = cause.1;
        standing = now.standing;
        contents_is = now.is;
        so = record {
          out = p.out;
          bytes = p.bytes;
          cause = cause.0;
          quiet = plain_read_quiet drive new lba n p.out p.cause;
          step = now.so;
          answer_is = p.answer_is;
          data_is = p.data_is;
        };
      }

  through_plainly : (lba n : ℕ) (payload : List ℕ) (out : WriteOut) (answer : Answer) (data_in : List ℕ) → answer ≡ write_answer out → data_in ≡ [] → ThroughCause (uncached drive) new lba n out
      → ThroughContents (uncached drive) new (λ x. x ≡ t) (plain s) lba n payload out → Leaves new t (λ u. PlainWrite drive new.drive s u lba n payload answer data_in)
  through_plainly lba n payload out answer data_in answer_is no_data cause step =
      let leaves = plain_write_cause drive new lba n payload out cause in
      let now = plain_write_step t drive new s lba n payload out leaves.1 step in
      record {
        uncached_is = leaves.1;
        standing = now.standing;
        contents_is = now.is;
        so = record { out = out; cause = leaves.0; step = now.so; answer_is = answer_is; no_data = no_data };
      }

  write_plainly : (lba n : ℕ) (payload : List ℕ) (fua : Bool) (out : WriteOut) (answer : Answer) (data_in : List ℕ) → answer ≡ write_answer out → data_in ≡ [] → WrittenCause (uncached drive) new lba n payload fua out
      → WrittenContents (uncached drive) new lba n payload (λ x. x ≡ t) (plain s) fua out → Leaves new t (λ u. PlainWrite drive new.drive s u lba n payload answer data_in)
  write_plainly lba n payload true out answer data_in answer_is no_data cause step = through_plainly lba n payload out answer data_in answer_is no_data cause step
  write_plainly lba n payload false out answer data_in answer_is no_data cause step = through_plainly lba n payload out answer data_in answer_is no_data cause step

  verify_plainly : (lba n : ℕ) (answer : Answer) (data_in : List ℕ) → IsVerified (uncached drive) new (λ x. x ≡ plain s) (λ x. x ≡ t) lba n answer data_in
      → Leaves new t (λ u. PlainVerification drive new.drive s u lba n answer data_in)
  verify_plainly lba n answer data_in p =
      let cause = plain_verify_cause drive new lba n p.out p.cause in
      let now = plain_verify_step t s p.out (p.step (plain s) refl) in
      record {
        uncached_is = cause.1;
        standing = now.standing;
        contents_is = now.is;
        so = record { out = p.out; cause = cause.0; step = now.so; answer_is = p.answer_is; no_data = p.no_data };
      }

  format_plainly : (kind : Kind) (answer : Answer) (data_in : List ℕ) → IsFormatted (uncached drive) new (λ x. x ≡ plain s) (λ x. x ≡ t) kind answer data_in
      → Leaves new t (λ u. PlainFormat drive new.drive s u kind answer data_in)
  format_plainly kind answer data_in p =
      let cause = plain_format_cause drive new kind p.out p.cause in
      let now = plain_format_step t drive new.drive s kind p.out (p.step (plain s) refl) in
      record {
        uncached_is = cause.1;
        standing = now.standing;
        contents_is = now.is;
        so = record { out = p.out; cause = cause.0; step = now.so; answer_is = p.answer_is; no_data = p.no_data };
      }

  expand_plainly : (sectors : ℕ) (answer : Answer) (data_in : List ℕ) → IsExpanded (uncached drive) new (λ x. x ≡ plain s) (λ x. x ≡ t) sectors answer data_in
      → Leaves new t (λ u. PlainExpansion drive new.drive s u sectors answer data_in)
  expand_plainly sectors answer data_in p =
      let cause = plain_expand_cause drive new sectors p.out p.cause in
      let now = plain_expand_step t s sectors p.out (p.step (plain s) refl) in
      record {
        uncached_is = cause.1;
        standing = now.standing;
        contents_is = now.is;
        so = record { out = p.out; cause = cause.0; step = now.so; answer_is = p.answer_is; no_data = p.no_data };
      }

  select_plainly : (payload : List ℕ) (answer : Answer) (data_in : List ℕ) → caches_after payload false ≡ false → IsSelected (uncached drive) new (λ x. x ≡ plain s) (λ x. x ≡ t) payload answer data_in
      → Leaves new t (λ u. PlainAnswer drive new.drive s u answer answers.Good data_in [])
  select_plainly payload answer data_in off p =
      as_answered answer answers.Good data_in [] p.answer_is p.no_data (p.mode ∙ ap (λ (b : Bool). record (uncached drive) { caches = b }) off) (p.stands (plain s) refl)

  told_plainly : (structure : Bool) (alloc : ℕ) (answer : Answer) (data_in : List ℕ)
      → MatchBool structure (TellsStructure (uncached drive) new (λ x. x ≡ plain s) (λ x. x ≡ t) alloc answer data_in) (TellsSpares (uncached drive) new (λ x. x ≡ plain s) (λ x. x ≡ t) alloc answer data_in)
      → Leaves new t (λ u. MatchBool structure (PlainStructure drive new.drive s u alloc answer data_in) (PlainSpares drive new.drive s u alloc answer data_in))
  told_plainly true alloc answer data_in p =
      let now = answered answer answers.Good data_in (take alloc (structure_reply p.text)) p.is_answered in
      record {
        uncached_is = now.uncached_is;
        standing = now.standing;
        contents_is = now.contents_is;
        so = record { text = p.text; is_text = p.is_text; is_answered = now.so };
      }
  told_plainly false alloc answer data_in p = answered answer answers.Good data_in (take alloc (spares_told drive)) p

  done_plainly : IsOn drive → (host : Host) (payload : List ℕ) (command : Command) (answer : Answer) (data_in : List ℕ) → (command ≡ commands.Synchronize → IsSome drive.lists)
      → LeavesAloneAsDecoded (Ok command) payload → IsDone (uncached drive) new (λ x. x ≡ plain s) (λ x. x ≡ t) host payload command answer data_in
      → Leaves new t (λ u. PlainDone drive new.drive s u host payload command answer data_in)
  done_plainly on host payload commands.TestUnitReady answer data_in formatted off p = answered answer answers.Good data_in [] p
  done_plainly on host payload (commands.RequestSense alloc) answer data_in formatted off p = answered answer answers.Good data_in (take alloc (sense_reply host)) p
  done_plainly on host payload (commands.Format kind) answer data_in formatted off p = format_plainly kind answer data_in p
  done_plainly on host payload (commands.Expand sectors) answer data_in formatted off p = expand_plainly sectors answer data_in p
  done_plainly on host payload (commands.Inquiry vital alloc) answer data_in formatted off p = answered answer answers.Good data_in (take alloc (inquiry_by vital)) p
  done_plainly on host payload (commands.StartStop start eject) answer data_in formatted off p = start_plainly on (eject && not start) answer data_in p
  done_plainly on host payload (commands.Prevent locks) answer data_in formatted off p = answered answer answers.Good data_in [] p
  done_plainly on host payload (commands.FormatCapacities alloc) answer data_in formatted off p = answered answer answers.Good data_in (take alloc (capacities_told host.out drive)) p
  done_plainly on host payload commands.ReadCapacity answer data_in formatted off p = answered answer answers.Good data_in (capacity_reply (capacity drive)) p
  done_plainly on host payload (commands.Read lba n) answer data_in formatted off p = read_plainly lba n answer data_in p
  done_plainly on host payload (commands.Write lba n fua) answer data_in formatted off p = write_plainly lba n payload fua p.out answer data_in p.answer_is p.no_data p.cause (p.step (plain s) refl)
  done_plainly on host payload (commands.Verify lba n) answer data_in formatted off p = verify_plainly lba n answer data_in p
  done_plainly on host payload commands.Synchronize answer data_in formatted off p = synchronised on (formatted refl) answer data_in p
  done_plainly on host payload (commands.Configuration rt start alloc) answer data_in formatted off p = answered answer answers.Good data_in (take alloc (configuration_told rt start host.out drive)) p
  done_plainly on host payload (commands.Events media alloc) answer data_in formatted off p = answered answer answers.Good data_in (take alloc (events_reply media host.out)) p
  done_plainly on host payload (commands.DiscInformation alloc) answer data_in formatted off p = answered answer answers.Good data_in (take alloc (disc_told drive)) p
  done_plainly on host payload commands.ModeSelect answer data_in formatted off p = select_plainly payload answer data_in off p
  done_plainly on host payload (commands.ModeSense short control page alloc) answer data_in formatted off p = answered answer answers.Good data_in (take alloc (mode_data short control false host.prevented page)) p
  done_plainly on host payload (commands.Structure format alloc) answer data_in formatted off p = told_plainly (format == 0x08) alloc answer data_in p
  done_plainly on host payload commands.Streaming answer data_in formatted off p = answered answer answers.Good data_in [] p

  by_plainly : IsOn drive → (host : Host) (cdb payload : List ℕ) (judged : Result Command Sense) (answer : Answer) (data_in : List ℕ) → IsJudged host (is_some drive.lists) cdb payload judged
      → LeavesAloneAsDecoded (decoded cdb payload) payload → IsAnsweredBy (uncached drive) new (λ x. x ≡ plain s) (λ x. x ≡ t) host payload judged answer data_in
      → Leaves new t (λ u. PlainlyAnswered drive new.drive s u host payload judged answer data_in)
  by_plainly on host cdb payload (Err why) answer data_in judged off p = answered answer (answers.Check why) data_in [] p
  by_plainly on host cdb payload (Ok command) answer data_in judged off p =
      done_plainly on host payload command answer data_in formatted
      (subst (λ (d : Result Command Sense). LeavesAloneAsDecoded d payload) (asks_for host (is_some drive.lists) cdb payload command judged) off) p
    where
      formatted : command ≡ commands.Synchronize → IsSome drive.lists
      formatted is = judged_formatted host cdb payload (is_some drive.lists) (asked host cdb payload)
          (subst (λ (c : Command). IsJudgedBy host (is_some drive.lists) payload (asked host cdb payload) (Ok c)) is judged)

  command_plainly : (host later : Host) (cdb payload : List ℕ) (answer : Answer) (data_in : List ℕ) → LeavesAloneAsDecoded (decoded cdb payload) payload
      → ExecutesTo (uncached drive) new (λ x. x ≡ plain s) (λ x. x ≡ t) host later cdb payload answer data_in → Leaves new t (λ u. PlainCommand drive new.drive s u host later cdb payload answer data_in)
  command_plainly host later cdb payload answer data_in off (inl p) =
      let now = answered answer answers.Off data_in [] p.1.is_answered in
      record {
        uncached_is = now.uncached_is;
        standing = now.standing;
        contents_is = now.contents_is;
        so = inl (p.0, record { is_answered = now.so; later_is = p.1.later_is });
      }
  command_plainly host later cdb payload answer data_in off (inr p) =
      let now = by_plainly p.0 host cdb payload p.1.judged answer data_in p.1.is_judged off p.1.is_answered in
      record {
        uncached_is = now.uncached_is;
        standing = now.standing;
        contents_is = now.contents_is;
        so = inr (p.0, record { judged = p.1.judged; is_judged = p.1.is_judged; is_answered = now.so; later_is = p.1.later_is });
      }

  -- ---- of the other lines

  keeps_plainly : (host later : Host) → KeepsRest (uncached drive) new (λ x. x ≡ plain s) (λ x. x ≡ t) host later → Leaves new t (λ u. KeepsPlainly drive new.drive s u host later)
  keeps_plainly host later p = record {
    uncached_is = is_uncached new p.cache.0 p.cache.1;
    standing = s;
    contents_is = sym (p.stands (plain s) refl);
    so = record { memory = p.memory; stands = refl; same_host = p.same_host };
  }

  after_fail : (u : Standing) (end : FailEnd) → contents_after_fail (plain u) end ≡ plain (stands_after_fail u end)
  after_fail u fails.Done = refl
  after_fail u (fails.NoBlock blocks) = refl
  after_fail (On disc) fails.Failed = refl
  after_fail (Off discs) fails.Failed = refl

  tick_idle : (out : TickOut) → TickCause (uncached drive) new out → ((IsOn drive × (out ≡ ticks.Idle)) ⊎ (¬ IsOn drive × (out ≡ ticks.Off))) × (new ≡ uncached drive)
  tick_idle ticks.Idle cause = (inl (cause.on, refl), cause.nothing)
  tick_idle (ticks.Written lba) cause = absurd (no_oldest cause.0.block cause.0.rest cause.0.oldest)
  tick_idle (ticks.NoSpare lba) cause = absurd (no_oldest cause.block cause.rest cause.oldest)
  tick_idle (ticks.NoUpdate counter) cause = absurd (no_oldest cause.block cause.rest cause.oldest)
  tick_idle ticks.Cut cause = absurd (no_oldest cause.block cause.rest cause.oldest)
  tick_idle ticks.Off cause = (inr (cause.off, refl), cause.nothing)
  tick_idle ticks.Fault cause = absurd (no_oldest cause.block cause.rest cause.oldest)

  tick_stays : (u : Standing) (out : TickOut) → (IsOn drive × (out ≡ ticks.Idle)) ⊎ (¬ IsOn drive × (out ≡ ticks.Off)) → TickContents (λ x. x ≡ t) (plain u) out → plain u ≡ t
  tick_stays u out (inl idle) step = of_idle u (subst (TickContents (λ x. x ≡ t) (plain u)) idle.1 step)
    where
      of_idle : (u : Standing) → TickContents (λ x. x ≡ t) (plain u) ticks.Idle → plain u ≡ t
      of_idle (On disc) same = same
      of_idle (Off discs) same = absurd same
  tick_stays u out (inr off) step = of_off u (subst (TickContents (λ x. x ≡ t) (plain u)) off.1 step)
    where
      of_off : (u : Standing) → TickContents (λ x. x ≡ t) (plain u) ticks.Off → plain u ≡ t
      of_off (On disc) same = absurd same
      of_off (Off discs) same = same

  tick_told : (out : TickOut) (outcome : Outcome) → outcome ≡ tick_outcome out → (IsOn drive × (out ≡ ticks.Idle)) ⊎ (¬ IsOn drive × (out ≡ ticks.Off))
      → (IsOn drive × (outcome ≡ tick_outcome ticks.Idle)) ⊎ (¬ IsOn drive × (outcome ≡ tick_outcome ticks.Off))
  tick_told out outcome is (inl idle) = inl (idle.0, is ∙ ap tick_outcome idle.1)
  tick_told out outcome is (inr off) = inr (off.0, is ∙ ap tick_outcome off.1)

  tick_plainly : (host later : Host) (outcome : Outcome) → TickLine (uncached drive) new (λ x. x ≡ plain s) (λ x. x ≡ t) host later outcome
      → Leaves new t (λ u. PlainTick drive new.drive s u host later outcome)
  tick_plainly host later outcome p =
      let idle = tick_idle p.out p.cause in
      as_before (λ u. PlainTick drive new.drive s u host later outcome) idle.1 (tick_stays s p.out idle.0 (p.step (plain s) refl))
      (record { same = same_drive idle.1; stands = refl; same_host = p.same_host; outcome_is = tick_told p.out outcome p.outcome_is idle.0 })

  step_after : (u : Standing) (end : StepEnd) → StepContents (λ x. x ≡ t) (plain u) end → t ≡ plain (stands_after_step u end)
  step_after (On disc) (steps.Readable i) step = sym step
  step_after (On disc) (steps.Unreadable i) step = sym step.2
  step_after (On disc) steps.Cut step = sym step
  step_after (On disc) steps.Fault step = sym step
  step_after u steps.NotFormatted step = sym step
  step_after u steps.Off step = sym step
  step_after (Off discs) (steps.Readable i) step = absurd step
  step_after (Off discs) (steps.Unreadable i) step = absurd step.2
  step_after (Off discs) steps.Cut step = absurd step
  step_after (Off discs) steps.Fault step = absurd step

  pass_after : (u : Standing) (end : PassEnd) → PassContents (λ x. x ≡ t) (plain u) end → t ≡ plain (stands_after_pass u end)
  pass_after u passes.Done step = sym step
  pass_after u passes.NotFormatted step = sym step
  pass_after u passes.Off step = sym step
  pass_after (On disc) passes.Cut step = sym step
  pass_after (On disc) passes.Fault step = sym step
  pass_after (Off discs) passes.Cut step = absurd step
  pass_after (Off discs) passes.Fault step = absurd step

  scrub_step_plainly : (host later : Host) (outcome : Outcome) → StepLine (uncached drive) new (λ x. x ≡ plain s) (λ x. x ≡ t) host later outcome
      → Leaves new t (λ u. PlainScrubStep drive new.drive s u host later outcome)
  scrub_step_plainly host later outcome p =
      let is : new ≡ uncached new.drive = of_step StaysUncached stays_uncached (uncached drive) new p.from p.to p.end p.rule refl in
      record {
        uncached_is = is;
        standing = stands_after_step s p.end;
        contents_is = step_after s p.end (p.step (plain s) refl);
        so = record {
          end = p.end;
          from = p.from;
          to = p.to;
          rule = subst (λ (x : CacheShown). StepRule (uncached drive) x p.from p.end p.to) is p.rule;
          stands = refl;
          same_host = p.same_host;
          outcome_is = p.outcome_is;
        };
      }

  scrub_pass_plainly : (host later : Host) (outcome : Outcome) → PassLine (uncached drive) new (λ x. x ≡ plain s) (λ x. x ≡ t) host later outcome
      → Leaves new t (λ u. PlainScrubPass drive new.drive s u host later outcome)
  scrub_pass_plainly host later outcome p =
      let is : new ≡ uncached new.drive = of_pass StaysUncached stays_uncached (uncached drive) new p.from p.to p.end p.rule refl in
      record {
        uncached_is = is;
        standing = stands_after_pass s p.end;
        contents_is = pass_after s p.end (p.step (plain s) refl);
        so = record {
          end = p.end;
          from = p.from;
          to = p.to;
          rule = subst (λ (x : CacheShown). PassRule (uncached drive) x p.from p.end p.to) is p.rule;
          stands = refl;
          same_host = p.same_host;
          outcome_is = p.outcome_is;
        };
      }

  power_plainly : (host later : Host) (outcome : Outcome) → PowerLine (uncached drive) new (λ x. x ≡ plain s) (λ x. x ≡ t) host later outcome
      → Leaves new t (λ u. PlainPower drive new.drive s u host later outcome)
  power_plainly host later outcome p =
      let cause = plain_power_cause drive new p.out p.powered.cause in
      let now = plain_power_step t new.drive s p.out (p.powered.step (plain s) refl) in
      record {
        uncached_is = cause.1;
        standing = now.standing;
        contents_is = now.is;
        so = record { out = p.out; cause = cause.0; step = now.so; later_is = p.powered.later_is; outcome_is = p.outcome_is };
      }

  fail_plainly : (host later : Host) (block : ℕ) (outcome : Outcome) → FailLine (uncached drive) new (λ x. x ≡ plain s) (λ x. x ≡ t) host later block outcome
      → Leaves new t (λ u. PlainFail drive new.drive s u host later block outcome)
  fail_plainly host later block outcome p = record {
    uncached_is = is_uncached new p.cache.0 p.cache.1;
    standing = stands_after_fail s p.end;
    contents_is = sym (p.stands (plain s) refl) ∙ after_fail s p.end;
    so = record { end = p.end; rule = p.rule; stands = refl; same_host = p.same_host; outcome_is = p.outcome_is };
  }

  wear_plainly : (host later : Host) (block n : ℕ) (outcome : Outcome) → WearLine (uncached drive) new (λ x. x ≡ plain s) (λ x. x ≡ t) host later block n outcome
      → Leaves new t (λ u. PlainWear drive new.drive s u host later block n outcome)
  wear_plainly host later block n outcome p =
      let now = keeps_plainly host later p.keeps in
      record {
        uncached_is = now.uncached_is;
        standing = now.standing;
        contents_is = now.contents_is;
        so = record { end = p.end; rule = p.rule; keeps = now.so; outcome_is = p.outcome_is };
      }

  cut_plainly : (host later : Host) (n : ℕ) (fate : Fate) (outcome : Outcome) → CutLine (uncached drive) new (λ x. x ≡ plain s) (λ x. x ≡ t) host later n fate outcome
      → Leaves new t (λ u. PlainCut drive new.drive s u host later n fate outcome)
  cut_plainly host later n fate outcome p =
      let now = keeps_plainly host later p.keeps in
      record {
        uncached_is = now.uncached_is;
        standing = now.standing;
        contents_is = now.contents_is;
        so = record { armed = p.armed; keeps = now.so; outcome_is = p.outcome_is };
      }

  without_data : (says : Standing → Type 0) (data_in : List ℕ) → data_in ≡ [] → Leaves new t says → Leaves new t (λ u. says u × (data_in ≡ []))
  without_data says data_in none now = record { uncached_is = now.uncached_is; standing = now.standing; contents_is = now.contents_is; so = (now.so, none) }

  rule_plainly : (host later : Host) (line : Line) (payload : List ℕ) (outcome : Outcome) (data_in : List ℕ) → LeavesAlone line payload
      → DiscRule (uncached drive) new (λ x. x ≡ plain s) (λ x. x ≡ t) host later line payload outcome data_in
      → Leaves new t (λ u. PlainRule drive new.drive s u host later line payload outcome data_in)
  rule_plainly host later lines.Power payload outcome data_in off p =
      without_data (λ u. PlainPower drive new.drive s u host later outcome) data_in p.1 (power_plainly host later outcome p.0)
  rule_plainly host later (lines.Fail block) payload outcome data_in off p =
      without_data (λ u. PlainFail drive new.drive s u host later block outcome) data_in p.1 (fail_plainly host later block outcome p.0)
  rule_plainly host later (lines.Wear block n) payload outcome data_in off p =
      without_data (λ u. PlainWear drive new.drive s u host later block n outcome) data_in p.1 (wear_plainly host later block n outcome p.0)
  rule_plainly host later (lines.Cut n fate) payload outcome data_in off p =
      without_data (λ u. PlainCut drive new.drive s u host later n fate outcome) data_in p.1 (cut_plainly host later n fate outcome p.0)
  rule_plainly host later lines.Tick payload outcome data_in off p =
      without_data (λ u. PlainTick drive new.drive s u host later outcome) data_in p.1 (tick_plainly host later outcome p.0)
  rule_plainly host later (lines.Scrub false) payload outcome data_in off p = scrub_step_plainly host later outcome p
  rule_plainly host later (lines.Scrub true) payload outcome data_in off p = scrub_pass_plainly host later outcome p
  rule_plainly host later (lines.Command cdb) payload outcome data_in off p =
      let now = command_plainly host later cdb payload p.answer data_in off p.step in
      record {
        uncached_is = now.uncached_is;
        standing = now.standing;
        contents_is = now.contents_is;
        so = record { answer = p.answer; step = now.so; outcome_is = p.outcome_is };
      }
  rule_plainly host later _ payload outcome data_in off p = absurd p

-- ---- states

-- with nothing pending the drive stands for what its disc stands for
stands_plain : (shown : CacheShown) (contents : Contents) (u : Standing) → shown ≡ uncached shown.drive → contents ≡ plain u → CacheStandsFor shown contents → StandsFor shown.drive u
stands_plain shown contents u is same stands =
    stands_for_it (StandsFor shown.drive) u
    (subst (λ (c : Contents). StandsCached (StandsFor shown.drive) [] c) same
    (subst (λ (pending : List (ℕ × List ℕ)). StandsCached (StandsFor shown.drive) pending contents) (ap (λ (x : CacheShown). x.pending) is) stands))

-- the same disc in a drive without a cache
abbrev plain_served : (t : Served) → t.disc.shown ≡ uncached t.disc.shown.drive → (u : Standing) → t.disc.contents ≡ plain u → PlainServed
plain_served t is u same = record {
  disc = record {
    shown = t.disc.shown.drive;
    standing = u;
    sound = t.disc.sound;
    stands = stands_plain t.disc.shown t.disc.contents u is same t.disc.stands;
  };
  host = t.host;
  scrub = t.scrub;
  labelled = t.labelled;
  bytes = t.bytes;
  image = t.image;
}

is_served : (t : Served) (is : t.disc.shown ≡ uncached t.disc.shown.drive) (u : Standing) (same : t.disc.contents ≡ plain u) → IsServedPlainly t (plain_served t is u same)
is_served t is u same = record { shown_is = is; contents_is = same; host_is = refl; scrub_is = refl; bytes_are = refl }

-- what a drive with a cache that is off and empty is, it is as one without a cache
alone_plainly : (s : State) → IsAlone s → (p : PlainState) × IsInPlainly s p
alone_plainly (Unopened bytes) is = (PlainImage bytes, refl)
alone_plainly (Disc s) is = (PlainDisc (plain_served s is.uncached_is is.standing is.contents_is), is_served s is.uncached_is is.standing is.contents_is)

plainly_alone : (s : State) (p : PlainState) → IsInPlainly s p → IsAlone s
plainly_alone (Unopened bytes) p is = tt
plainly_alone (Disc s) (PlainImage held) is = absurd is
plainly_alone (Disc s) (PlainDisc p) is = record {
  uncached_is = is.shown_is ∙ ap uncached (sym (ap (λ (x : CacheShown). x.drive) is.shown_is));
  standing = p.disc.standing;
  contents_is = is.contents_is;
}

-- ---- what a run begins with

inserted_plainly : (shape : Shape) (cells : List Cell) (bytes : List ℕ) (s : Served) → IsInserted shape cells bytes s
    → (p : PlainServed) × IsPlainlyInserted shape cells bytes p × IsServedPlainly s p
inserted_plainly shape cells bytes s is =
    let off : s.disc.shown ≡ uncached s.disc.shown.drive = is.opened.shown_is ∙ ap uncached (sym (ap (λ (x : CacheShown). x.drive) is.opened.shown_is)) in (
      plain_served s off is.opened.standing is.opened.contents_is,
      record {
        opened = record { faults = is.opened.faults; shown_is = ap (λ (x : CacheShown). x.drive) is.opened.shown_is; all = is.opened.all; starts = is.opened.starts };
        host_is = is.host_is;
        scrub_is = is.scrub_is;
        bytes_are = is.bytes_are;
      },
      is_served s off is.opened.standing is.opened.contents_is,
    )

pub first_plainly : (bytes : List ℕ) (s : State) → IsFirst bytes s → (p : PlainState) × IsPlainlyFirst bytes p × IsInPlainly s p
first_plainly bytes (Unopened image) is = (PlainImage image, is, refl)
first_plainly bytes (Disc s) is =
    let now = inserted_plainly is.0 (cells_of (total is.0) bytes) bytes s is.2 in
    (PlainDisc now.0, (is.0, is.1, now.1), now.2)

pub first_alone : (bytes : List ℕ) (s : State) → IsFirst bytes s → IsAlone s
first_alone bytes s is = let now = first_plainly bytes s is in plainly_alone s now.0 now.2

-- ---- one line

pressed_plainly : (shape : Shape) (t : State) → IsPressedDisc shape t → (q : PlainState) × IsPlainlyPressed shape q × IsInPlainly t q
pressed_plainly shape (Unopened image) is = absurd is
pressed_plainly shape (Disc t) is =
    let now = inserted_plainly shape (blank_cells shape) (pressed_image shape) t is in (PlainDisc now.0, now.1, now.2)

pub pressed_alone : (shape : Shape) (s : State) → IsPressedDisc shape s → IsAlone s
pressed_alone shape s is = let now = pressed_plainly shape s is in plainly_alone s now.0 now.2

left_plainly : (s : State) (p : PlainState) (before : List ℕ) → IsInPlainly s p → IsLeft s before → IsPlainlyLeft p before
left_plainly (Unopened image) (PlainImage held) before is left = left ∙ ap (λ (x : BareImage). x.bytes) is
left_plainly (Unopened bytes) (PlainDisc p) before is left = absurd is
left_plainly (Disc s) (PlainImage held) before is left = absurd is
left_plainly (Disc s) (PlainDisc p) before is left = left ∙ is.bytes_are

-- the kind of the layout is the same
kind_plainly : (s : State) (p : PlainState) → IsInPlainly s p → kind_of s ≡ plain_kind p
kind_plainly (Unopened image) (PlainImage held) is = ap (λ (x : BareImage). x.kind) is
kind_plainly (Unopened image) (PlainDisc p) is = absurd is
kind_plainly (Disc s) (PlainImage held) is = absurd is
kind_plainly (Disc s) (PlainDisc p) is = ap (λ (x : CacheShown). x.drive.shape.layout) is.shown_is

half_plainly : (s t : State) (p : PlainState) → IsInPlainly s p → IsHalfPressed s t → (q : PlainState) × IsUnopenedPlainly (IsHalfPlainly p) q × IsInPlainly t q
half_plainly s (Unopened image) p is half = (PlainImage image, (half.0, left_plainly s p half.0 is half.1, half.2, half.3 ∙ kind_plainly s p is), refl)
half_plainly s (Disc t) p is half = absurd half

unopened_plainly : (shape : Shape) (t : State) → IsPressedUnopened shape t → (q : PlainState) × IsUnopenedPlainly (IsUnopenedPress shape) q × IsInPlainly t q
unopened_plainly shape (Unopened image) is = (PlainImage image, is, refl)
unopened_plainly shape (Disc t) is = absurd is

renewed_plainly : (s : State) (p : PlainState) → IsInPlainly s p → IsInPlainly (renewed s) (plainly_renewed p)
renewed_plainly (Unopened image) (PlainImage held) is = is
renewed_plainly (Unopened image) (PlainDisc p) is = absurd is
renewed_plainly (Disc s) (PlainImage held) is = absurd is
renewed_plainly (Disc s) (PlainDisc p) is = record { shown_is = is.shown_is; contents_is = is.contents_is; host_is = is.host_is; scrub_is = refl; bytes_are = is.bytes_are }

press_plainly : (s t : State) (p : PlainState) (shape : Shape) (outcome : Outcome) → IsInPlainly s p → PressStep s shape outcome t
    → (q : PlainState) × PlainPress p shape outcome q × IsInPlainly t q
press_plainly s t p shape (Ok (replies.Event events.Pressed)) is step =
    let now = pressed_plainly shape t step.1 in (now.0, (step.0, now.1), now.2)
press_plainly s t p shape (Ok (replies.Event events.NotPressed)) is step =
    (plainly_renewed p, (step.0, refl), subst (λ (x : State). IsInPlainly x (plainly_renewed p)) (sym step.1) (renewed_plainly s p is))
press_plainly s t p shape (Err stopped.ImageFault) is (lawful, inl half) =
    let now = half_plainly s t p is half in (now.0, (lawful, inl now.1), now.2)
press_plainly s t p shape (Err stopped.ImageFault) is (lawful, inr unopened) =
    let now = unopened_plainly shape t unopened in (now.0, (lawful, inr now.1), now.2)
press_plainly s t p shape _ is step = absurd step

module _ (s t : Served) (p : PlainServed) (is : IsServedPlainly s p) where
  rule_there : (line : Line) (payload : List ℕ) (outcome : Outcome) (data_in : List ℕ)
      → DiscRule s.disc.shown t.disc.shown (λ x. x ≡ s.disc.contents) (λ x. x ≡ t.disc.contents) s.host t.host line payload outcome data_in
      → DiscRule (uncached p.disc.shown) t.disc.shown (λ x. x ≡ plain p.disc.standing) (λ x. x ≡ t.disc.contents) p.host t.host line payload outcome data_in
  rule_there line payload outcome data_in rule =
      subst (λ (h : Host). DiscRule (uncached p.disc.shown) t.disc.shown (λ x. x ≡ plain p.disc.standing) (λ x. x ≡ t.disc.contents) h t.host line payload outcome data_in) is.host_is
      (subst (λ (c : Contents). DiscRule (uncached p.disc.shown) t.disc.shown (λ x. x ≡ c) (λ x. x ≡ t.disc.contents) s.host t.host line payload outcome data_in) is.contents_is
      (subst (λ (x : CacheShown). DiscRule x t.disc.shown (λ y. y ≡ s.disc.contents) (λ y. y ≡ t.disc.contents) s.host t.host line payload outcome data_in) is.shown_is rule))

  drive_is : s.disc.shown.drive ≡ p.disc.shown
  drive_is = ap (λ (x : CacheShown). x.drive) is.shown_is

  bytes_there : (line : Line) (outcome : Outcome) → LineBytes line outcome s.disc.shown.drive (Some s.bytes) t.disc.shown.drive (Some t.bytes)
      → LineBytes line outcome p.disc.shown (Some p.bytes) t.disc.shown.drive (Some t.bytes)
  bytes_there line outcome bytes =
      subst (λ (b : List ℕ). LineBytes line outcome p.disc.shown (Some b) t.disc.shown.drive (Some t.bytes)) is.bytes_are
      (subst (λ (d : Shown). LineBytes line outcome d (Some s.bytes) t.disc.shown.drive (Some t.bytes)) drive_is bytes)

  scrubber_there : (line : Line) (outcome : Outcome) (data_in : List ℕ) → t.disc.shown ≡ uncached t.disc.shown.drive → ScrubberRule s.disc.shown t.disc.shown s.scrub t.scrub line outcome data_in
      → ScrubberRule (uncached p.disc.shown) (uncached t.disc.shown.drive) p.scrub t.scrub line outcome data_in
  scrubber_there line outcome data_in off rule =
      subst (λ (x : CacheShown). ScrubberRule (uncached p.disc.shown) x p.scrub t.scrub line outcome data_in) off
      (subst (λ (from : Scrubber). ScrubberRule (uncached p.disc.shown) t.disc.shown from t.scrub line outcome data_in) is.scrub_is
      (subst (λ (x : CacheShown). ScrubberRule x t.disc.shown s.scrub t.scrub line outcome data_in) is.shown_is rule))

  disc_plainly : (line : Line) (payload : List ℕ) (outcome : Outcome) (data_in : List ℕ) → LeavesAlone line payload → DiscStep s t line payload outcome data_in
      → (q : PlainServed) × PlainDiscStep p q line payload outcome data_in × IsServedPlainly t q
  disc_plainly line payload outcome data_in off step =
      let now = rule_plainly p.disc.shown t.disc.shown p.disc.standing t.disc.contents p.host t.host line payload outcome data_in off (rule_there line payload outcome data_in step.rule) in (
        plain_served t now.uncached_is now.standing now.contents_is,
        record {
          same_shape = step.same_shape ∙ ap (λ (d : Shown). d.shape) drive_is;
          rule = now.so;
          scrubber = scrubber_there line outcome data_in now.uncached_is step.scrubber;
          bytes = bytes_there line outcome step.bytes;
        },
        is_served t now.uncached_is now.standing now.contents_is,
      )

on_disc_plainly : (s t : State) (p : PlainState) (line : Line) (payload : List ℕ) (outcome : Outcome) (data_in : List ℕ) → IsInPlainly s p → LeavesAlone line payload
    → OnDisc s line payload outcome data_in t → (q : PlainState) × OnPlainDisc p line payload outcome data_in q × IsInPlainly t q
on_disc_plainly (Unopened bytes) t (PlainImage held) line payload outcome data_in is off step =
    (PlainImage held, (step.0, step.1, refl), subst (λ (x : State). IsInPlainly x (PlainImage held)) (sym step.2) is)
on_disc_plainly (Unopened bytes) t (PlainDisc p) line payload outcome data_in is off step = absurd is
on_disc_plainly (Disc s) t (PlainImage held) line payload outcome data_in is off step = absurd is
on_disc_plainly (Disc s) (Unopened bytes) (PlainDisc p) line payload outcome data_in is off step = absurd step
on_disc_plainly (Disc s) (Disc t) (PlainDisc p) line payload outcome data_in is off step =
    let now = disc_plainly s t p is line payload outcome data_in off step in (PlainDisc now.0, now.1, now.2)

pub step_plainly : (s t : State) (p : PlainState) (line : Line) (payload data_in : List ℕ) (outcome : Outcome) → Step s line payload outcome data_in t → LeavesAlone line payload
    → IsInPlainly s p → (q : PlainState) × PlainStep p line payload outcome data_in q × IsInPlainly t q
step_plainly s t p lines.Empty payload data_in outcome step off is =
    (p, (step.0, step.1, refl), subst (λ (x : State). IsInPlainly x p) (sym step.2) is)
step_plainly s t p (lines.Press zones scale psa) payload data_in outcome step off is =
    let same = ap (λ (kind : LayoutKind). shape_in kind zones scale psa) (kind_plainly s p is) in
    let now = press_plainly s t p (shape_in (kind_of s) zones scale psa) outcome is step.0 in
    (now.0, (subst (λ (shape : Shape). PlainPress p shape outcome now.0) same now.1, step.1), now.2)
step_plainly s t p line payload data_in outcome step off is = on_disc_plainly s t p line payload outcome data_in is off step

pub step_alone : (s t : State) (line : Line) (payload data_in : List ℕ) (outcome : Outcome) → Step s line payload outcome data_in t → LeavesAlone line payload → IsAlone s → IsAlone t
step_alone s t line payload data_in outcome step off is =
    let p = alone_plainly s is in
    let now = step_plainly s t p.0 line payload data_in outcome step off p.1 in plainly_alone t now.0 now.2

-- ---- runs

pub run_plainly : (s t : State) (p : PlainState) (answered : List AnsweredStep) → Run s answered t → LeaveAlone answered → IsInPlainly s p
    → (q : PlainState) × PlainRun p answered q × IsInPlainly t q
run_plainly s t p [] run off is = (p, refl, subst (λ (x : State). IsInPlainly x p) (sym run) is)
run_plainly s t p (event ∷ answered) run off is =
    let before = run_plainly s run.0 p answered run.1 (All-tail (λ (e : AnsweredStep). LeavesAlone e.line e.payload) event answered off) is in
    let after =
    step_plainly run.0 t before.0 event.line event.payload event.data_in (Ok event.reply) run.2 (All-head (λ (e : AnsweredStep). LeavesAlone e.line e.payload) event answered off) before.2 in
    (after.0, (before.0, before.1, after.1), after.2)

pub run_alone : (s t : State) (answered : List AnsweredStep) → Run s answered t → LeaveAlone answered → IsAlone s → IsAlone t
run_alone s t answered run off is =
    let p = alone_plainly s is in
    let now = run_plainly s t p.0 answered run off p.1 in plainly_alone t now.0 now.2

-- ---- a power line that is ready

-- it leaves the cache off and empty, whatever was before, and one disc
ready_alone : (new : CacheShown) (c t : Contents) (out : PowerOut) (known : ℕ) → Ok (replies.Event (events.Ready known)) ≡ power_outcome out → PowerContents new.drive (λ x. x ≡ t) c out → new ≡ uncached new.drive
    → StandsAlone new t
ready_alone new c t (powers.Ready told) known is step off = record { uncached_is = off; standing = On step.finds.disc; contents_is = sym step.finds.found }
ready_alone new c t powers.NotFormatted known is step off = absurd cc
ready_alone new c t powers.Cut known is step off = absurd cc
ready_alone new c t powers.Fault known is step off = absurd cc

by_power : (s t : State) (payload data_in : List ℕ) (known : ℕ) → Step s lines.Power payload (Ok (replies.Event (events.Ready known))) data_in t → IsAlone t
by_power s (Unopened image) payload data_in known step = tt
by_power (Unopened image) (Disc t) payload data_in known step = absurd (let clash = step.0 in cc)
by_power (Disc s) (Disc t) payload data_in known step =
    let p = step.rule.0 in
    ready_alone t.disc.shown s.disc.contents t.disc.contents p.out known p.outcome_is (p.powered.step s.disc.contents refl)
    (is_uncached t.disc.shown p.powered.cause.1.0 p.powered.cause.1.1)

pub powered_alone : (s t : State) (event : AnsweredStep) (known : ℕ) → IsStep s event t → event.line ≡ lines.Power → event.reply ≡ replies.Event (events.Ready known) → IsAlone t
powered_alone s t event known step is_power ready =
    by_power s t event.payload event.data_in known
    (subst (λ (l : Line). Step s l event.payload (Ok (replies.Event (events.Ready known))) event.data_in t) is_power
    (subst (λ (r : Reply). Step s event.line event.payload (Ok r) event.data_in t) ready step))

-- and a state whose cache is off and empty is one of a drive without a cache
pub is_plainly : (s : State) → IsAlone s → (p : PlainState) × IsInPlainly s p
is_plainly s is = alone_plainly s is
