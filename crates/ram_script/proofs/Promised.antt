-- The promise, from what stands with each status of a run.
use Rattle.std.specs.Prelude.{◌≡◌, ℕ, false, Option, None, Some, Err, List, [], ◌∷◌, ◌++◌}
use Rattle.std.proofs.Common.{refl, sym, ap, ◌∙◌, inl, inr}
use Rattle.std.proofs.lemmas.List.{append-nil}
use Rattle.std.specs.List.{All}
use Rattle.std.proofs.lemmas.List.Elements.{All-nil, All-cons}
use Rattle.model_cache.proofs.Members.{Contains-none}
use Rattle.ram_report.specs.declared.printing.LastLine.{LastLine}
use Rattle.ram_report.specs.declared.printing.LastLine.TheVariants as lasts
use Rattle.ram_machine.specs.declared.status.Status.{Status}
use Rattle.ram_machine.specs.declared.status.Status.TheVariants as statuses
use Rattle.ram_machine.specs.declared.stopped.Stopped.TheVariants as stopped
use Rattle.ram_machine.specs.States.{State}
use Rattle.ram_script.specs.Answered.{AnsweredLine, IsRead, report_text, steps_of}
use Rattle.ram_script.specs.Run.{LineRun}
use Rattle.ram_script.specs.RunCounts.{Counts}
use Rattle.ram_machine.specs.Replies.{Outcome}
use Rattle.ram_script.specs.Progress.{Beginning, SoFar, IsReported}
use Rattle.ram_script.specs.Endings.{Aftermath, IsEnded, IsStoppedInLine, IsWrittenInPart, StandsWith, whole_text}
use Rattle.ram_script.specs.Promise.{last_words, KeepsBytes}
use Rattle.ram_machine.specs.Runs.{Run}
use Rattle.ram_machine.specs.Register.{Register}
use Rattle.ram_machine.proofs.SectorOpened.{registers}

-- the lines of a run are lines of the language
run_read : (first last : State) (events : List AnsweredLine) → LineRun first events last → All IsRead events
run_read first last [] run = All-nil IsRead
run_read first last (event ∷ events) run = All-cons IsRead event events run.2.read (run_read first run.0 events run.1)

-- and their steps are a run of the machine
run_of : (first last : State) (events : List AnsweredLine) → LineRun first events last → Run first (steps_of events) last
run_of first last [] run = run
run_of first last (event ∷ events) run = (run.0, run_of first run.0 events run.1, run.2.step)

module _ (first : Beginning) where
  abbrev Keeps : Option (List ℕ) → Type 0
  Keeps written = KeepsBytes first.script first.report first.image written

  so_far : (far : SoFar first) (written : Option (List ℕ)) (bytes more : List ℕ) (last : Option LastLine) → written ≡ Some bytes → bytes ++ more ≡ first.report ++ (report_text far.events ++ last_words last) → Keeps written
  so_far far written bytes more last is prefix = record {
    events = far.events;
    rest = far.rest;
    lines = far.lines;
    reads = run_read far.start far.now far.events far.run;
    registers = λ at. registers first.image far.start far.now (steps_of far.events) at far.starts (run_of far.start far.now far.events far.run);
    bytes = bytes;
    more = more;
    last = last;
    written_is = is;
    prefix = prefix;
  }

  -- a whole report
  ended : (after : Aftermath) (last : LastLine) → IsEnded first after last → Keeps after.written
  ended after last p = so_far p.far after.written (whole_text p.far last) [] (Some last) p.written_is (append-nil (whole_text p.far last))

  -- the answers so far
  reported : (far : SoFar first) (written : Option (List ℕ)) → IsReported far written → Keeps written
  reported far written is =
      so_far far written (first.report ++ report_text far.events) [] None is
      (append-nil (first.report ++ report_text far.events) ∙ sym (ap (λ (l : List ℕ). first.report ++ l) (append-nil (report_text far.events))))

  -- the beginning of a report
  in_part : (far : SoFar first) (written : Option (List ℕ)) (refused : Option ℕ) → IsWrittenInPart far written refused → Keeps written
  in_part far written refused p = elim p.prefix [
    | inl is ↦ so_far far written p.bytes p.more None p.written_is (is ∙ sym (ap (λ (l : List ℕ). first.report ++ l) (append-nil (report_text far.events))))
    | inr (last, tells, is) ↦ so_far far written p.bytes p.more (Some last) p.written_is is
  ]

  -- nothing was done
  pub not_begun : (written : Option (List ℕ)) → written ≡ Some first.report → Keeps written
  not_begun written is = record {
    events = [];
    rest = first.script;
    lines = inl refl;
    reads = All-nil IsRead;
    registers = λ at.
        let begins : Register = record { now = None; falls = []; caches = false } in
        record { first = begins; last = begins; opened = record { off = refl; held = λ bytes has. absurd (Contains-none bytes has); uncached = refl }; turns = refl };
    bytes = first.report;
    more = [];
    last = None;
    written_is = is;
    prefix = refl;
  }

  stopped_in : (after : Aftermath) (outcome : Outcome) → IsStoppedInLine first after outcome → Keeps after.written
  stopped_in after outcome p = reported p.far after.written p.written_is

pub promised : (first : Beginning) (after : Aftermath) (old new : Counts) (status : Status) → StandsWith first after old new status → KeepsBytes first.script first.report first.image after.written
promised first after old new statuses.Done stands = ended first after (lasts.End stands.0) stands.1
promised first after old new statuses.Differs stands = absurd stands
promised first after old new statuses.Usage stands = absurd stands
promised first after old new statuses.Script stands = ended first after stands.0 stands.2
promised first after old new statuses.ImageFault (inl p) = not_begun first after.written p.written_is
promised first after old new statuses.ImageFault (inr p) = stopped_in first after (Err stopped.ImageFault) p
promised first after old new statuses.SourceFault stands = reported first stands.far after.written stands.written_is
promised first after old new statuses.SinkFault stands = in_part first stands.far after.written after.refused stands.written_is
promised first after old new statuses.NoMemory p = absurd p
promised first after old new statuses.NotADisc stands = ended first after (lasts.NotADisc stands.0) stands.1
