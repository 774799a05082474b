-- Each run of the word is a history.
use Rattle.std.specs.Prelude.{◌≡◌, ◌⊎◌, ℕ, suc, ◌+◌, Option, List, [], ◌∷◌, length}
use Rattle.std.proofs.Common.{sym, inl, inr, subst}
use Rattle.ram_report.specs.declared.printing.LastLine.{LastLine}
use Rattle.ram_report.specs.declared.printing.LastLine.TheVariants as lasts
use Rattle.ram_machine.specs.declared.stopped.Stopped.{Stopped}
use Rattle.ram_machine.specs.declared.status.Status.{Status}
use Rattle.ram_machine.specs.declared.status.Status.TheVariants as statuses
use Rattle.ram_script.specs.RunCounts.{Counts}
use Rattle.ram_answers.specs.Texts.{AnsweredText}
use Rattle.ram_answers.specs.Reports.{Heard, StopsAtLine, IsLastLine, EndsQuietly}
use Rattle.ram_pair.specs.PairStates.{PairState, IsFirstPair}
use Rattle.ram_pair.specs.PairTexts.{IsPairStep, PairRun}
use Rattle.ram_pair.specs.Pairs.{LeavesPair}
use Rattle.ram_mirrored.specs.MirrorRuns.{MirrorBeginning, StopsPair, MirrorSoFar, MirrorToldWith, MirrorStandsWith}
use Rattle.ram_mirror_runs.specs.Histories.{Answered, Ended, History, IsHistoryOf, StayAsTheyWere}

-- the lines of a run
pub run_history : (start last : PairState) (events : List AnsweredText) → PairRun start events last → History start last (length events)
run_history start last [] same = same
run_history start last (event ∷ events) run =
    (run.0, run_history start run.0 events run.1, Answered (record { number = length events + 1; event = event; step = run.2 }))

module _ (first : MirrorBeginning) (a b : Option (List ℕ)) (after : PairState) (left : LeavesPair after a b) where
  -- the run ended behind a line that was answered
  ends_there : (far : MirrorSoFar first) → after ≡ far.now → IsHistoryOf first.images a b
  ends_there far is = record {
    start = far.start;
    begins = far.begins;
    last = after;
    steps = length far.events;
    history = subst (λ (s : PairState). History far.start s (length far.events)) (sym is) (run_history far.start far.now far.events far.run);
    left = left;
  }

  abbrev Stops : MirrorSoFar first → Stopped → Type 0
  Stops far why = StopsAtLine (IsFirstPair first.images) IsPairStep StopsPair first.script first.report far why after

  -- or at one that was not
  ends_at : (far : MirrorSoFar first) (why : Stopped) → Stops far why → IsHistoryOf first.images a b
  ends_at far why stops = record {
    start = far.start;
    begins = far.begins;
    last = after;
    steps = suc (length far.events);
    history = (far.now, run_history far.start far.now far.events far.run, Ended (record { raw = stops.raw; why = why; stops = stops.stops }));
    left = left;
  }

  ends_with : (far : MirrorSoFar first) (last : LastLine) → IsLastLine (IsFirstPair first.images) IsPairStep StopsPair first.script first.report far last after → IsHistoryOf first.images a b
  ends_with far (lasts.End answered) is = ends_there far is.2
  ends_with far (lasts.NotInLanguage line) is = ends_at far _ is.0
  ends_with far (lasts.LineTooLong line) is = ends_there far is.2
  ends_with far lasts.ScriptTooLong is = ends_there far is.1
  ends_with far (lasts.NotADisc line) is = ends_at far _ is.0

  ends_quietly : (far : MirrorSoFar first) → EndsQuietly (IsFirstPair first.images) IsPairStep StopsPair first.script first.report far after → IsHistoryOf first.images a b
  ends_quietly far ends = elim ends [
    | inl there ↦ ends_there far there
    | inr stops ↦ elim stops [ inl word ↦ ends_at far _ word | inr disc ↦ ends_at far _ disc ]
  ]

  ended : (heard : Heard) (old new : Counts) (status : Status) → MirrorToldWith first heard after old new status → IsHistoryOf first.images a b
  ended heard old new statuses.Done is = ends_with is.1.far (lasts.End is.0) is.1.last_is
  ended heard old new statuses.Script is = ends_with is.2.far is.0 is.2.last_is
  ended heard old new statuses.NotADisc is = ends_with is.1.far (lasts.NotADisc is.0) is.1.last_is
  ended heard old new statuses.ImageFault is = ends_at is.far _ is.line
  ended heard old new statuses.SourceFault is = ends_there is.far is.cut.after_is
  ended heard old new statuses.SinkFault is = elim is.behind [
    | inl only ↦ ends_quietly is.far only.1
    | inr more ↦ elim more [ inl source ↦ ends_there is.far source.1.after_is | inr image ↦ ends_at is.far _ image.1 ]
  ]
  ended heard old new _ is = absurd is

pub word_history : (first : MirrorBeginning) (heard : Heard) (a b : Option (List ℕ)) (old new : Counts) (status : Status) → MirrorStandsWith first heard a b old new status
    → StayAsTheyWere first.images a b ⊎ IsHistoryOf first.images a b
word_history first heard a b old new statuses.ImageFault stands = elim stands [
  | inl never ↦ inl (record { a_is = never.a_is; b_is = never.b_is })
  | inr ends ↦ inr (ended first a b ends.after ends.left heard old new statuses.ImageFault ends.told)
]
word_history first heard a b old new status ends = inr (ended first a b ends.after ends.left heard old new status ends.told)
