-- What stands with a status over one kind of state stands over another too, where each line leads from what stands for a state to what
-- stands for the next.
use Rattle.std.specs.Prelude.{◌≡◌, ℕ, ◌+◌, List, [], ◌∷◌, length}
use Rattle.std.proofs.Common.{refl, sym, inl, inr, subst}
use Rattle.ram_report.specs.declared.printing.LastLine.{LastLine}
use Rattle.ram_report.specs.declared.printing.LastLine.TheVariants as lasts
use Rattle.ram_machine.specs.declared.stopped.Stopped.{Stopped}
use Rattle.ram_machine.specs.declared.stopped.Stopped.TheVariants as stopped
use Rattle.ram_machine.specs.declared.status.Status.{Status}
use Rattle.ram_machine.specs.declared.status.Status.TheVariants as statuses
use Rattle.ram_script.specs.RunCounts.{Counts}
use Rattle.ram_answers.specs.Texts.{AnsweredText}
use Rattle.ram_answers.specs.StateRuns.{StateRun}
use Rattle.ram_answers.specs.Reports.{Heard, RunSoFar, StopsAtLine, IsLastLine, IsToldWhole, EndsAtSource, IsToldInPart, EndsQuietly, FailedBefore, ToldWith}

module _ {A S : Type 0} (BeginsA : A → Type 0) (StepsA : A → ℕ → AnsweredText → A → Type 0) (StopsA : A → List ℕ → Stopped → A → Type 0)
    (BeginsS : S → Type 0) (StepsS : S → ℕ → AnsweredText → S → Type 0) (StopsS : S → List ℕ → Stopped → S → Type 0)
    (Stands : A → S → Type 0)
    (starts : (a : A) → BeginsA a → (s : S) × BeginsS s × Stands a s)
    (steps : (a b : A) (s : S) (number : ℕ) (event : AnsweredText) → Stands a s → StepsA a number event b → (t : S) × StepsS s number event t × Stands b t)
    (stops : (a b : A) (s : S) (raw : List ℕ) (why : Stopped) → Stands a s → StopsA a raw why b → (t : S) × StopsS s raw why t × Stands b t)
    (script report : List ℕ) where
  abbrev FarA : Type 0
  FarA = RunSoFar BeginsA StepsA StopsA script report

  abbrev FarS : Type 0
  FarS = RunSoFar BeginsS StepsS StopsS script report

  run_of : (a b : A) (s : S) (events : List AnsweredText) → Stands a s → StateRun StepsA a events b → (t : S) × StateRun StepsS s events t × Stands b t
  run_of a b s [] stands run = (s, refl, subst (λ x. Stands x s) (sym run) stands)
  run_of a b s (event ∷ events) stands run =
      let before = run_of a run.0 s events stands run.1 in
      let step = steps run.0 b before.0 (length events + 1) event before.2 run.2 in
      (step.0, (before.0, before.1, step.1), step.2)

  module _ (far : FarA) where
    first_of : (s : S) × BeginsS s × Stands far.start s
    first_of = starts far.start far.begins

    now_of : (t : S) × StateRun StepsS first_of.0 far.events t × Stands far.now t
    now_of = run_of far.start far.now first_of.0 far.events first_of.2 far.run

    abbrev far_of : FarS
    far_of = record {
      start = first_of.0;
      begins = first_of.1;
      events = far.events;
      now = now_of.0;
      run = now_of.1;
      rest = far.rest;
      lines = far.lines;
      within = far.within;
    }

    -- what is left as it is
    same_of : (after : A) → after ≡ far.now → Stands after now_of.0
    same_of after same = subst (λ x. Stands x now_of.0) (sym same) now_of.2

    line_of : (why : Stopped) (after : A) → StopsAtLine BeginsA StepsA StopsA script report far why after
        → (t : S) × StopsAtLine BeginsS StepsS StopsS script report far_of why t × Stands after t
    line_of why after line =
        let end = stops far.now after now_of.0 line.raw why now_of.2 line.stops in
        (end.0, record { raw = line.raw; comes = line.comes; stops = end.1 }, end.2)

    last_of : (last : LastLine) (after : A) → IsLastLine BeginsA StepsA StopsA script report far last after
        → (t : S) × IsLastLine BeginsS StepsS StopsS script report far_of last t × Stands after t
    last_of (lasts.End answered) after is = (now_of.0, (is.0, is.1, refl), same_of after is.2)
    last_of (lasts.NotInLanguage line) after is =
        let end = line_of stopped.NotInLanguage after is.0 in
        (end.0, (end.1, is.1), end.2)
    last_of (lasts.LineTooLong line) after is = (now_of.0, (is.0, is.1, refl), same_of after is.2)
    last_of lasts.ScriptTooLong after is = (now_of.0, (is.0, refl), same_of after is.1)
    last_of (lasts.NotADisc line) after is =
        let end = line_of stopped.NotADisc after is.0 in
        (end.0, (end.1, is.1), end.2)

    source_of : (heard : Heard) (after : A) → EndsAtSource BeginsA StepsA StopsA script report far heard after
        → (t : S) × EndsAtSource BeginsS StepsS StopsS script report far_of heard t × Stands after t
    source_of heard after ends =
        (now_of.0, record { after_is = refl; given = ends.given; unended = ends.unended; rest_is = ends.rest_is }, same_of after ends.after_is)

    part_of : (heard : Heard) → IsToldInPart BeginsA StepsA StopsA script report far heard → IsToldInPart BeginsS StepsS StopsS script report far_of heard
    part_of heard part = record {
      bytes = part.bytes;
      more = part.more;
      written_is = part.written_is;
      prefix = elim part.prefix [
        | inl none ↦ inl none
        | inr some ↦ inr (some.0, (last_of some.0 some.1 some.2).0, (last_of some.0 some.1 some.2).1, some.3)
      ];
      nearly = part.nearly;
      offered = part.offered;
    }

    quiet_of : (after : A) → EndsQuietly BeginsA StepsA StopsA script report far after
        → (t : S) × EndsQuietly BeginsS StepsS StopsS script report far_of t × Stands after t
    quiet_of after (inl same) = (now_of.0, inl refl, same_of after same)
    quiet_of after (inr (inl line)) =
        let end = line_of stopped.NotInLanguage after line in
        (end.0, inr (inl end.1), end.2)
    quiet_of after (inr (inr line)) =
        let end = line_of stopped.NotADisc after line in
        (end.0, inr (inr end.1), end.2)

    behind_of : (heard : Heard) (after : A) (old new : Counts) → FailedBefore BeginsA StepsA StopsA script report far heard after old new
        → (t : S) × FailedBefore BeginsS StepsS StopsS script report far_of heard t old new × Stands after t
    behind_of heard after old new (inl only) =
        let end = quiet_of after only.1 in
        (end.0, inl (only.0, end.1), end.2)
    behind_of heard after old new (inr (inl source)) =
        let end = source_of heard after source.1 in
        (end.0, inr (inl (source.0, end.1)), end.2)
    behind_of heard after old new (inr (inr image)) =
        let end = line_of stopped.ImageFault after image.1 in
        (end.0, inr (inr (image.0, end.1)), end.2)

  whole_of : (heard : Heard) (after : A) (last : LastLine) → IsToldWhole BeginsA StepsA StopsA script report heard after last
      → (t : S) × IsToldWhole BeginsS StepsS StopsS script report heard t last × Stands after t
  whole_of heard after last told =
      let end = last_of told.far last after told.last_is in
      (end.0, record { far = far_of told.far; last_is = end.1; written_is = told.written_is }, end.2)

  -- What stands over the one stands over the other.
  pub told_as : (heard : Heard) (after : A) (old new : Counts) (status : Status) → ToldWith BeginsA StepsA StopsA script report heard after old new status
      → (t : S) × ToldWith BeginsS StepsS StopsS script report heard t old new status × Stands after t
  told_as heard after old new statuses.Done told =
      let end = whole_of heard after (lasts.End told.0) told.1 in
      (end.0, (told.0, end.1), end.2)
  told_as heard after old new statuses.Script told =
      let end = whole_of heard after told.0 told.2 in
      (end.0, (told.0, told.1, end.1), end.2)
  told_as heard after old new statuses.NotADisc told =
      let end = whole_of heard after (lasts.NotADisc told.0) told.1 in
      (end.0, (told.0, end.1), end.2)
  told_as heard after old new statuses.ImageFault told =
      let end = line_of told.far stopped.ImageFault after told.line in
      (end.0, record { far = far_of told.far; written_is = told.written_is; line = end.1 }, end.2)
  told_as heard after old new statuses.SourceFault told =
      let end = source_of told.far heard after told.cut in
      (end.0, record { far = far_of told.far; written_is = told.written_is; cut = end.1 }, end.2)
  told_as heard after old new statuses.SinkFault told =
      let end = behind_of told.far heard after old new told.behind in
      (end.0, record { far = far_of told.far; told = part_of told.far heard told.told; behind = end.1 }, end.2)
  told_as heard after old new statuses.Differs told = absurd told
  told_as heard after old new statuses.Usage told = absurd told
  told_as heard after old new statuses.NoMemory told = absurd told
