-- The promise of a run of a mirror: each line turns the register of each sector, from what stands with each status.
use Rattle.std.specs.Prelude.{◌≡◌, ℕ, suc, false, ◌+◌, ◌*◌, if◌then◌else◌, Option, None, Some, Ok, Err, List, [], ◌∷◌, ◌++◌, length}
use Rattle.std.proofs.Common.{refl, sym, ap, ◌∙◌, inl, inr, subst, append_assoc}
use Rattle.std.proofs.lemmas.List.{append-nil}
use Rattle.std.specs.List.{All}
use Rattle.std.proofs.lemmas.List.Elements.{All-nil, All-cons}
use Rattle.model_cache.proofs.Members.{Contains-none}
use Rattle.ram_report.specs.ReportLines.{last_text}
use Rattle.ram_report.specs.declared.printing.LastLine.{LastLine}
use Rattle.ram_report.specs.declared.printing.LastLine.TheVariants as lasts
use Rattle.ram_report.specs.declared.printing.MirrorEvent.{MirrorEvent}
use Rattle.ram_text.specs.ScriptWords.{words_of, without_return}
use Rattle.ram_text.specs.MirrorScript.{IsMirrorForm, MirrorReads}
use Rattle.ram_text.specs.declared.mirror.MirrorLine.{MirrorLine}
use Rattle.ram_text.specs.declared.mirror.MirrorLine.TheVariants as lines
use Rattle.ram_machine.specs.declared.status.Status.{Status}
use Rattle.ram_machine.specs.declared.status.Status.TheVariants as statuses
use Rattle.ram_machine.specs.declared.stopped.Stopped.TheVariants as stopped
use Rattle.ram_script.specs.RunCounts.{Counts}
use Rattle.ram_script.specs.Promise.{last_words}
use Rattle.ram_answers.specs.Texts as texts
use Rattle.ram_answers.specs.Texts.{AnsweredText, TakesUpTo}
use Rattle.ram_answers.specs.Reports.{Heard}
use Rattle.ram_pair.specs.declared.told.Told.{Told}
use Rattle.ram_pair.specs.declared.told.Told.TheVariants as told
use Rattle.ram_pair.specs.Told.{PairOutcome, image_failed}
use Rattle.ram_pair.specs.PairStates.{Mirrored, PairState, Unpaired, Paired}
use Rattle.ram_pair.specs.PairLines.{CallRule}
use Rattle.ram_pair.specs.PairSteps.{IsImageFailure, MirrorStep, OnMirror, PairStep}
use Rattle.ram_pair.specs.PairTexts.{told_text, is_answer, IsPairStep, PairRun}
use Rattle.model_geometry.specs.Geometry.{shape_in}
use Rattle.model_geometry.specs.declared.kinds.LayoutKind.TheVariants.{OneGroup}
use Rattle.ram_mirrored.specs.MirrorRuns.{MirrorBeginning, MirrorSoFar, MirrorToldWith, MirrorStandsWith}
use Rattle.ram_mirrored.specs.MirrorRegister.{MirrorRegister, OnLine, MirrorTurn, MirrorTurns, MirrorAnswered}
use Rattle.ram_mirrored.specs.MirrorPromise.{IsMirrorRead, answered_text, texts_of, KeepsPair}
use Rattle.ram_mirrored.proofs.MirrorSectors.{MatchesMirror, Turned}
use Rattle.ram_mirrored.proofs.MirrorCalls.{read_called, write_called, format_called, resync_called}
use Rattle.ram_mirrored.proofs.MirrorPowered.{power_called, lead_called, give_called}
use Rattle.ram_mirrored.proofs.MirrorControls.{fail_called, wear_called, cut_called}
use Rattle.ram_mirrored.proofs.MirrorOpens.{MatchesPair, TurnedPair, opens, press_turn}

-- ---- what a line of the language sends
-- a write sends whole sectors
abbrev IsWhole : MirrorLine → List ℕ → Type 0
IsWhole (lines.Write lba n) payload = length payload ≡ 2048 * n
IsWhole _ payload = Unit {0}

written_whole : (lba n : ℕ) (words : List (List ℕ)) (payload : List ℕ) → IsMirrorForm (lines.Write lba n) words payload → length payload ≡ 2048 * n
written_whole lba n [] payload form = absurd form
written_whole lba n (a ∷ []) payload form = absurd form
written_whole lba n (a ∷ b ∷ []) payload form = absurd form
written_whole lba n (a ∷ b ∷ c ∷ []) payload form = absurd form
written_whole lba n (a ∷ b ∷ c ∷ d ∷ []) payload form = absurd form
written_whole lba n (a ∷ b ∷ c ∷ d ∷ e ∷ []) payload form = form.3.whole
written_whole lba n (a ∷ b ∷ c ∷ d ∷ e ∷ f ∷ words) payload form = absurd form

write_whole : (raw : List ℕ) (lba n : ℕ) (payload : List ℕ) → MirrorReads raw (lines.Write lba n) payload → length payload ≡ 2048 * n
write_whole raw lba n payload (inl comment) = absurd (let clash : lines.Write lba n ≡ lines.Empty = comment.nothing in cc)
write_whole raw lba n payload (inr other) = written_whole lba n (words_of (without_return raw)) payload other.form

is_whole : (raw : List ℕ) (line : MirrorLine) (payload : List ℕ) → MirrorReads raw line payload → IsWhole line payload
is_whole raw (lines.Write lba n) payload reads = write_whole raw lba n payload reads
is_whole raw _ payload reads = tt

-- ---- a line
module _ (at : ℕ) where
  call_turn : (s t : Mirrored) (r : MirrorRegister) (line : MirrorLine) (payload bytes : List ℕ) (event : MirrorEvent) → IsWhole line payload → ¬ IsImageFailure line event → MatchesMirror at s.shown r
      → CallRule s.shown t.shown line payload bytes event → Turned at t.shown (λ after. OnLine at r line payload event bytes after)
  call_turn s t r lines.Empty payload bytes event whole lost was rule = absurd rule
  call_turn s t r (lines.Press zones scale psa) payload bytes event whole lost was rule = absurd rule
  call_turn s t r lines.Power payload bytes event whole lost was rule = power_called at s.shown t.shown r was event rule
  call_turn s t r (lines.Read lba n) payload bytes event whole lost was rule = read_called at s.shown t.shown r was lba n bytes event rule
  call_turn s t r (lines.Write lba n) payload bytes event whole lost was rule = write_called at s.shown t.shown r was lba n payload whole event rule
  call_turn s t r lines.Format payload bytes event whole lost was rule = format_called at s.shown t.shown r was event rule
  call_turn s t r lines.Resync payload bytes event whole lost was rule = resync_called at s.shown t.shown r was event rule
  call_turn s t r lines.Lead payload bytes event whole lost was rule = lead_called at s.shown t.shown r was event rule
  call_turn s t r (lines.GiveLead to_a) payload bytes event whole lost was rule = give_called at s.shown t.shown r was to_a event rule
  call_turn s t r (lines.Fail on_a block) payload bytes event whole lost was rule =
      fail_called at s.shown t.shown r was on_a block event (λ is. lost (subst (IsImageFailure (lines.Fail on_a block)) (sym is) tt)) rule
  call_turn s t r (lines.Wear on_a block n) payload bytes event whole lost was rule = wear_called at s.shown t.shown r was on_a block n event rule
  call_turn s t r (lines.Cut on_a n fate) payload bytes event whole lost was rule = cut_called at s.shown t.shown r was on_a n fate event rule

  same_told : (one other : Told) → ◌≡◌ {A = PairOutcome} (Ok one) (Ok other) → one ≡ other
  same_told one other is = cc

  not_stopped : (one : Told) → Ok one ≡ image_failed → ⊥
  not_stopped one is = cc

  -- what was called is what was told
  outcome_of : (s t : Mirrored) (r : MirrorRegister) (line : MirrorLine) (payload bytes : List ℕ) (reply : Told) → IsWhole line payload → MatchesMirror at s.shown r
      → (step : MirrorStep s t line payload (Ok reply) bytes) → Turned at t.shown (λ after. MirrorTurn at r line payload reply bytes after)
  outcome_of s t r line payload bytes reply whole was step = elim step.ends [
    | inl done ↦
        let is : reply ≡ told.Event step.called = same_told reply (told.Event step.called) done.1 in
        subst (λ (x : Told). Turned at t.shown (λ after. MirrorTurn at r line payload x bytes after)) (sym is)
        (call_turn s t r line payload bytes step.called whole (λ lost. not_stopped reply (step.lost lost)) was step.rule)
    | inr failed ↦ absurd (not_stopped reply failed.1)
  ]

  mirror_turn : (s t : PairState) (r : MirrorRegister) (line : MirrorLine) (payload bytes : List ℕ) (reply : Told) → IsWhole line payload → MatchesPair at s r
      → OnMirror s line payload (Ok reply) bytes t → TurnedPair at t (λ after. MirrorTurn at r line payload reply bytes after)
  mirror_turn (Unpaired images) t r line payload bytes reply whole was step = absurd (let clash : Ok reply ≡ Err stopped.NotADisc = step.0 in cc)
  mirror_turn (Paired s) (Unpaired images) r line payload bytes reply whole was step = absurd step
  mirror_turn (Paired s) (Paired t) r line payload bytes reply whole was step =
      let turned = outcome_of s t r line payload bytes reply whole was step in
      record { after = turned.after; rule = turned.rule; matches = turned.matches }

  empty_turn : (s t : PairState) (r : MirrorRegister) (payload bytes : List ℕ) (reply : Told) → MatchesPair at s r → ◌≡◌ {A = PairOutcome} (Ok reply) (Ok told.Nothing) → t ≡ s → TurnedPair at t (λ after. MirrorTurn at r lines.Empty payload reply bytes after)
  empty_turn s t r payload bytes reply was is same = record {
    after = r;
    rule = subst (λ (x : Told). MirrorTurn at r lines.Empty payload x bytes r) (sym (same_told reply told.Nothing is)) (refl, refl);
    matches = subst (λ (x : PairState). MatchesPair at x r) (sym same) was;
  }

  pressed_turn : (s t : PairState) (r : MirrorRegister) (zones scale psa : ℕ) (payload bytes : List ℕ) (reply : Told) → MatchesPair at s r → PairStep s (lines.Press zones scale psa) payload (Ok reply) bytes t
      → TurnedPair at t (λ after. MirrorTurn at r (lines.Press zones scale psa) payload reply bytes after)
  pressed_turn s t r zones scale psa payload bytes told.Nothing was step = absurd step
  pressed_turn s t r zones scale psa payload bytes (told.Event event) was step = press_turn at s t r (shape_in OneGroup zones scale psa) event step was

  line_turn : (s t : PairState) (r : MirrorRegister) (line : MirrorLine) (payload bytes : List ℕ) (reply : Told) → IsWhole line payload → MatchesPair at s r
      → PairStep s line payload (Ok reply) bytes t → TurnedPair at t (λ after. MirrorTurn at r line payload reply bytes after)
  line_turn s t r lines.Empty payload bytes reply whole was step = empty_turn s t r payload bytes reply was step.0 step.1
  line_turn s t r (lines.Press zones scale psa) payload bytes reply whole was step = pressed_turn s t r zones scale psa payload bytes reply was step
  line_turn s t r lines.Power payload bytes reply whole was step = mirror_turn s t r lines.Power payload bytes reply whole was step
  line_turn s t r lines.Format payload bytes reply whole was step = mirror_turn s t r lines.Format payload bytes reply whole was step
  line_turn s t r (lines.Read lba n) payload bytes reply whole was step = mirror_turn s t r (lines.Read lba n) payload bytes reply whole was step
  line_turn s t r (lines.Write lba n) payload bytes reply whole was step = mirror_turn s t r (lines.Write lba n) payload bytes reply whole was step
  line_turn s t r lines.Resync payload bytes reply whole was step = mirror_turn s t r lines.Resync payload bytes reply whole was step
  line_turn s t r lines.Lead payload bytes reply whole was step = mirror_turn s t r lines.Lead payload bytes reply whole was step
  line_turn s t r (lines.GiveLead to_a) payload bytes reply whole was step = mirror_turn s t r (lines.GiveLead to_a) payload bytes reply whole was step
  line_turn s t r (lines.Fail on_a block) payload bytes reply whole was step = mirror_turn s t r (lines.Fail on_a block) payload bytes reply whole was step
  line_turn s t r (lines.Wear on_a block n) payload bytes reply whole was step = mirror_turn s t r (lines.Wear on_a block n) payload bytes reply whole was step
  line_turn s t r (lines.Cut on_a n fate) payload bytes reply whole was step = mirror_turn s t r (lines.Cut on_a n fate) payload bytes reply whole was step

-- ---- the lines of a run, with what they say
abbrev answer_of : (before : PairState) (number : ℕ) (event : AnsweredText) (after : PairState) → IsPairStep before number event after → MirrorAnswered
answer_of before number event after step = record { raw = event.raw; line = step.step.line; payload = step.step.payload; told = step.told; bytes = step.bytes }

abbrev answers_of : (first last : PairState) (events : List AnsweredText) → PairRun first events last → List MirrorAnswered
answers_of first last [] run = []
answers_of first last (event ∷ events) run = answer_of run.0 (length events + 1) event last run.2 ∷ answers_of first run.0 events run.1

as_many : (first last : PairState) (events : List AnsweredText) (run : PairRun first events last) → length (answers_of first last events run) ≡ length events
as_many first last [] run = refl
as_many first last (event ∷ events) run = ap suc (as_many first run.0 events run.1)

same_text : (event : AnsweredText) (answers : ℕ) (text : List ℕ) → event.text ≡ text → event.answers ≡ answers → record { raw = event.raw; answers = answers; text = text } ≡ event
same_text event answers text is are =
    ap (λ (n : ℕ). record { raw = event.raw; answers = n; text = text }) (sym are)
    ∙ ap (λ (t : List ℕ). record { raw = event.raw; answers = event.answers; text = t }) (sym is)

as_told : (first last : PairState) (events : List AnsweredText) (run : PairRun first events last) → texts_of (answers_of first last events run) ≡ events
as_told first last [] run = refl
as_told first last (event ∷ events) run =
    let more : List MirrorAnswered = answers_of first run.0 events run.1 in
    let own : MirrorAnswered = answer_of run.0 (length events + 1) event last run.2 in
    ap (λ (n : ℕ). answered_text (n + 1) own ∷ texts_of more) (as_many first run.0 events run.1)
    ∙ ap (λ (l : List AnsweredText). answered_text (length events + 1) own ∷ l) (as_told first run.0 events run.1)
    ∙ ap (λ (e : AnsweredText). e ∷ events) (same_text event (if is_answer run.2.told then 1 else 0) (told_text (length events + 1) run.2.told run.2.bytes) run.2.text_is run.2.answers_are)

all_read : (first last : PairState) (events : List AnsweredText) (run : PairRun first events last) → All IsMirrorRead (answers_of first last events run)
all_read first last [] run = All-nil IsMirrorRead
all_read first last (event ∷ events) run =
    All-cons IsMirrorRead (answer_of run.0 (length events + 1) event last run.2) (answers_of first run.0 events run.1)
    (record { line = run.2.line; reads = run.2.step.reads }) (all_read first run.0 events run.1)

module _ (at : ℕ) where
  run_turns : (first last : PairState) (events : List AnsweredText) (run : PairRun first events last) (r : MirrorRegister) → MatchesPair at first r
      → TurnedPair at last (λ after. MirrorTurns at r (answers_of first last events run) after)
  run_turns first last [] run r was = record { after = r; rule = refl; matches = subst (λ (x : PairState). MatchesPair at x r) (sym run) was }
  run_turns first last (event ∷ events) run r was =
      let before = run_turns first run.0 events run.1 r was in
      let step = run.2.step in
      let turned = line_turn at run.0 last before.after step.line step.payload run.2.bytes run.2.told (is_whole event.raw step.line step.payload step.reads) before.matches step.step in
      record { after = turned.after; rule = (before.after, before.rule, turned.rule); matches = turned.matches }

-- ---- what stands with each status
module _ (first : MirrorBeginning) where
  abbrev Keeps : Option (List ℕ) → Type 0
  Keeps written = KeepsPair first.script first.report first.images written

  so_far : (far : MirrorSoFar first) (written : Option (List ℕ)) (bytes more : List ℕ) (last : Option LastLine) → written ≡ Some bytes
      → bytes ++ more ≡ first.report ++ (texts.told_text far.events ++ last_words last) → Keeps written
  so_far far written bytes more last is prefix =
      let same = as_told far.start far.now far.events far.run in
      record {
        events = answers_of far.start far.now far.events far.run;
        rest = far.rest;
        lines = subst (λ (l : List AnsweredText). TakesUpTo first.script l far.rest) (sym same) far.lines;
        reads = all_read far.start far.now far.events far.run;
        registers = λ at.
            let opened = opens at first.images far.start far.begins in
            let turned = run_turns at far.start far.now far.events far.run opened.register opened.matches in
            record { first = opened.register; last = turned.after; opened = opened.opened; turns = turned.rule };
        bytes = bytes;
        more = more;
        last = last;
        written_is = is;
        prefix = prefix ∙ ap (λ (l : List AnsweredText). first.report ++ (texts.told_text l ++ last_words last)) (sym same);
      }

  -- a whole report
  whole : (heard : Heard) (far : MirrorSoFar first) (last : LastLine) → heard.written ≡ Some ((first.report ++ texts.told_text far.events) ++ last_text last) → Keeps heard.written
  whole heard far last is =
      so_far far heard.written ((first.report ++ texts.told_text far.events) ++ last_text last) [] (Some last) is
      (append-nil ((first.report ++ texts.told_text far.events) ++ last_text last) ∙ append_assoc first.report (texts.told_text far.events) (last_text last))

  -- the answers so far
  reported : (heard : Heard) (far : MirrorSoFar first) → heard.written ≡ Some (first.report ++ texts.told_text far.events) → Keeps heard.written
  reported heard far is =
      so_far far heard.written (first.report ++ texts.told_text far.events) [] None is
      (append-nil (first.report ++ texts.told_text far.events) ∙ sym (ap (λ (l : List ℕ). first.report ++ l) (append-nil (texts.told_text far.events))))

  -- nothing was done
  not_begun : (heard : Heard) → heard.written ≡ Some first.report → Keeps heard.written
  not_begun heard is = record {
    events = [];
    rest = first.script;
    lines = inl refl;
    reads = All-nil IsMirrorRead;
    registers = λ at.
        let begins : MirrorRegister = record { now = None; falls = []; led = false } in
        record { first = begins; last = begins; opened = record { off = refl; held = λ value has. absurd (Contains-none value has); unled = refl }; turns = refl };
    bytes = first.report;
    more = [];
    last = None;
    written_is = is;
    prefix = refl;
  }

  told_promised : (heard : Heard) (after : PairState) (old new : Counts) (status : Status) → MirrorToldWith first heard after old new status → Keeps heard.written
  told_promised heard after old new statuses.Done stands = whole heard stands.1.far (lasts.End stands.0) stands.1.written_is
  told_promised heard after old new statuses.Script stands = whole heard stands.2.far stands.0 stands.2.written_is
  told_promised heard after old new statuses.NotADisc stands = whole heard stands.1.far (lasts.NotADisc stands.0) stands.1.written_is
  told_promised heard after old new statuses.ImageFault stands = reported heard stands.far stands.written_is
  told_promised heard after old new statuses.SourceFault stands = reported heard stands.far stands.written_is
  told_promised heard after old new statuses.SinkFault stands = elim stands.told.prefix [
    | inl is ↦ so_far stands.far heard.written stands.told.bytes stands.told.more None stands.told.written_is (is ∙ sym (ap (λ (l : List ℕ). first.report ++ l) (append-nil (texts.told_text stands.far.events))))
    | inr (last, left, tells, is) ↦ so_far stands.far heard.written stands.told.bytes stands.told.more (Some last) stands.told.written_is (is ∙ append_assoc first.report (texts.told_text stands.far.events) (last_text last))
  ]
  told_promised heard after old new statuses.Differs stands = absurd stands
  told_promised heard after old new statuses.Usage stands = absurd stands
  told_promised heard after old new statuses.NoMemory stands = absurd stands

-- Whatever status a run has, it keeps the promise.
pub mirror_promised : (first : MirrorBeginning) (heard : Heard) (a b : Option (List ℕ)) (old new : Counts) (status : Status) → MirrorStandsWith first heard a b old new status
    → KeepsPair first.script first.report first.images heard.written
mirror_promised first heard a b old new statuses.ImageFault (inl never) = not_begun first heard never.written_is
mirror_promised first heard a b old new statuses.ImageFault (inr ends) = told_promised first heard ends.after old new statuses.ImageFault ends.told
mirror_promised first heard a b old new statuses.Done ends = told_promised first heard ends.after old new statuses.Done ends.told
mirror_promised first heard a b old new statuses.Script ends = told_promised first heard ends.after old new statuses.Script ends.told
mirror_promised first heard a b old new statuses.NotADisc ends = told_promised first heard ends.after old new statuses.NotADisc ends.told
mirror_promised first heard a b old new statuses.SourceFault ends = told_promised first heard ends.after old new statuses.SourceFault ends.told
mirror_promised first heard a b old new statuses.SinkFault ends = told_promised first heard ends.after old new statuses.SinkFault ends.told
mirror_promised first heard a b old new statuses.Differs ends = told_promised first heard ends.after old new statuses.Differs ends.told
mirror_promised first heard a b old new statuses.Usage ends = told_promised first heard ends.after old new statuses.Usage ends.told
mirror_promised first heard a b old new statuses.NoMemory ends = told_promised first heard ends.after old new statuses.NoMemory ends.told

-- Nothing was written, and no line was answered: where not both images were opened.
pub unopened_promised : (first : MirrorBeginning) (heard : Heard) → heard.written ≡ Some first.report → KeepsPair first.script first.report first.images heard.written
unopened_promised first heard is = not_begun first heard is
