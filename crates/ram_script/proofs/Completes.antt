-- Why a run comes to its end: what else it might have left does not agree with its script, its image and the counts.
use Rattle.std.specs.Prelude.{◌≡◌, ℕ, ◌+◌, ◌<◌, ◌⊎◌, Ok, Err, List, [], ◌∷◌, ◌++◌, length, take}
use Rattle.std.proofs.Common.{zero, suc, arith, refl, sym, ap, ◌∙◌, inl, inr, subst, append_assoc, length-append}
use Rattle.model_geometry.specs.declared.kinds.LayoutKind.{LayoutKind}
use Rattle.model_geometry.specs.Geometry.{Shape, IsLawful, shape_in}
use Rattle.ram_text.specs.Lines.{line_feed, HasNoFeed}
use Rattle.ram_text.specs.ScriptWords.{words_of, without_return}
use Rattle.ram_text.specs.Script.{IsForm, Reads}
use Rattle.ram_text.specs.declared.lines.TheConstants.{LINE_LIMIT}
use Rattle.ram_report.specs.declared.printing.Event.TheVariants as events
use Rattle.ram_report.specs.declared.printing.LastLine.{LastLine}
use Rattle.ram_report.specs.declared.printing.LastLine.TheVariants as lasts
use Rattle.ram_text.specs.declared.script.Line.{Line}
use Rattle.ram_text.specs.declared.script.Line.TheVariants as lines
use Rattle.ram_machine.specs.declared.reply.Reply.{Reply}
use Rattle.ram_machine.specs.declared.reply.Reply.TheVariants as replies
use Rattle.ram_machine.specs.declared.stopped.Stopped.TheVariants as stopped
use Rattle.ram_machine.specs.declared.status.Status.{Status}
use Rattle.ram_machine.specs.declared.status.Status.TheVariants as statuses
use Rattle.ram_script.specs.NextLines.{IsNextLine, ComesNext}
use Rattle.ram_machine.specs.Replies.{Outcome}
use Rattle.ram_machine.specs.States.{BareImage, State, Served, Unopened, Disc, kind_of, renewed, IsFirst, IsPressedDisc}
use Rattle.model_scrub.specs.Scrubs.{fresh}
use Rattle.ram_machine.specs.LineSteps.{PressStep, OnDisc, Step}
use Rattle.ram_script.specs.Answered.{AnsweredLine, Reaches, script_text}
use Rattle.ram_script.specs.Run.{IsLineStep, LineRun}
use Rattle.model_counts.specs.Counts.{Rose}
use Rattle.ram_script.specs.RunCounts.{Counts}
use Rattle.ram_script.specs.Progress.{Beginning, SoFar, IsLast}
use Rattle.ram_script.specs.Endings.{IsUnopened, IsOfScript, Aftermath, SinkRose, StandsWith, StatusCounts}
use Rattle.ram_machine.proofs.Answering.{distinct, disc_answers}
use Rattle.ram_script.specs.Completes.{BeginsLine, ReadsOn, IsInLanguage, lines_text, AreSilent, IsLawfulPress, BeginsWithPress, BeginsWithDisc, NoneRose, IsComplete}

-- a line feed within the front of a list
feed_within : (raw after : List ℕ) (n : ℕ) → length raw < n → HasNoFeed (take n (raw ++ (line_feed ∷ after))) → ⊥
feed_within raw after zero within clear = absurd (omega (arith, within))
feed_within [] after (suc n) within clear = clear 0 0 (omega arith) refl
feed_within (x ∷ raw) after (suc n) within clear = feed_within raw after n (omega (arith, within)) (λ k d below. clear (suc k) d (omega (arith, below)))

-- no line follows where nothing is left
nothing_follows : (rest raw : List ℕ) → rest ≡ [] → IsNextLine rest raw → ⊥
nothing_follows rest raw none next = parted next.parts
  where
    parted : (rest ≡ raw ++ (line_feed ∷ next.after)) ⊎ ((rest ≡ raw) × (0 < length raw) × (next.after ≡ [])) → ⊥
    parted (inl parts) = absurd (omega (arith, ap length (sym none ∙ parts), length-append raw (line_feed ∷ next.after)))
    parted (inr last) = absurd (omega (arith, ap length (sym none ∙ last.0), last.1))

-- what goes on passes no limit
within_limit : (rest : List ℕ) → (rest ≡ []) ⊎ ((raw : List ℕ) × IsNextLine rest raw) → LINE_LIMIT < length rest → HasNoFeed (take (LINE_LIMIT + 1) rest) → ⊥
within_limit rest (inl none) longer clear = absurd (omega (arith, ap length none, longer))
within_limit rest (inr found) longer clear = parted found.1.parts
  where
    parted : (rest ≡ found.0 ++ (line_feed ∷ found.1.after)) ⊎ ((rest ≡ found.0) × (0 < length found.0) × (found.1.after ≡ [])) → ⊥
    parted (inl parts) = feed_within found.0 found.1.after (LINE_LIMIT + 1) (omega (arith, found.1.line.short)) (subst (λ l. HasNoFeed (take (LINE_LIMIT + 1) l)) parts clear)
    parted (inr last) = absurd (omega (arith, ap length last.0, found.1.line.short, longer))

-- the lines that were answered end with a line feed
begins_line : (events : List AnsweredLine) → BeginsLine (script_text events)
begins_line [] = inl refl
begins_line (event ∷ events) = inr (script_text events ++ event.raw, sym (append_assoc (script_text events) event.raw (line_feed ∷ [])))

-- what follows the lines that were answered goes on
use_continues : (script rest : List ℕ) (events : List AnsweredLine) → IsInLanguage script → Reaches script events rest → ReadsOn rest
use_continues script rest events language (inl whole) = language.lines (script_text events) rest whole (begins_line events)
use_continues script rest events language (inr ended) = record { more = inl ended.0; reads = λ raw next. absurd (nothing_follows rest raw ended.0 next) }

-- in a script in the language no last line tells what is wrong with it
well_spelled : (first : Beginning) (far : SoFar first) (last : LastLine) → IsInLanguage first.script → IsOfScript last → IsLast far last → ⊥
well_spelled first far (lasts.End answered) language of_script is = of_script
well_spelled first far (lasts.NotInLanguage line) language of_script is =
    let read = (use_continues first.script far.rest far.events language far.lines).reads is.0.raw is.0.comes.next in is.0.nothing read.0 read.1 read.2
well_spelled first far (lasts.LineTooLong line) language of_script is =
    within_limit far.rest (use_continues first.script far.rest far.events language far.lines).more is.0.longer is.0.open_line
well_spelled first far lasts.ScriptTooLong language of_script is = absurd (omega (arith, language.short, is.longer))
well_spelled first far (lasts.NotADisc line) language of_script is = of_script

-- a disc that was pressed is there
pressed_disc : (shape : Shape) (t : State) → IsPressedDisc shape t → (disc : Served) × (t ≡ Disc disc)
pressed_disc shape (Unopened bytes) pressed = absurd pressed
pressed_disc shape (Disc disc) pressed = (disc, refl)

-- a press that is told of leaves a disc, or what was there where there is no such geometry, with nothing found by a scrub
press_leaves : (s t : State) (shape : Shape) (reply : Reply) → PressStep s shape (Ok reply) t → ((disc : Served) × (t ≡ Disc disc)) ⊎ (¬ IsLawful shape × (t ≡ renewed s))
press_leaves s t shape (replies.Event events.Pressed) step = inl (pressed_disc shape t step.1)
press_leaves s t shape (replies.Event events.NotPressed) step = inr step
press_leaves s t shape _ step = absurd step

-- what is done on a disc leaves one
on_disc_leaves : (s : Served) (line : Line) (payload : List ℕ) (outcome : Outcome) (data_in : List ℕ) (t : State) → OnDisc (Disc s) line payload outcome data_in t → (disc : Served) × (t ≡ Disc disc)
on_disc_leaves s line payload outcome data_in (Unopened bytes) on = absurd on
on_disc_leaves s line payload outcome data_in (Disc disc) on = (disc, refl)

-- a line that has a reply leaves a disc where there was one
stays_disc : (s : Served) (line : Line) (payload : List ℕ) (reply : Reply) (data_in : List ℕ) (t : State) → Step (Disc s) line payload (Ok reply) data_in t → (disc : Served) × (t ≡ Disc disc)
stays_disc s lines.Empty payload reply data_in t step = (s, step.2)
stays_disc s (lines.Press zones scale psa) payload reply data_in t step =
    elim (press_leaves (Disc s) t (shape_in (kind_of (Disc s)) zones scale psa) reply step.0) [
      | inl disc ↦ disc
      | inr kept ↦ (record s { scrub = fresh }, kept.1)
    ]
stays_disc s line payload reply data_in t step = on_disc_leaves s line payload (Ok reply) data_in t step

-- a run leaves a disc where there was one
run_leaves : (s : Served) (events : List AnsweredLine) (now : State) → LineRun (Disc s) events now → (disc : Served) × (now ≡ Disc disc)
run_leaves s [] now run = (s, run)
run_leaves s (event ∷ events) now run =
    let before = run_leaves s events run.0 run.1 in
    stays_disc before.0 event.step.line event.step.payload event.step.reply event.step.data_in now (subst (λ x. Step x event.step.line event.step.payload (Ok event.step.reply) event.step.data_in now) before.1 run.2.step)

-- a line that says nothing has no data
empty_form : (words : List (List ℕ)) (payload : List ℕ) → IsForm words lines.Empty payload → payload ≡ []
empty_form [] payload form = form
empty_form (a ∷ []) payload form = absurd form
empty_form (a ∷ b ∷ []) payload form = absurd form
empty_form (a ∷ b ∷ c ∷ []) payload form = absurd form
empty_form (a ∷ b ∷ c ∷ d ∷ []) payload form = absurd form
empty_form (a ∷ b ∷ c ∷ d ∷ e ∷ words) payload form = absurd form

empty_payload : (raw payload : List ℕ) → Reads raw lines.Empty payload → payload ≡ []
empty_payload raw payload (inl comment) = comment.no_payload
empty_payload raw payload (inr other) = empty_form (words_of (without_return raw)) payload other.form

-- the bytes of the lines that were answered, the newest of which comes first
abbrev raws_of : List AnsweredLine → List (List ℕ)
raws_of [] = []
raws_of (event ∷ events) = event.raw ∷ raws_of events

same_text : (events : List AnsweredLine) → script_text events ≡ lines_text (raws_of events)
same_text [] = refl
same_text (event ∷ events) = ap (λ text. text ++ (event.raw ++ line_feed ∷ [])) (same_text events)

-- the line needs a disc
abbrev NeedsDisc : Line → Type 0
NeedsDisc lines.Empty = ⊥
NeedsDisc (lines.Press zones scale psa) = ⊥
NeedsDisc _ = Unit {0}

-- such a line says something, and presses none
needs_none : (kind : LayoutKind) (line : Line) → NeedsDisc line → (line ≡ lines.Empty) ⊎ IsLawfulPress kind line → ⊥
needs_none kind line needs (inl empty) = subst NeedsDisc empty needs
needs_none kind lines.Empty needs (inr press) = needs
needs_none kind (lines.Press zones scale psa) needs (inr press) = needs
needs_none kind _ needs (inr press) = press

-- a press says something
press_speaks : (zones scale psa : ℕ) → lines.Press zones scale psa ≡ lines.Empty → ⊥
press_speaks zones scale psa same = cc

module _ (image : BareImage) (script : List ℕ) (press : BeginsWithPress image.kind script) where
  -- what a line that is the first to be answered, or says nothing, leaves of an image that is no disc's
  first_leaves : (line : Line) (raw payload : List ℕ) (reply : Reply) (data_in : List ℕ) (now : State) → Step (Unopened image) line payload (Ok reply) data_in now → Reads raw line payload
      → (line ≡ lines.Empty) ⊎ IsLawfulPress image.kind line → ((disc : Served) × (now ≡ Disc disc)) ⊎ ((now ≡ Unopened image) × Reads raw lines.Empty [])
  first_leaves lines.Empty raw payload reply data_in now step reads is = inr (step.2, subst (Reads raw lines.Empty) (empty_payload raw payload reads) reads)
  first_leaves (lines.Press zones scale psa) raw payload reply data_in now step reads (inl empty) = absurd (press_speaks zones scale psa empty)
  first_leaves (lines.Press zones scale psa) raw payload reply data_in now step reads (inr lawful) =
      elim (press_leaves (Unopened image) now (shape_in image.kind zones scale psa) reply step.0) [
        | inl disc ↦ inl disc
        | inr kept ↦ absurd (kept.0 lawful)
      ]
  first_leaves lines.Power raw payload reply data_in now step reads is = absurd (needs_none image.kind lines.Power tt is)
  first_leaves (lines.Fail block) raw payload reply data_in now step reads is = absurd (needs_none image.kind (lines.Fail block) tt is)
  first_leaves (lines.Wear block n) raw payload reply data_in now step reads is = absurd (needs_none image.kind (lines.Wear block n) tt is)
  first_leaves (lines.Cut n fate) raw payload reply data_in now step reads is = absurd (needs_none image.kind (lines.Cut n fate) tt is)
  first_leaves lines.Tick raw payload reply data_in now step reads is = absurd (needs_none image.kind lines.Tick tt is)
  first_leaves (lines.Scrub all) raw payload reply data_in now step reads is = absurd (needs_none image.kind (lines.Scrub all) tt is)
  first_leaves (lines.Command cdb) raw payload reply data_in now step reads is = absurd (needs_none image.kind (lines.Command cdb) tt is)

  -- a line after silent ones says nothing, or is that press
  after_silent : (events : List AnsweredLine) (rest raw : List ℕ) (line : Line) (payload : List ℕ) → AreSilent (raws_of events) → script ≡ script_text events ++ rest
      → IsNextLine rest raw → Reads raw line payload → (line ≡ lines.Empty) ⊎ IsLawfulPress image.kind line
  after_silent events rest raw line payload silent whole next reads =
      press (raws_of events) rest raw line payload silent (whole ∙ ap (λ text. text ++ rest) (same_text events)) next reads

  -- one event more
  continues_silent : (event : AnsweredLine) (events : List AnsweredLine) (rest : List ℕ) (before now : State) → IsLineStep before event now → script ≡ script_text events ++ ((event.raw ++ line_feed ∷ []) ++ rest)
      → ((disc : Served) × (before ≡ Disc disc)) ⊎ ((before ≡ Unopened image) × AreSilent (raws_of events))
      → ((disc : Served) × (now ≡ Disc disc)) ⊎ ((now ≡ Unopened image) × AreSilent (raws_of (event ∷ events)))
  continues_silent event events rest before now step whole (inl disc) =
      inl (stays_disc disc.0 event.step.line event.step.payload event.step.reply event.step.data_in now (subst (λ x. Step x event.step.line event.step.payload (Ok event.step.reply) event.step.data_in now) disc.1 step.step))
  continues_silent event events rest before now step whole (inr silent) =
      elim (
      first_leaves event.step.line event.raw event.step.payload event.step.reply event.step.data_in now
      (subst (λ x. Step x event.step.line event.step.payload (Ok event.step.reply) event.step.data_in now) silent.0 step.step) step.read.reads
      (after_silent events ((event.raw ++ line_feed ∷ []) ++ rest) event.raw event.step.line event.step.payload silent.1 whole
      (record { line = step.read.line; after = rest; parts = inl (append_assoc event.raw (line_feed ∷ []) rest) }) step.read.reads)
      ) [
        | inl disc ↦ inl disc
        | inr empty ↦ inr (empty.0, (silent.1, step.read.line, empty.1))
      ]

  -- there is a disc, or all lines so far say nothing
  silent_so_far : (events : List AnsweredLine) (rest : List ℕ) (now : State) → LineRun (Unopened image) events now → script ≡ script_text events ++ rest
      → ((disc : Served) × (now ≡ Disc disc)) ⊎ ((now ≡ Unopened image) × AreSilent (raws_of events))
  silent_so_far [] rest now run whole = inr (run, tt)
  silent_so_far (event ∷ events) rest now run whole =
      let parts : script ≡ script_text events ++ ((event.raw ++ line_feed ∷ []) ++ rest) = whole ∙ append_assoc (script_text events) (event.raw ++ line_feed ∷ []) rest in
      continues_silent event events rest run.0 now run.2 parts (silent_so_far events ((event.raw ++ line_feed ∷ []) ++ rest) run.0 run.1 parts)

  -- a line that says nothing, or is that press, lacks no disc
  first_answers : (line : Line) (payload data_in : List ℕ) (t : State) → Step (Unopened image) line payload (Err stopped.NotADisc) data_in t → (line ≡ lines.Empty) ⊎ IsLawfulPress image.kind line → ⊥
  first_answers lines.Empty payload data_in t step is = distinct replies.Nothing step.0
  first_answers (lines.Press zones scale psa) payload data_in t step is = step.0
  first_answers lines.Power payload data_in t step is = needs_none image.kind lines.Power tt is
  first_answers (lines.Fail block) payload data_in t step is = needs_none image.kind (lines.Fail block) tt is
  first_answers (lines.Wear block n) payload data_in t step is = needs_none image.kind (lines.Wear block n) tt is
  first_answers (lines.Cut n fate) payload data_in t step is = needs_none image.kind (lines.Cut n fate) tt is
  first_answers lines.Tick payload data_in t step is = needs_none image.kind lines.Tick tt is
  first_answers (lines.Scrub all) payload data_in t step is = needs_none image.kind (lines.Scrub all) tt is
  first_answers (lines.Command cdb) payload data_in t step is = needs_none image.kind (lines.Command cdb) tt is

  -- no line lacks a disc
  lacks_none : (events : List AnsweredLine) (rest : List ℕ) (now : State) (line : Line) (payload data_in : List ℕ) (t : State) → LineRun (Unopened image) events now → Reaches script events rest
      → ComesNext script rest line payload → Step now line payload (Err stopped.NotADisc) data_in t → ⊥
  lacks_none events rest now line payload data_in t run (inr ended) next step = nothing_follows rest next.raw ended.0 next.comes.next
  lacks_none events rest now line payload data_in t run (inl whole) next step =
      elim (silent_so_far events rest now run whole) [
        | inl disc ↦ disc_answers disc.0 line payload data_in t (subst (λ x. Step x line payload (Err stopped.NotADisc) data_in t) disc.1 step)
        | inr silent ↦
            first_answers line payload data_in t (subst (λ x. Step x line payload (Err stopped.NotADisc) data_in t) silent.0 step)
            (after_silent events rest next.raw line payload silent.1 whole next.comes.next next.reads)
      ]

-- where the run begins with a disc, or with the press of one, no line lacks a disc
has_disc : (first : Beginning) → BeginsWithDisc first → (start : State) → IsFirst first.image start → kind_of start ≡ first.kind → (events : List AnsweredLine) (rest : List ℕ) (now : State) (line : Line) (payload data_in : List ℕ) (t : State)
    → LineRun start events now → Reaches first.script events rest → ComesNext first.script rest line payload → Step now line payload (Err stopped.NotADisc) data_in t → ⊥
has_disc first begins (Disc s) starts kind events rest now line payload data_in t run lines next step =
    let disc = run_leaves s events now run in disc_answers disc.0 line payload data_in t (subst (λ x. Step x line payload (Err stopped.NotADisc) data_in t) disc.1 step)
has_disc first (inl disc) (Unopened image) starts kind events rest now line payload data_in t run lines next step = starts.1 disc.0 (disc.1 ∙ sym kind) disc.2
has_disc first (inr press) (Unopened image) starts kind events rest now line payload data_in t run lines next step =
    lacks_none image first.script (subst (λ (k : LayoutKind). BeginsWithPress k first.script) (sym kind) press) events rest now line payload data_in t run lines next step

-- so no last line tells that one does
never_lacks : (first : Beginning) → BeginsWithDisc first → (far : SoFar first) (line : ℕ) → IsLast far (lasts.NotADisc line) → ⊥
never_lacks first begins far line is =
    let found = is.0 in has_disc first begins far.start far.starts far.kind_is far.events far.rest far.now found.0 found.1 found.2 found.3 far.run far.lines found.4 found.5

-- the sink failed, whatever failed before it
sink_failed : (before after : Counts) → SinkRose before after → Rose before.sink after.sink
sink_failed before after (inl alone) = omega (arith, alone.sink)
sink_failed before after (inr (inl source)) = omega (arith, source.sink)
sink_failed before after (inr (inr image)) = omega (arith, image.sink)

module _ (first : Beginning) (language : IsInLanguage first.script) (begins : BeginsWithDisc first) (before after : Counts) (none : NoneRose before after) where
  comes_to_its_end : (aftermath : Aftermath) (status : Status) → StatusCounts before after status → StandsWith first aftermath before after status → IsComplete status
  comes_to_its_end aftermath statuses.Done counts leaves = refl
  comes_to_its_end aftermath statuses.Differs counts leaves = absurd leaves
  comes_to_its_end aftermath statuses.Usage counts leaves = absurd leaves
  comes_to_its_end aftermath statuses.Script counts leaves = absurd (well_spelled first leaves.2.far leaves.0 language leaves.1 leaves.2.last_is)
  comes_to_its_end aftermath statuses.NotADisc counts leaves = absurd (never_lacks first begins leaves.1.far leaves.0 leaves.1.last_is)
  comes_to_its_end aftermath statuses.SourceFault counts leaves = absurd (none.source counts.source)
  comes_to_its_end aftermath statuses.SinkFault counts leaves = absurd (none.sink (sink_failed before after counts))
  comes_to_its_end aftermath statuses.ImageFault counts leaves = absurd (none.image counts.image)
  comes_to_its_end aftermath statuses.NoMemory counts leaves = absurd leaves

  unopened : (status : Status) → StatusCounts before after status → IsUnopened status → IsComplete status
  unopened status counts un = absurd (none.image (subst (StatusCounts before after) un counts).image)

-- such a run comes to its end
pub completes : (first : Beginning) → IsInLanguage first.script → BeginsWithDisc first → (before after : Counts) → NoneRose before after
    → (aftermath : Aftermath) (untouched : Type 0) (status : Status) → StatusCounts before after status → StandsWith first aftermath before after status ⊎ (IsUnopened status × untouched) → IsComplete status
completes first language begins before after none aftermath untouched status counts (inl stands) = comes_to_its_end first language begins before after none aftermath status counts stands
completes first language begins before after none aftermath untouched status counts (inr un) = unopened first language begins before after none status counts un.0
