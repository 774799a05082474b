-- What stands over the values of a pair stands over the states that these stand for.
use Rattle.std.specs.Prelude.{◌≡◌, ℕ, Bool, if◌then◌else◌, Ok, Err, Option, List}
use Rattle.std.proofs.Common.{refl, sym, ap, ◌∙◌, subst, inr}
use Rattle.ram_outside.specs.Conversation.{Asked, AsksOnly}
use Rattle.ram_outside.specs.declared.image.Image.{Ghosts as Images}
use Rattle.ram_outside.proofs.Additions.{added_mapped}
use Rattle.ram_side.specs.declared.side.Side.{Ghosts as Sides}
use Rattle.ram_sectors.specs.declared.Sectors.{Ghosts as Drives}
use Rattle.ram_machine.specs.declared.stopped.Stopped.{Stopped}
use Rattle.ram_machine.specs.declared.status.Status.{Status}
use Rattle.ram_script.specs.RunCounts.{Counts}
use Rattle.ram_answers.specs.declared.answers.Answers.{Ghosts as Answerers}
use Rattle.ram_answers.specs.Texts.{AnsweredText}
use Rattle.ram_answers.specs.TextRuns.{TextBeginning, IsTextStep}
use Rattle.ram_answers.specs.TextAsks.{IsToldBy}
use Rattle.ram_answers.specs.Reports.{Heard}
use Rattle.ram_answers.specs.Telling.{StopsAnswering, TextsToldWith, HearsBeginning}
use Rattle.ram_answers.proofs.States.{followed}
use Rattle.ram_answers.proofs.Simulated.{told_as}
use Rattle.ram_pair.specs.declared.pair.Pair.{Pair}
use Rattle.ram_pair.specs.declared.told.Told.{Told}
use Rattle.ram_pair.specs.Told.{PairOutcome}
use Rattle.ram_pair.specs.PairStates.{PairState, IsFirstPair}
use Rattle.ram_pair.specs.Pairs.{HeldAs, PairAnswers, LeavesPair}
use Rattle.ram_pair.specs.PairTexts.{IsPairStep, told_text, is_answer}
use Rattle.ram_machine.specs.declared.status.Status.TheVariants as statuses
use Rattle.ram_mirrored.specs.MirrorRuns.{MirrorBeginning, StopsPair, MirrorToldWith, IsMirrorToldBy, EndsMirror, MirrorStandsWith}
use Rattle.ram_mirrored.specs.Running.{IsMirrorBeginning}

-- a run that ended with the lines stands as its status says
ended : (first : MirrorBeginning) (heard : Heard) (a b : Option (List ℕ)) (old new : Counts) (status : Status) → EndsMirror first heard a b old new status
    → MirrorStandsWith first heard a b old new status
ended first heard a b old new statuses.ImageFault ends = inr ends
ended first heard a b old new statuses.Done ends = ends
ended first heard a b old new statuses.Differs ends = ends
ended first heard a b old new statuses.Usage ends = ends
ended first heard a b old new statuses.Script ends = ends
ended first heard a b old new statuses.SourceFault ends = ends
ended first heard a b old new statuses.SinkFault ends = ends
ended first heard a b old new statuses.NoMemory ends = ends
ended first heard a b old new statuses.NotADisc ends = ends

-- the same by other names
pub renamed : (first : MirrorBeginning) (heard heard' : Heard) (a b : Option (List ℕ)) (old old' new new' : Counts) (status : Status)
    → heard' ≡ heard → old' ≡ old → new' ≡ new → MirrorStandsWith first heard a b old new status → MirrorStandsWith first heard' a b old' new' status
renamed first heard heard' a b old old' new new' status h o n stands =
    subst (λ (x : Heard). MirrorStandsWith first x a b old' new' status) (sym h)
    (subst (λ (x : Counts). MirrorStandsWith first heard a b x new' status) (sym o)
    (subst (λ (x : Counts). MirrorStandsWith first heard a b old x status) (sym n) stands))

-- A pair answers lines as the states that it stands for say.
module _ {S I : Type 0} (side : Sides S I) (sides : Drives S) (images : Images I) (these : Answerers (Pair S I side sides images) Told)
    (answers : (old new : Pair S I side sides images) (raw : List ℕ) (outcome : PairOutcome) → these.answered old raw outcome new
    → PairAnswers sides side.lies_in images old.held raw outcome new.shown.items new.held)
    (texts : (pair : Pair S I side sides images) (number : ℕ) (told : Told) → these.text pair number told ≡ told_text number told pair.shown.items)
    (answered : (told : Told) → these.is_answer told ≡ is_answer told) where
  abbrev StandsAs : Pair S I side sides images → PairState → Type 0
  StandsAs pair s = HeldAs sides side.lies_in images pair.held s

  step_of : (a b : Pair S I side sides images) (s : PairState) (number : ℕ) (event : AnsweredText) → StandsAs a s → IsTextStep these a number event b
      → (t : PairState) × IsPairStep s number event t × StandsAs b t
  step_of a b s number event stands step =
      let left = answers a b event.raw (Ok step.reply) step.answered s stands in (
        left.state,
        record {
          line = step.line;
          told = step.reply;
          bytes = b.shown.items;
          step = left.step;
          text_is = step.text_is ∙ texts b number step.reply;
          answers_are = step.answers_are ∙ ap (λ (yes : Bool). if yes then 1 else 0) (answered step.reply);
        },
        left.stands,
      )

  stop_of : (a b : Pair S I side sides images) (s : PairState) (raw : List ℕ) (why : Stopped) → StandsAs a s → StopsAnswering these a raw why b
      → (t : PairState) × StopsPair s raw why t × StandsAs b t
  stop_of a b s raw why stands stops =
      let left = answers a b raw (Err why) stops s stands in
      (left.state, record { bytes = b.shown.items; step = left.step }, left.stands)

  module _ (first : MirrorBeginning) (start : Pair S I side sides images) (state : PairState) (begins : IsFirstPair first.images state) (stands : StandsAs start state) where
    abbrev texts_first : TextBeginning (Pair S I side sides images)
    texts_first = record { start = start; script = first.script; report = first.report }

    starts : (a : Pair S I side sides images) → a ≡ start → (s : PairState) × IsFirstPair first.images s × StandsAs a s
    starts a is = (state, begins, subst (λ (p : Pair S I side sides images). StandsAs p state) (sym is) stands)

    told_over_states : (heard : Heard) (after : Pair S I side sides images) (old new : Counts) (status : Status) → TextsToldWith these texts_first heard after old new status
        → (t : PairState) × MirrorToldWith first heard t old new status × StandsAs after t
    told_over_states heard after old new status told =
        told_as (λ (a : Pair S I side sides images). a ≡ start) (λ before number event after. IsTextStep these before number event after) (StopsAnswering these)
        (IsFirstPair first.images) IsPairStep StopsPair StandsAs starts step_of stop_of first.script first.report heard after old new status told

    -- from the beginning to what the images have in the end
    pub ends_told : (heard heard' : Heard) (a b a' b' : Option (List ℕ)) (old new : Counts) (after : Pair S I side sides images) (status : Status)
        → IsMirrorBeginning first heard a b
        → ((texts : TextBeginning (Pair S I side sides images)) → HearsBeginning these texts heard start → TextsToldWith these texts heard' after old new status)
        → ((s : PairState) → StandsAs after s → LeavesPair s a' b') → MirrorStandsWith first heard' a' b' old new status
    ends_told heard heard' a b a' b' old new after status is told leaves =
        let over = told_over_states heard' after old new status (told texts_first (record { start_is = refl; left_is = is.left_is; written_is = is.written_is })) in
        ended first heard' a' b' old new status (record { after = over.0; told = over.1; left = leaves over.0 over.2 })

    told_by : (ask : Asked) → IsToldBy these texts_first ask → IsMirrorToldBy first ask
    told_by ask told =
        let run = followed these StandsAs IsPairStep step_of start told.now state told.far.events stands told.far.run in
        record {
          far = record {
            start = state;
            begins = begins;
            events = told.far.events;
            now = run.0;
            run = run.1;
            rest = told.far.rest;
            lines = told.far.lines;
            within = told.far.within;
          };
          shown = told.shown;
        }

    pub asks_told : (heard : Heard) (a b : Option (List ℕ)) (old new : Option (List Asked)) → IsMirrorBeginning first heard a b
        → ((texts : TextBeginning (Pair S I side sides images)) → HearsBeginning these texts heard start → AsksOnly (IsToldBy these texts) old new) → AsksOnly (IsMirrorToldBy first) old new
    asks_told heard a b old new is asks =
        added_mapped (IsToldBy these texts_first) (IsMirrorToldBy first) told_by old new
        (asks texts_first (record { start_is = refl; left_is = is.left_is; written_is = is.written_is }))
