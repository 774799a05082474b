-- What holds of a mirror in a run in which the lead is not given by hand.
use Rattle.std.specs.Prelude.{◌≡◌, ◌≢◌, ℕ, Bool, Ok, Err, List, [], ◌∷◌}
use Rattle.std.proofs.Common.{refl, sym, ap, ◌∙◌, inl, inr, subst}
use Rattle.model_geometry.specs.Geometry.{Shape, shape_in}
use Rattle.model_geometry.specs.declared.kinds.LayoutKind.TheVariants.{OneGroup}
use Rattle.model_image.specs.Image.{IsDiscImage, pressed_image}
use Rattle.model_image.proofs.Presses.{pressed_bytes, pressed}
use Rattle.model_sectors.specs.Discs.{Standing, On, Off}
use Rattle.model_drive.specs.Shown.{Shown, StandsFor}
use Rattle.model_mirror.specs.declared.MirrorPowerOut.{MirrorPowerOut}
use Rattle.model_mirror.specs.declared.MirrorPowerOut.TheVariants as outs
use Rattle.model_mirror.specs.Shown.{MirrorShown}
use Rattle.model_mirror.specs.Sides.{side_a, side_b}
use Rattle.model_mirror.specs.Standing.{StandsSomehow, MayBe}
use Rattle.model_mirror.specs.Powers.{MirrorPowerStep, StandsMounted, once_off, on_or_off}
use Rattle.model_mirror.proofs.Somehow.{power_somehow}
use Rattle.model_mirror_laws.specs.Kept.{AreSides}
use Rattle.model_mirror_laws.specs.Bytes.{SidesAge}
use Rattle.model_mirror_laws.proofs.Aging.{ages_know}
use Rattle.ram_medium.specs.declared.control.FailEnd.{FailEnd}
use Rattle.ram_medium.specs.declared.control.FailEnd.TheVariants as fails
use Rattle.ram_report.specs.declared.printing.Event.TheVariants as events
use Rattle.ram_report.specs.declared.printing.MirrorEvent.{MirrorEvent}
use Rattle.ram_report.specs.declared.printing.MirrorEvent.TheVariants as mirrors
use Rattle.ram_text.specs.MirrorScript.{MirrorReads}
use Rattle.ram_text.specs.declared.mirror.MirrorLine.{MirrorLine}
use Rattle.ram_text.specs.declared.mirror.MirrorLine.TheVariants as lines
use Rattle.ram_answers.specs.Texts.{AnsweredText}
use Rattle.ram_machine.specs.declared.stopped.Stopped.TheVariants as stopped
use Rattle.ram_pair.specs.declared.told.Told.{Told}
use Rattle.ram_pair.specs.declared.told.Told.TheVariants as told
use Rattle.ram_pair.specs.Told.{image_failed, fail_told}
use Rattle.ram_pair.specs.PairStates.{TwoImages, PairState, Paired, Unpaired, Mirrored, AreDiscs, IsFirstPair, pressed_images}
use Rattle.ram_pair.specs.PairLines.{CallRule, PowerCall}
use Rattle.ram_pair.specs.PairSteps.{IsImageFailure, OnMirror, PressPair, PairStep}
use Rattle.ram_pair.specs.PairTexts.{PairRun}
use Rattle.ram_mirrored.proofs.MirrorLeads.{Tells, power_tells}
use Rattle.ram_mirror_runs.specs.Histories.{GiveNoLead}
use Rattle.ram_mirror_runs.proofs.WellKept.{IsWell, power_well, read_well, write_well, format_well, resync_well}
use Rattle.ram_mirror_runs.proofs.Aging.{fail_call_ages, wear_call_ages, cut_call_ages}
use Rattle.ram_mirror_runs.proofs.Lying.{IsUpright, by_roles, by_names, off_may, new_upright, new_may, lie_again}

-- ---- after a power on the mirror may stand for something
once_some : (after : Standing → Type 0) → StandsSomehow (once_off after) → StandsSomehow after
once_some after some = go some.standing some.stands
  where
    go : (s : Standing) → once_off after s → StandsSomehow after
    go (On disc) stands = record { standing = Off (disc ∷ []); stands = stands }
    go (Off discs) stands = record { standing = Off discs; stands = stands }

on_or_off_some : (after : Standing → Type 0) → StandsSomehow (on_or_off after) → StandsSomehow after
on_or_off_some after some = elim some.stands [
  | inl stands ↦ record { standing = some.standing; stands = stands }
  | inr off ↦ once_some after (record { standing = some.standing; stands = off })
]

mounted_some : (after : Standing → Type 0) (s : Standing) → StandsMounted after s → StandsSomehow after
mounted_some after s mounted = power_somehow after mounted.mounted s mounted.told mounted.step

-- both sides do where the mirror does
sides_some : (shown : MirrorShown) → StandsSomehow (MayBe shown) → StandsSomehow (StandsFor shown.lead) × StandsSomehow (StandsFor shown.other)
sides_some shown may = go may.standing may.stands
  where
    go : (s : Standing) → MayBe shown s → StandsSomehow (StandsFor shown.lead) × StandsSomehow (StandsFor shown.other)
    go (On disc) stands = (record { standing = On disc; stands = stands.1 }, stands.2.some)
    go (Off discs) stands = elim stands.0 [
      | inl off ↦ (record { standing = Off discs; stands = off }, stands.1)
      | inr idle ↦ (record { standing = On idle.disc; stands = idle.stands }, stands.1)
    ]

module _ (old new : MirrorShown) where
  powered_some : (s t : Standing) (out : MirrorPowerOut) → MirrorPowerStep new (MayBe new) (StandsFor (side_a new)) (StandsFor (side_b new)) s t out → Tells old new out → StandsSomehow (MayBe new)
  powered_some s t (outs.Ready known) step tells = record { standing = On step.leads.1.finds.disc; stands = step.leads.1.finds.found }
  powered_some s t outs.NotFormatted step tells = record { standing = On []; stands = step.leads }
  powered_some s t outs.Unknown step tells =
      let both = by_roles (λ (x : Shown). StandsSomehow (StandsFor x)) new.lead_is_a new.lead new.other
      (on_or_off_some (StandsFor (side_a new)) (mounted_some (on_or_off (StandsFor (side_a new))) s step.of_a))
      (on_or_off_some (StandsFor (side_b new)) (mounted_some (on_or_off (StandsFor (side_b new))) t step.of_b)) in
      off_may new tells.1 both.0 both.1
  powered_some s t outs.Cut step tells = once_some (MayBe new) (mounted_some (once_off (MayBe new)) _ step.leads)
  powered_some s t outs.Fault step tells = once_some (MayBe new) (mounted_some (once_off (MayBe new)) _ step.leads)

  power_some : (called : MirrorEvent) → PowerCall old new called → StandsSomehow (MayBe old) → StandsSomehow (MayBe new)
  power_some called call may =
      let roles = sides_some old may in
      let sides = by_names (λ (x : Shown). StandsSomehow (StandsFor x)) old.lead_is_a old.lead old.other roles.0 roles.1 in
      powered_some sides.0.standing sides.1.standing call.out (call.step sides.0.standing sides.1.standing sides.0.stands sides.1.stands) (power_tells old new call.out call.cause).tells

-- ---- a line
-- all is well, and the mirror may stand for something
record Stands (shape : Shape) (shown : MirrorShown) : Type 0 where
  pub well : IsWell shape shown
  pub may : StandsSomehow (MayBe shown)

sides_aged : (shape : Shape) (old new : MirrorShown) → SidesAge old new → AreSides shape old → AreSides shape new
sides_aged shape old new ages sides = record {
  lead_shape = ages.lead.leaves.same_shape ∙ sides.lead_shape;
  other_shape = ages.other.leaves.same_shape ∙ sides.other_shape;
  lead_sound = ages.lead.leaves.sound;
  other_sound = ages.other.leaves.sound;
}

-- a failure of the image while a block was to fail is told as one
lost_failure : (on_a : Bool) (block : ℕ) (called : MirrorEvent) (end : FailEnd) → called ≡ fail_told end → end ≡ fails.Failed → IsImageFailure (lines.Fail on_a block) called
lost_failure on_a block called end told failed = subst (IsImageFailure (lines.Fail on_a block)) (sym (told ∙ ap fail_told failed)) tt

module _ (shape : Shape) (old new : MirrorShown) (was : Stands shape old) where
  aged : SidesAge old new → StandsSomehow (MayBe new) → Stands shape new
  aged ages may = record { well = record { sides = sides_aged shape old new ages was.well.sides; knows = ages_know old new ages was.well.knows }; may = may }

  kept_all : ((s : Standing) → MayBe old s → MayBe new s) → StandsSomehow (MayBe new)
  kept_all keeps = record { standing = was.may.standing; stands = keeps was.may.standing was.may.stands }

  led_to : {Steps : Standing → Standing → Type 0} → ((s : Standing) → MayBe old s → (t : Standing) × MayBe new t × Steps s t) → IsWell shape new → Stands shape new
  led_to leads well = let after = leads was.may.standing was.may.stands in record { well = well; may = record { standing = after.0; stands = after.1 } }

  line_stands : (line : MirrorLine) (payload gave : List ℕ) (called : MirrorEvent) → CallRule old new line payload gave called → ((to_a : Bool) → line ≢ lines.GiveLead to_a) → ¬ IsImageFailure line called → Stands shape new
  line_stands lines.Power payload gave called rule none lost =
      record { well = power_well shape old new was.well rule.out rule.cause; may = power_some old new called rule was.may }
  line_stands (lines.Read lba n) payload gave called rule none lost = led_to rule.step (read_well shape old new was.well lba n rule.out rule.cause)
  line_stands (lines.Write lba n) payload gave called rule none lost = led_to rule.step (write_well shape old new was.well lba n rule.out rule.cause)
  line_stands lines.Format payload gave called rule none lost = led_to rule.step (format_well shape old new was.well rule.out rule.cause)
  line_stands lines.Resync payload gave called rule none lost = led_to rule.step (resync_well shape old new was.well rule.out rule.cause)
  line_stands lines.Lead payload gave called rule none lost = subst (Stands shape) (sym rule.same) was
  line_stands (lines.GiveLead to_a) payload gave called rule none lost = absurd (none to_a refl)
  line_stands (lines.Fail on_a block) payload gave called rule none lost =
      let done : rule.end ≢ fails.Failed = λ failed. lost (lost_failure on_a block called rule.end rule.told_is failed) in
      aged (fail_call_ages old was.well.sides.lead_sound was.well.sides.other_sound new on_a block called rule done) (kept_all (rule.keeps done))
  line_stands (lines.Wear on_a block n) payload gave called rule none lost = aged (wear_call_ages old was.well.sides.lead_sound was.well.sides.other_sound new on_a block n called rule) (kept_all rule.keeps)
  line_stands (lines.Cut on_a n fate) payload gave called rule none lost = aged (cut_call_ages old was.well.sides.lead_sound was.well.sides.other_sound new on_a n fate called rule) (kept_all rule.keeps)
  line_stands lines.Empty payload gave called rule none lost = absurd rule
  line_stands (lines.Press zones scale psa) payload gave called rule none lost = absurd rule

-- ---- a run
-- a mirror is upright, and may stand for something
pub record IsStanding (shape : Shape) (s : Mirrored) : Type 0 where
  pub up : IsUpright shape s
  pub may : StandsSomehow (MayBe s.shown)

abbrev pub StandingPair : PairState → Type 0
StandingPair (Unpaired images) = Unit {0}
StandingPair (Paired s) = (shape : Shape) × IsStanding shape s

pub first_stands : (images : TwoImages) (s : PairState) → IsFirstPair images s → StandingPair s
first_stands images (Unpaired held) first = tt
first_stands images (Paired s) (shape, discs, new) = (shape, record { up = new_upright shape images s discs new; may = new_may shape images s discs new })

pressed_disc : (shape : Shape) → IsDiscImage shape (pressed_image shape) → shape.layout ≡ OneGroup → AreDiscs shape (pressed_images shape)
pressed_disc shape disc kind = record { kind = kind; a = disc; b = disc }

press_stands : (s t : PairState) (shape : Shape) (event : MirrorEvent) → shape.layout ≡ OneGroup → PressPair s shape (Ok (told.Event event)) t → StandingPair s → StandingPair t
press_stands s (Unpaired images) shape (mirrors.OfDisc events.Pressed) kind step was = tt
press_stands s (Paired t) shape (mirrors.OfDisc events.Pressed) kind step was =
    let disc : IsDiscImage shape (pressed_image shape) = subst (IsDiscImage shape) (pressed_bytes shape refl) (pressed shape refl step.0).disc in
    let discs = pressed_disc shape disc kind in
    (shape, record { up = new_upright shape (pressed_images shape) t discs step.1; may = new_may shape (pressed_images shape) t discs step.1 })
press_stands s t shape (mirrors.OfDisc events.NotPressed) kind step was = subst StandingPair (sym step.1) was
press_stands s t shape _ kind step was = absurd step

not_failed : (one : Told) → Ok one ≡ image_failed → ⊥
not_failed one is = cc

mirror_stands : (s t : PairState) (line : MirrorLine) (payload : List ℕ) (reply : Told) (gave : List ℕ) → OnMirror s line payload (Ok reply) gave t → ((to_a : Bool) → line ≢ lines.GiveLead to_a)
    → StandingPair s → StandingPair t
mirror_stands (Unpaired images) (Unpaired images') line payload reply gave step none was = tt
mirror_stands (Unpaired images) (Paired t) line payload reply gave step none was = absurd (let clash : Ok reply ≡ Err stopped.NotADisc = step.0 in cc)
mirror_stands (Paired s) (Unpaired images) line payload reply gave step none was = absurd step
mirror_stands (Paired s) (Paired t) line payload reply gave step none (shape, was) =
    let after = line_stands shape s.shown t.shown (record { well = was.up.well; may = was.may }) line payload gave step.called step.rule none (λ is. not_failed reply (step.lost is)) in
    (shape, record { up = record { well = after.well; lie = lie_again shape s t line payload (Ok reply) gave step was.up.lie }; may = after.may })

step_stands : (s t : PairState) (line : MirrorLine) (payload : List ℕ) (reply : Told) (gave : List ℕ) → PairStep s line payload (Ok reply) gave t → ((to_a : Bool) → line ≢ lines.GiveLead to_a)
    → StandingPair s → StandingPair t
step_stands s t lines.Empty payload reply gave step none was = subst StandingPair (sym step.1) was
step_stands s t (lines.Press zones scale psa) payload told.Nothing gave step none was = absurd step
step_stands s t (lines.Press zones scale psa) payload (told.Event event) gave step none was = press_stands s t (shape_in OneGroup zones scale psa) event refl step was
step_stands s t line payload reply gave step none was = mirror_stands s t line payload reply gave step none was

pub run_stands : (first last : PairState) (events : List AnsweredText) → PairRun first events last → GiveNoLead events → StandingPair first → StandingPair last
run_stands first last [] same none was = subst StandingPair (sym same) was
run_stands first last (event ∷ events) run none was =
    let step = run.2.step in
    step_stands run.0 last step.line step.payload run.2.told run.2.bytes step.step
    (λ to_a is. none.1 to_a step.payload (subst (λ (l : MirrorLine). MirrorReads event.raw l step.payload) is step.reads))
    (run_stands first run.0 events run.1 none.0 was)
