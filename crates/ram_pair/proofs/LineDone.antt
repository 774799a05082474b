-- A line that was done with a mirror is a step of its state.
use Rattle.std.specs.Prelude.{◌≡◌, ℕ, true, false, Option, Some, List}
use Rattle.std.proofs.Common.{refl, sym, ap, ◌∙◌, subst}
use Rattle.model_drive.specs.Shown.{Shown}
use Rattle.model_mirror.specs.Shown.{MirrorShown}
use Rattle.model_mirror.specs.Sides.{side_a, side_b}
use Rattle.ram_outside.specs.declared.image.Image.{Ghosts as Images}
use Rattle.ram_sectors.specs.declared.Sectors.{Ghosts as Drives}
use Rattle.ram_mirror.specs.declared.mirror.Mirror.{Mirror}
use Rattle.ram_mirror.specs.Mirrors.{mirror_shows}
use Rattle.ram_text.specs.declared.mirror.MirrorLine.{MirrorLine}
use Rattle.ram_text.specs.declared.mirror.MirrorLine.TheVariants as lines
use Rattle.ram_report.specs.declared.printing.MirrorEvent.{MirrorEvent}
use Rattle.model_geometry.specs.Geometry.{Shape, total}
use Rattle.ram_pair.specs.declared.held.Held.TheVariants as held
use Rattle.ram_machine.specs.Drive.{HasCells}
use Rattle.ram_pair.specs.Told.{PairOutcome}
use Rattle.ram_pair.specs.PairStates.{PairState, Paired, Unpaired, Mirrored}
use Rattle.ram_pair.specs.PairSteps.{Lying, lying, BothUnderwent, LineImages, ComesOut, MirrorStep, OnMirror, PairStep}
use Rattle.ram_pair.specs.PairLines.{CallRule}
use Rattle.ram_pair.specs.Pairs.{HeldAs, IsMirrorIn, lies_by}
use Rattle.ram_pair.specs.Calls.{IsDone}
use Rattle.ram_pair.specs.Lines.{IsLineAnswered}
use Rattle.ram_pair.proofs.KnownBytes.{AreKnown, underwent_known, fail_known}
use Rattle.ram_pair.proofs.Sides.{shown_a, shown_b}

-- a line that needs a mirror
abbrev pub NeedsMirror : MirrorLine → Type 0
NeedsMirror lines.Empty = ⊥
NeedsMirror (lines.Press zones scale psa) = ⊥
NeedsMirror line = Unit {0}

pub needs_mirror : (line : MirrorLine) → (line ≡ lines.Empty → ⊥) → ((zones scale psa : ℕ) → line ≡ lines.Press zones scale psa → ⊥) → NeedsMirror line
needs_mirror lines.Empty some none = absurd (some refl)
needs_mirror (lines.Press zones scale psa) some none = absurd (none zones scale psa refl)
needs_mirror lines.Power some none = tt
needs_mirror lines.Format some none = tt
needs_mirror (lines.Read lba n) some none = tt
needs_mirror (lines.Write lba n) some none = tt
needs_mirror lines.Resync some none = tt
needs_mirror lines.Lead some none = tt
needs_mirror (lines.GiveLead to_a) some none = tt
needs_mirror (lines.Fail on_a block) some none = tt
needs_mirror (lines.Wear on_a block n) some none = tt
needs_mirror (lines.Cut on_a n fate) some none = tt

needs_step : (s : PairState) (line : MirrorLine) (payload : List ℕ) (outcome : PairOutcome) (bytes : List ℕ) (t : PairState) → NeedsMirror line
    → OnMirror s line payload outcome bytes t → PairStep s line payload outcome bytes t
needs_step s lines.Empty payload outcome bytes t needs is = absurd needs
needs_step s (lines.Press zones scale psa) payload outcome bytes t needs is = absurd needs
needs_step s lines.Power payload outcome bytes t needs is = is
needs_step s lines.Format payload outcome bytes t needs is = is
needs_step s (lines.Read lba n) payload outcome bytes t needs is = is
needs_step s (lines.Write lba n) payload outcome bytes t needs is = is
needs_step s lines.Resync payload outcome bytes t needs is = is
needs_step s lines.Lead payload outcome bytes t needs is = is
needs_step s (lines.GiveLead to_a) payload outcome bytes t needs is = is
needs_step s (lines.Fail on_a block) payload outcome bytes t needs is = is
needs_step s (lines.Wear on_a block n) payload outcome bytes t needs is = is
needs_step s (lines.Cut on_a n fate) payload outcome bytes t needs is = is

abbrev lying_as : MirrorShown → Option (List ℕ) → Option (List ℕ) → Lying
lying_as shown a b = record { shown = shown; a = a; b = b }

same_lying : (shown shown' : MirrorShown) (a b a' b' : Option (List ℕ)) → shown' ≡ shown → a' ≡ a → b' ≡ b → lying_as shown' a' b' ≡ lying_as shown a b
same_lying shown shown' a b a' b' x y z = cc

events_both : (s : Mirrored) (shown : MirrorShown) (a b : Option (List ℕ)) → BothUnderwent (lying s) (record { shown = shown; a = a; b = b }) → AreKnown a × AreKnown b
events_both s shown a b is = (
  underwent_known (total (side_a s.shown).shape) (side_a s.shown).medium s.images.a (side_a shown).medium a is.a,
  underwent_known (total (side_b s.shown).shape) (side_b s.shown).medium s.images.b (side_b shown).medium b is.b,
)

both_known : (s : Mirrored) (shown : MirrorShown) (a b : Option (List ℕ)) (line : MirrorLine) (called : MirrorEvent)
    → LineImages line called (lying s) (record { shown = shown; a = a; b = b }) → AreKnown a × AreKnown b
both_known s shown a b lines.Empty called is = events_both s shown a b is
both_known s shown a b (lines.Press zones scale psa) called is = events_both s shown a b is
both_known s shown a b lines.Power called is = events_both s shown a b is
both_known s shown a b lines.Format called is = events_both s shown a b is
both_known s shown a b (lines.Read lba n) called is = events_both s shown a b is
both_known s shown a b (lines.Write lba n) called is = events_both s shown a b is
both_known s shown a b lines.Resync called is = events_both s shown a b is
both_known s shown a b lines.Lead called is = ((s.images.a, is.a), (s.images.b, is.b))
both_known s shown a b (lines.GiveLead to_a) called is = events_both s shown a b is
both_known s shown a b (lines.Fail true block) called is = (fail_known block s.images.a a is.0 is.2.0, (s.images.b, is.2.1))
both_known s shown a b (lines.Fail false block) called is = ((s.images.a, is.2.1), fail_known block s.images.b b is.0 is.2.0)
both_known s shown a b (lines.Wear on_a block n) called is = ((s.images.a, is.a), (s.images.b, is.b))
both_known s shown a b (lines.Cut on_a n fate) called is = ((s.images.a, is.a), (s.images.b, is.b))

module _ {S I : Type 0} (sides : Drives S) (lies_in : S → Option (List ℕ)) (images : Images I) (old new : Mirror S S) (line : MirrorLine) (payload bytes : List ℕ) (outcome : PairOutcome)
    (needs : NeedsMirror line) (done : IsDone sides lies_in old new line payload bytes outcome)
    (cells_a : HasCells (sides.shows new.a).medium.world (lies_in new.a)) (cells_b : HasCells (sides.shows new.b).medium.world (lies_in new.b)) where
  mirror_left : (s : Mirrored) → IsMirrorIn sides lies_in old s → (t : Mirrored) × MirrorStep s t line payload outcome bytes × IsMirrorIn sides lies_in new t
  mirror_left s is =
      let before : lies_by sides lies_in old ≡ lying s = same_lying s.shown (mirror_shows sides sides old) (Some s.images.a) (Some s.images.b) (lies_in old.a) (lies_in old.b) is.shown_is is.a_is is.b_is in
      let from = subst (λ (l : Lying). LineImages line done.called l (lies_by sides lies_in new)) before done.images in
      let known = both_known s (mirror_shows sides sides new) (lies_in new.a) (lies_in new.b) line done.called from in
      let t : Mirrored = record { shown = mirror_shows sides sides new; images = record { a = known.0.0; b = known.1.0 } } in
      let after : lies_by sides lies_in new ≡ lying t = same_lying t.shown (mirror_shows sides sides new) (Some t.images.a) (Some t.images.b) (lies_in new.a) (lies_in new.b) refl known.0.1 known.1.1 in (
        t,
        record {
          called = done.called;
          rule = subst (λ (m : MirrorShown). CallRule m (mirror_shows sides sides new) line payload bytes done.called) is.shown_is done.rule;
          images = subst (λ (l : Lying). LineImages line done.called (lying s) l) after from;
          ends = subst (λ (m : MirrorShown). ComesOut m (mirror_shows sides sides new) done.called outcome) is.shown_is done.ends;
          lost = done.lost;
          cells = record {
            a = subst (λ (x : Shown). HasCells x.medium.world (Some known.0.0)) (sym (shown_a sides new)) (subst (HasCells (sides.shows new.a).medium.world) known.0.1 cells_a);
            b = subst (λ (x : Shown). HasCells x.medium.world (Some known.1.0)) (sym (shown_b sides new)) (subst (HasCells (sides.shows new.b).medium.world) known.1.1 cells_b);
          };
        },
        record {
          kind = record { a = ap (λ (z : Shape). z.layout) done.shapes.a ∙ is.kind.a; b = ap (λ (z : Shape). z.layout) done.shapes.b ∙ is.kind.b };
          shown_is = refl;
          a_is = known.0.1;
          b_is = known.1.1;
        },
      )

  -- from whatever state the mirror was in
  pub line_answered : (s : PairState) → HeldAs sides lies_in images (held.Mirror old) s → IsLineAnswered sides lies_in images s line payload bytes outcome (held.Mirror new)
  line_answered (Unpaired two) is = absurd is
  line_answered (Paired s) is =
      let left = mirror_left s is in
      record { state = Paired left.0; step = needs_step (Paired s) line payload outcome bytes (Paired left.0) needs left.1; stands = left.2 }
