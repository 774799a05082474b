-- A line is done: its call, from both sides as they were watched, and whether an image failed in it.
use Rattle.std.specs.Prelude.{◌≡◌, ℕ, Bool, true, false, Option, List}
use Rattle.std.proofs.Common.{refl, sym, ap, ◌∙◌, inl, inr, subst}
use Rattle.std.proofs.lemmas.Bool.{false≢true}
use Rattle.model_drive.specs.Shown.{Shown}
use Rattle.model_drive.specs.Faults.{faults}
use Rattle.model_mirror.specs.Shown.{MirrorShown}
use Rattle.model_mirror.specs.Watching.{TracksFaults}
use Rattle.model_mirror.specs.Sides.{side_a, side_b}
use Rattle.ram_sectors.specs.declared.Sectors.{Ghosts as Drives}
use Rattle.ram_mirror.specs.declared.mirror.Mirror.{Mirror}
use Rattle.ram_mirror.specs.declared.following.Following.{Following}
use Rattle.ram_mirror.specs.Mirrors.{roles, mirror_shows}
use Rattle.ram_mirror.specs.Sides.{shown_as}
use Rattle.ram_report.specs.declared.printing.MirrorEvent.{MirrorEvent}
use Rattle.ram_text.specs.declared.mirror.MirrorLine.{MirrorLine}
use Rattle.ram_pair.specs.Told.{PairOutcome, answered, image_failed}
use Rattle.ram_pair.specs.PairLines.{CallRule}
use Rattle.ram_pair.specs.PairSteps.{Lying, LineImages, ComesOut, IsImageFailure}
use Rattle.ram_pair.specs.Pairs.{lies_by}
use Rattle.ram_pair.specs.Calls.{SameShapes, IsCalled, IsDone}
use Rattle.ram_pair.proofs.Sides.{shown_a, shown_b}
use Rattle.ram_pair.proofs.Tracked.{rose_where_told, same_where_not}

module _ {S : Type 0} (sides : Drives S) (lies_in : S → Option (List ℕ)) (has_failed : S → Bool) where
  -- what two sides show and lie in that show and lie in the same as these
  same_roles : (lead : Bool) (x y x' y' : S) (f : Following) → sides.shows x' ≡ sides.shows x → sides.shows y' ≡ sides.shows y
      → roles sides sides lead x' y' f ≡ roles sides sides lead x y f
  same_roles true x y x' y' f a b = ap (λ (l : Shown). shown_as true l (sides.shows y') f) a ∙ ap (λ (o : Shown). shown_as true (sides.shows x) o f) b
  same_roles false x y x' y' f a b = ap (λ (l : Shown). shown_as false l (sides.shows x') f) b ∙ ap (λ (o : Shown). shown_as false (sides.shows y) o f) a

  abbrev lying_as : MirrorShown → Option (List ℕ) → Option (List ℕ) → Lying
  lying_as shown a b = record { shown = shown; a = a; b = b }

  same_lying : (shown shown' : MirrorShown) (a b a' b' : Option (List ℕ)) → shown' ≡ shown → a' ≡ a → b' ≡ b
      → lying_as shown' a' b' ≡ lying_as shown a b
  same_lying shown shown' a b a' b' x y z = cc

  module _ (old watched new : Mirror S S) (shows_a : sides.shows watched.a ≡ sides.shows old.a) (shows_b : sides.shows watched.b ≡ sides.shows old.b)
      (lies_a : lies_in watched.a ≡ lies_in old.a) (lies_b : lies_in watched.b ≡ lies_in old.b)
      (lead : watched.lead_is_a ≡ old.lead_is_a) (following : watched.following ≡ old.following)
      (none_a : has_failed watched.a ≡ false) (none_b : has_failed watched.b ≡ false)
      (line : MirrorLine) (payload bytes : List ℕ) (called : MirrorEvent) (is : IsCalled sides lies_in has_failed watched new line payload bytes called) where
    shown_same : mirror_shows sides sides watched ≡ mirror_shows sides sides old
    shown_same = rw (lead, following) (same_roles old.lead_is_a old.a old.b watched.a watched.b old.following shows_a shows_b)

    rule_from : CallRule (mirror_shows sides sides old) (mirror_shows sides sides new) line payload bytes called
    rule_from = subst (λ (s : MirrorShown). CallRule s (mirror_shows sides sides new) line payload bytes called) shown_same is.rule

    images_from : LineImages line called (lies_by sides lies_in old) (lies_by sides lies_in new)
    images_from = subst (λ (l : Lying). LineImages line called l (lies_by sides lies_in new))
        (same_lying (mirror_shows sides sides old) (mirror_shows sides sides watched) (lies_in old.a) (lies_in old.b) (lies_in watched.a) (lies_in watched.b) shown_same lies_a lies_b) is.images

    shapes_from : SameShapes sides old new
    shapes_from = record { a = is.shapes.a ∙ ap (λ (x : Shown). x.shape) shows_a; b = is.shapes.b ∙ ap (λ (x : Shown). x.shape) shows_b }

    pub tracks_a : TracksFaults (faults (sides.shows old.a)) (faults (sides.shows new.a)) false (has_failed new.a)
    tracks_a = rw (sym (ap (λ (x : Shown). faults x) shows_a), sym none_a) is.tracks.a

    pub tracks_b : TracksFaults (faults (sides.shows old.b)) (faults (sides.shows new.b)) false (has_failed new.b)
    tracks_b = rw (sym (ap (λ (x : Shown). faults x) shows_b), sym none_b) is.tracks.b

    done_with : (outcome : PairOutcome) → ComesOut (mirror_shows sides sides old) (mirror_shows sides sides new) called outcome → (IsImageFailure line called → outcome ≡ image_failed)
        → IsDone sides lies_in old new line payload bytes outcome
    done_with outcome ends lost = record { called = called; rule = rule_from; images = images_from; ends = ends; lost = lost; shapes = shapes_from }

    count_a : (m : Mirror S S) → faults (side_a (mirror_shows sides sides m)) ≡ faults (sides.shows m.a)
    count_a m = ap (λ (x : Shown). faults x) (shown_a sides m)

    count_b : (m : Mirror S S) → faults (side_b (mirror_shows sides sides m)) ≡ faults (sides.shows m.b)
    count_b m = ap (λ (x : Shown). faults x) (shown_b sides m)

    -- the first image failed
    pub failed_first : has_failed new.a ≡ true → IsDone sides lies_in old new line payload bytes image_failed
    failed_first failed = done_with image_failed (inr (inl (rw (count_a old, count_a new) (rose_where_told _ _ _ tracks_a failed)), refl)) (λ lost. refl)

    -- the second did
    pub failed_second : has_failed new.b ≡ true → IsDone sides lies_in old new line payload bytes image_failed
    failed_second failed = done_with image_failed (inr (inr (rw (count_b old, count_b new) (rose_where_told _ _ _ tracks_b failed)), refl)) (λ lost. refl)

    -- neither did
    pub none_did : has_failed new.a ≡ false → has_failed new.b ≡ false → IsDone sides lies_in old new line payload bytes (answered called)
    none_did a b = done_with (answered called) (inl (
      record {
        a = count_a new ∙ same_where_not _ _ _ tracks_a a ∙ sym (count_a old);
        b = count_b new ∙ same_where_not _ _ _ tracks_b b ∙ sym (count_b old);
      },
      refl,
    )) (λ lost. absurd (elim (is.lost lost) [ inl failed ↦ false≢true (sym a ∙ failed) | inr failed ↦ false≢true (sym b ∙ failed) ]))
