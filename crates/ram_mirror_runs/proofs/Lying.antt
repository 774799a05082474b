-- Both sides of a mirror lie in two images of discs of one geometry, whose cells are theirs.
use Rattle.std.specs.Prelude.{◌≡◌, ℕ, not, if◌then◌else◌, Bool, true, false, List}
use Rattle.std.proofs.Common.{refl, sym, ap, ◌∙◌, inl, inr, subst}
use Rattle.std.proofs.lemmas.Bool.{false≢true}
use Rattle.model_geometry.specs.declared.kinds.LayoutKind.TheVariants.{OneGroup}
use Rattle.model_geometry.specs.Geometry.{Shape, label_of, total}
use Rattle.model_medium.specs.Cells.{Cell, cell_at}
use Rattle.model_image.specs.Cells.{cells_of}
use Rattle.model_image.specs.Image.{IsImageOf}
use Rattle.model_image.proofs.Headers.{one_header}
use Rattle.model_sectors.specs.Discs.{Standing, On, Off}
use Rattle.model_drive.specs.Shown.{Shown, StandsFor, IsOn, IsKnown, cells_in}
use Rattle.model_drive.specs.Sound.{IsSound}
use Rattle.model_mirror.specs.Shown.{MirrorShown}
use Rattle.model_mirror.specs.Sides.{side_a, side_b, named_side}
use Rattle.model_mirror.specs.Standing.{StandsSomehow, MayBe}
use Rattle.model_mirror_laws.proofs.Knowing.{begins_knows}
use Rattle.model_mirror_laws.specs.Bytes.{IsReopened, BeginsAgain}
use Rattle.ram_text.specs.declared.mirror.MirrorLine.{MirrorLine}
use Rattle.ram_pair.specs.Told.{PairOutcome}
use Rattle.ram_pair.specs.PairStates.{TwoImages, Mirrored, Paired, Unpaired, AreDiscs, ShowsOpened, IsNewMirror, IsFirstPair}
use Rattle.ram_pair.specs.PairSteps.{MirrorStep}
use Rattle.ram_mirror_runs.specs.Histories.{in_order}
use Rattle.ram_mirror_runs.proofs.Labels.{label, line_labels}
use Rattle.ram_mirror_runs.proofs.WellKept.{IsWell}

pub record LieThere (shape : Shape) (s : Mirrored) : Type 0 where
  pub kind : shape.layout ≡ OneGroup
  pub label_a : label (side_a s.shown).medium ≡ label_of shape
  pub label_b : label (side_b s.shown).medium ≡ label_of shape
  pub image_a : IsImageOf shape (cells_in (side_a s.shown)) s.images.a
  pub image_b : IsImageOf shape (cells_in (side_b s.shown)) s.images.b

-- they do so after a line
pub lie_again : (shape : Shape) (s t : Mirrored) (line : MirrorLine) (payload : List ℕ) (outcome : PairOutcome) (bytes : List ℕ) → MirrorStep s t line payload outcome bytes → LieThere shape s → LieThere shape t
lie_again shape s t line payload outcome bytes step lie =
    let same = line_labels s t line payload bytes step.called step.rule step.images in
    let a = same.0 ∙ lie.label_a in
    let b = same.1 ∙ lie.label_b in
    let lawful = lie.image_a.disc.has_header.lawful in
    record { kind = lie.kind; label_a = a; label_b = b; image_a = step.cells.a shape a lawful; image_b = step.cells.b shape b lawful }

-- What a side shows that was just opened.
pub record IsFresh (shape : Shape) (bytes : List ℕ) (shown : Shown) : Type 0 where
  pub shape_is : shown.shape ≡ shape
  pub sound : IsSound shown
  pub known : IsKnown shown
  pub off : ¬ IsOn shown
  pub label_is : label shown.medium ≡ label_of shape
  pub cells_are : cells_of (total shape) bytes ≡ cells_in shown
  pub some : StandsSomehow (StandsFor shown)

fresh : (shape : Shape) (bytes : List ℕ) (shown : Shown) → ShowsOpened shape bytes shown → IsFresh shape bytes shown
fresh shape bytes shown opened =
    let is = opened.shown_is ∙ opened.opened.shown_is in
    record {
      shape_is = ap (λ (x : Shown). x.shape) is;
      sound = subst IsSound (sym opened.shown_is) opened.disc.sound;
      known = ap (λ (x : Shown). x.medium.world.known) is;
      off = λ on. false≢true (sym (ap (λ (x : Shown). x.medium.world.power) is) ∙ on);
      label_is = ap (λ (x : Shown). label x.medium) is;
      cells_are = sym (ap cells_in is);
      some = record { standing = opened.disc.standing; stands = subst (λ (x : Shown). StandsFor x opened.disc.standing) (sym opened.shown_is) opened.disc.stands };
    }

-- what is said of both sides, by their names or by their roles
pub by_roles : (P : Shown → Type 0) (b : Bool) (x y : Shown) → P (if b then x else y) → P (if b then y else x) → P x × P y
by_roles P true x y one two = (one, two)
by_roles P false x y one two = (two, one)

pub by_names : (P : Shown → Type 0) (b : Bool) (x y : Shown) → P x → P y → P (if b then x else y) × P (if b then y else x)
by_names P true x y one two = (one, two)
by_names P false x y one two = (two, one)

-- a mirror that is off may stand for something where both sides do
pub off_may : (shown : MirrorShown) → shown.on ≡ false → StandsSomehow (StandsFor shown.lead) → StandsSomehow (StandsFor shown.other) → StandsSomehow (MayBe shown)
off_may shown off lead other = go lead.standing lead.stands
  where
    go : (s : Standing) → StandsFor shown.lead s → StandsSomehow (MayBe shown)
    go (On disc) stands = record { standing = Off _; stands = (inr (record { off = off; disc = disc; one = refl; stands = stands }), other) }
    go (Off discs) stands = record { standing = Off discs; stands = (inl stands, other) }

-- All is well with a mirror, and its sides lie in its images.
pub record IsUpright (shape : Shape) (s : Mirrored) : Type 0 where
  pub well : IsWell shape s.shown
  pub lie : LieThere shape s

module _ (shape : Shape) (images : TwoImages) (s : Mirrored) (discs : AreDiscs shape images) (new : IsNewMirror shape images s) where
  fresh_a : IsFresh shape images.a (side_a s.shown)
  fresh_a = fresh shape images.a (side_a s.shown) new.a

  fresh_b : IsFresh shape images.b (side_b s.shown)
  fresh_b = fresh shape images.b (side_b s.shown) new.b

  both : (P : Shown → Type 0) → P (side_a s.shown) → P (side_b s.shown) → P s.shown.lead × P s.shown.other
  both P = by_roles P s.shown.lead_is_a s.shown.lead s.shown.other

  pub new_lies : LieThere shape s
  new_lies = record {
    kind = discs.kind;
    label_a = fresh_a.label_is;
    label_b = fresh_b.label_is;
    image_a = subst (λ (i : TwoImages). IsImageOf shape (cells_in (side_a s.shown)) i.a) (sym new.images_are) (record { disc = discs.a; cells_are = fresh_a.cells_are });
    image_b = subst (λ (i : TwoImages). IsImageOf shape (cells_in (side_b s.shown)) i.b) (sym new.images_are) (record { disc = discs.b; cells_are = fresh_b.cells_are });
  }

  pub new_upright : IsUpright shape s
  new_upright =
      let shapes = both (λ (x : Shown). x.shape ≡ shape) fresh_a.shape_is fresh_b.shape_is in
      let sound = both IsSound fresh_a.sound fresh_b.sound in
      let known = both IsKnown fresh_a.known fresh_b.known in
      record {
        well = record {
          sides = record { lead_shape = shapes.0; other_shape = shapes.1; lead_sound = sound.0; other_sound = sound.1 };
          knows = begins_knows s.shown known.0 known.1 new.off new.not_by_hand new.other_unseen;
        };
        lie = new_lies;
      }

  pub new_may : StandsSomehow (MayBe s.shown)
  new_may = let some = both (λ (x : Shown). StandsSomehow (StandsFor x)) fresh_a.some fresh_b.some in off_may s.shown new.off some.0 some.1

-- Another run begins over the images of a mirror.
module _ (shape : Shape) (s : Mirrored) (up : IsUpright shape s) where
  were : (turned : Bool) → AreDiscs shape (in_order turned s.images)
  were true = record { kind = up.lie.kind; a = up.lie.image_b.disc; b = up.lie.image_a.disc }
  were false = record { kind = up.lie.kind; a = up.lie.image_a.disc; b = up.lie.image_b.disc }

  pub record BeganAgain (turned : Bool) (t : Mirrored) : Type 0 where
    pub begins : BeginsAgain turned s.shown t.shown
    pub lie : LieThere shape t

  reopened : (old new : Shown) (bytes : List ℕ) → old.shape ≡ shape → IsKnown old → cells_of (total shape) bytes ≡ cells_in old → IsFresh shape bytes new → IsReopened old new
  reopened old new bytes same known cells is = record {
    leaves = record { same_shape = is.shape_is ∙ sym same; sound = is.sound };
    as_known = is.known ∙ sym known;
    off = is.off;
    same = λ block. inl (ap (λ (l : List Cell). cell_at l block) (sym is.cells_are ∙ cells));
  }

  module _ (t : Mirrored) where
    begun_on : (turned : Bool) → IsNewMirror shape (in_order turned s.images) t → BeganAgain turned t
    begun_on turned new = record {
      begins = record {
        a = (sides turned new).0;
        b = (sides turned new).1;
        off = new.off;
        unknown = new.unknown;
        not_by_hand = new.not_by_hand;
        other_unseen = new.other_unseen;
      };
      lie = new_lies shape (in_order turned s.images) t (were turned) new;
    }
      where
        shapes : ((side_a s.shown).shape ≡ shape) × ((side_b s.shown).shape ≡ shape)
        shapes = by_names (λ (x : Shown). x.shape ≡ shape) s.shown.lead_is_a s.shown.lead s.shown.other up.well.sides.lead_shape up.well.sides.other_shape

        known : IsKnown (side_a s.shown) × IsKnown (side_b s.shown)
        known = by_names IsKnown s.shown.lead_is_a s.shown.lead s.shown.other up.well.knows.lead_known up.well.knows.other_known

        sides : (turned : Bool) → IsNewMirror shape (in_order turned s.images) t → IsReopened (named_side (not turned) s.shown) (side_a t.shown) × IsReopened (named_side turned s.shown) (side_b t.shown)
        sides true new = (
          reopened (side_b s.shown) (side_a t.shown) s.images.b shapes.1 known.1 up.lie.image_b.cells_are (fresh shape s.images.b (side_a t.shown) new.a),
          reopened (side_a s.shown) (side_b t.shown) s.images.a shapes.0 known.0 up.lie.image_a.cells_are (fresh shape s.images.a (side_b t.shown) new.b),
        )
        sides false new = (
          reopened (side_a s.shown) (side_a t.shown) s.images.a shapes.0 known.0 up.lie.image_a.cells_are (fresh shape s.images.a (side_a t.shown) new.a),
          reopened (side_b s.shown) (side_b t.shown) s.images.b shapes.1 known.1 up.lie.image_b.cells_are (fresh shape s.images.b (side_b t.shown) new.b),
        )

    pub began_again : (turned : Bool) → IsFirstPair (in_order turned s.images) (Paired t) → BeganAgain turned t
    began_again turned (shape', discs, new) =
        let same = one_header shape' shape (in_order turned s.images).a (discs.kind ∙ sym up.lie.kind) discs.a.has_header (were turned).a.has_header in
        begun_on turned (subst (λ (z : Shape). IsNewMirror z (in_order turned s.images) t) same new)

  -- it does not find images that are none of two discs
  pub still_paired : (turned : Bool) (images : TwoImages) → IsFirstPair (in_order turned s.images) (Unpaired images) → ⊥
  still_paired turned images first = first.1 shape (were turned)
