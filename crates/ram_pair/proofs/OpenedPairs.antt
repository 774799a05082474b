-- What the opening of two images makes of them: a mirror of two discs of one geometry, or the images and why.
use Rattle.std.specs.Prelude.{◌≡◌, ◌≢◌, ℕ, ◌<◌, ◌≤◌, ◌⊎◌, Bool, false, true, ◌&&◌, eqb, Option, Some, IfSome, List, length}
use Rattle.std.proofs.Common.{arith, refl, sym, ap, ◌∙◌, subst, inl, inr}
use Rattle.std.proofs.lemmas.Bool.{false≢true, and_parts, and_from, eqb-true, eq-eqb}
use Rattle.model_geometry.specs.declared.kinds.LayoutKind.{LayoutKind}
use Rattle.model_geometry.specs.declared.kinds.LayoutKind.TheVariants.{OneGroup}
use Rattle.model_geometry.specs.Geometry.{Shape, total}
use Rattle.model_image.specs.Cells.{image_len}
use Rattle.model_image.specs.Image.{HasHeader, IsDiscImage}
use Rattle.model_image.proofs.Headers.{one_header, total_by_header}
use Rattle.model_drive.specs.Faults.{faults}
use Rattle.ram_outside.specs.declared.image.Image.{Ghosts as Images}
use Rattle.ram_image.specs.Opening.{IsRefused}
use Rattle.ram_image.specs.declared.opening.OpenFault.{OpenFault}
use Rattle.ram_image.specs.declared.opening.OpenFault.TheVariants as faulty
use Rattle.ram_sectors.specs.declared.Sectors.{Ghosts as Drives}
use Rattle.ram_mirror.specs.declared.mirror.Mirror.{Mirror}
use Rattle.ram_mirror.specs.Mirrors.{roles, mirror_shows, IsNew}
use Rattle.ram_side.specs.Side.{OpensSide}
use Rattle.ram_pair.specs.declared.rooms.PairRooms.{PairRooms}
use Rattle.ram_pair.specs.declared.held.Both.{Both}
use Rattle.ram_pair.specs.declared.held.Held.TheVariants as holds
use Rattle.ram_pair.specs.PairStates.{TwoImages, Unpaired, Paired, ShowsOpened, IsNewMirror}
use Rattle.ram_pair.specs.Pairs.{AreOfOneGroup}
use Rattle.ram_pair.specs.Opening.{IsSameImage, IsMadeOf, AreNoDiscs, OpensBoth, CountsBoth, IsRefusedBy, IsBegun}

-- two geometries with layouts of one kind are compared by their numbers
module _ (x y : Shape) (layouts : Bool) where
  abbrev compared : Bool
  compared = eqb x.zones y.zones && (eqb x.scale y.scale && (eqb x.psa y.psa && layouts))

  pub same_geometry : x.layout ≡ y.layout → compared ≡ true → x ≡ y
  same_geometry kind is =
      let zones = and_parts (eqb x.zones y.zones) (eqb x.scale y.scale && (eqb x.psa y.psa && layouts)) is in
      let scale = and_parts (eqb x.scale y.scale) (eqb x.psa y.psa && layouts) zones.1 in
      let psa = and_parts (eqb x.psa y.psa) layouts scale.1 in
      ap (λ (z : ℕ). record x { zones = z }) (eqb-true x.zones y.zones zones.0)
      ∙ ap (λ (k : ℕ). record x { zones = y.zones; scale = k }) (eqb-true x.scale y.scale scale.0)
      ∙ ap (λ (n : ℕ). record x { zones = y.zones; scale = y.scale; psa = n }) (eqb-true x.psa y.psa psa.0)
      ∙ ap (λ (l : LayoutKind). record y { layout = l }) kind

  pub other_geometry : layouts ≡ true → compared ≡ false → x ≡ y → ⊥
  other_geometry kind is same = false≢true (sym is ∙ and_from (eqb x.zones y.zones) (eqb x.scale y.scale && (eqb x.psa y.psa && layouts)) (eq-eqb x.zones y.zones (ap (λ (z : Shape). z.zones) same))
      (and_from (eqb x.scale y.scale) (eqb x.psa y.psa && layouts) (eq-eqb x.scale y.scale (ap (λ (z : Shape). z.scale) same))
      (and_from (eqb x.psa y.psa) layouts (eq-eqb x.psa y.psa (ap (λ (z : Shape). z.psa) same)) kind)))

-- bytes without the header of a disc of one group of spares are no image of one
without_header : (image : Option (List ℕ)) (bytes : List ℕ) (shape : Shape) → image ≡ Some bytes → shape.layout ≡ OneGroup → IsDiscImage shape bytes
    → IfSome image (λ held. (16 ≤ length held) × ((z : Shape) → z.layout ≡ OneGroup → ¬ HasHeader z held)) → ⊥
without_header image bytes shape known kind there bad = of_bytes.1 shape kind there.has_header
  where
    of_bytes : (16 ≤ length bytes) × ((z : Shape) → z.layout ≡ OneGroup → ¬ HasHeader z bytes)
    of_bytes = subst (λ o. IfSome o (λ held. (16 ≤ length held) × ((z : Shape) → z.layout ≡ OneGroup → ¬ HasHeader z held))) known bad

-- nor are bytes of another length than their header tells
of_other_length : (image : Option (List ℕ)) (bytes : List ℕ) (shape : Shape) (len : ℕ) → image ≡ Some bytes → IsDiscImage shape bytes
    → IfSome image (λ held. (len ≡ length held) × ((len < 16) ⊎ ((z : Shape) × HasHeader z held × (len ≢ image_len (total z))))) → ⊥
of_other_length image bytes shape len known there bad = cases of_bytes.1
  where
    of_bytes : (len ≡ length bytes) × ((len < 16) ⊎ ((z : Shape) × HasHeader z bytes × (len ≢ image_len (total z))))
    of_bytes = subst (λ o. IfSome o (λ held. (len ≡ length held) × ((len < 16) ⊎ ((z : Shape) × HasHeader z held × (len ≢ image_len (total z)))))) known bad

    cases : (len < 16) ⊎ ((z : Shape) × HasHeader z bytes × (len ≢ image_len (total z))) → ⊥
    cases (inl short) = let long = of_bytes.0 in let whole = there.as_long in omega (arith, short, long, whole)
    cases (inr other) = other.2 (of_bytes.0 ∙ there.as_long ∙ ap image_len (total_by_header shape other.0 bytes there.has_header other.1))

module _ {S : Type 0} (sides : Drives S) where
  -- a mirror that is off, and of which it is not known who leads
  new_mirror : (shape : Shape) (images : TwoImages) (mirror : Mirror S S) (x y : S) → IsNew mirror x y
      → ShowsOpened shape images.a (sides.shows mirror.a) → ShowsOpened shape images.b (sides.shows mirror.b)
      → IsNewMirror shape images (record { shown = mirror_shows sides sides mirror; images = images })
  new_mirror shape images mirror x y new a b = subst (λ (lead : Bool). IsNewMirror shape images (record { shown = roles sides sides lead mirror.a mirror.b mirror.following; images = images })) (sym new.lead) (record {
    a = a;
    b = b;
    off = new.on;
    alone = new.up;
    unknown = new.known;
    not_by_hand = new.by_hand;
    lead_unseen = new.lead_seen;
    other_unseen = new.other_seen;
    images_are = refl;
  })

  module _ {I : Type 0} (lies_in : S → Option (List ℕ)) (has_failed : S → Bool) (images : Images I) where
    -- an image was opened as a side whose disc has this geometry
    abbrev Opens : I → Shape → S → Type 0
    Opens image shape side = OpensSide OneGroup (images.bytes image) (images.faults image) shape (sides.shows side) (sides.stands side) (lies_in side) (has_failed side)

    shows_opened : (image : I) (shape : Shape) (side : S) → Opens image shape side → (bytes : List ℕ) → images.bytes image ≡ Some bytes → ShowsOpened shape bytes (sides.shows side)
    shows_opened image shape side opens bytes known =
        let is = opens.opened bytes known in
        record { disc = is.disc; opened = is.opened; shown_is = is.shown_is }

    -- both images hold discs of one geometry, and the mirror is of these
    pub made_of : (a b : I) (shape : Shape) (mirror : Mirror S S) (x y : S) → IsNew mirror x y → Opens a shape x → Opens b shape y → IsMadeOf sides lies_in images a b mirror
    made_of a b shape mirror x y new first second =
        let at_a : Opens a shape mirror.a = subst (λ (z : S). Opens a shape z) (sym new.a_is) first in
        let at_b : Opens b shape mirror.b = subst (λ (z : S). Opens b shape z) (sym new.b_is) second in
        record {
          kind = record {
            a = ap (λ (z : Shape). z.layout) at_a.shape_is ∙ at_a.kind_is;
            b = ap (λ (z : Shape). z.layout) at_b.shape_is ∙ at_b.kind_is;
          };
          a_same = record { bytes = at_a.same_bytes; count = at_a.count_is };
          b_same = record { bytes = at_b.same_bytes; count = at_b.count_is };
          new = λ held are. (
            shape,
            record { kind = first.kind_is; a = (first.opened held.a are.a_is).image; b = (second.opened held.b are.b_is).image },
            new_mirror shape held mirror x y new (shows_opened a shape mirror.a at_a held.a are.a_is) (shows_opened b shape mirror.b at_b held.b are.b_is),
          );
        }

    -- what an image is after it was opened and handed back
    pub handed_back : (image image' : I) (shape : Shape) (side : S) → Opens image shape side → images.bytes image' ≡ lies_in side → images.faults image' ≡ faults (sides.shows side)
        → IsSameImage (images.bytes image) (images.bytes image') (images.faults image) (images.faults image')
    handed_back image image' shape side opens bytes count = record { bytes = bytes ∙ opens.same_bytes; count = count ∙ opens.count_is }

    -- and what its rooms are for
    pub one_group : (image : I) (shape : Shape) (side : S) (kind : LayoutKind) → Opens image shape side → kind ≡ (sides.shows side).shape.layout → kind ≡ OneGroup
    one_group image shape side kind opens same = same ∙ ap (λ (z : Shape). z.layout) opens.shape_is ∙ opens.kind_is

    -- both images hold discs, whose geometries are not the same
    pub unlike : (a b a' b' : I) (shape other : Shape) (x y : S) → (other ≡ shape → ⊥) → Opens a shape x → Opens b other y
        → IsSameImage (images.bytes a) (images.bytes a') (images.faults a) (images.faults a') → IsSameImage (images.bytes b) (images.bytes b') (images.faults b) (images.faults b')
        → AreNoDiscs sides lies_in images a b a' b'
    unlike a b a' b' shape other x y differ first second same_a same_b = record {
      a_same = same_a;
      b_same = same_b;
      none = λ held are z discs.
          let mine = one_header shape z held.a (first.kind_is ∙ sym discs.kind) (first.opened held.a are.a_is).image.has_header discs.a.has_header in
          let its = one_header other z held.b (second.kind_is ∙ sym discs.kind) (second.opened held.b are.b_is).image.has_header discs.b.has_header in
          differ (its ∙ sym mine);
    }

module _ {S I : Type 0} (sides : Drives S) (lies_in : S → Option (List ℕ)) (images : Images I) where
  module _ (a b a' b' : I) (rooms : PairRooms) (kind : AreOfOneGroup rooms) (result : Both S I) where
    -- the first image was not opened
    pub refused_a : (fault : OpenFault) → IsRefused OneGroup (images.bytes a) (images.bytes a') (images.faults a) (images.faults a') fault
        → IsSameImage (images.bytes b) (images.bytes b') (images.faults b) (images.faults b') → IsRefusedBy fault a' b' rooms result → OpensBoth sides lies_in images a b result
    refused_a faulty.Header refused same is = subst (λ (r : Both S I). OpensBoth sides lies_in images a b r) (sym is) (
      record {
        a_same = record { bytes = refused.0.same; count = refused.0.count };
        b_same = same;
        none = λ held are shape discs. without_header (images.bytes a) held.a shape are.a_is discs.kind discs.a refused.1;
      },
      kind,
    )
    refused_a (faulty.Length len) refused same is = subst (λ (r : Both S I). OpensBoth sides lies_in images a b r) (sym is) (
      record {
        a_same = record { bytes = refused.0.same; count = refused.0.count };
        b_same = same;
        none = λ held are shape discs. of_other_length (images.bytes a) held.a shape len are.a_is discs.a refused.1;
      },
      kind,
    )
    refused_a faulty.Fault refused same is = subst (λ (r : Both S I). OpensBoth sides lies_in images a b r) (sym is) (record { a = refused.same; b = same.bytes; count = inl (refused.count, same.count) }, kind)

    -- the second was not
    pub refused_b : (fault : OpenFault) → IsRefused OneGroup (images.bytes b) (images.bytes b') (images.faults b) (images.faults b') fault
        → IsSameImage (images.bytes a) (images.bytes a') (images.faults a) (images.faults a') → IsRefusedBy fault a' b' rooms result → OpensBoth sides lies_in images a b result
    refused_b faulty.Header refused same is = subst (λ (r : Both S I). OpensBoth sides lies_in images a b r) (sym is) (
      record {
        a_same = same;
        b_same = record { bytes = refused.0.same; count = refused.0.count };
        none = λ held are shape discs. without_header (images.bytes b) held.b shape are.b_is discs.kind discs.b refused.1;
      },
      kind,
    )
    refused_b (faulty.Length len) refused same is = subst (λ (r : Both S I). OpensBoth sides lies_in images a b r) (sym is) (
      record {
        a_same = same;
        b_same = record { bytes = refused.0.same; count = refused.0.count };
        none = λ held are shape discs. of_other_length (images.bytes b) held.b shape len are.b_is discs.b refused.1;
      },
      kind,
    )
    refused_b faulty.Fault refused same is = subst (λ (r : Both S I). OpensBoth sides lies_in images a b r) (sym is) (record { a = same.bytes; b = refused.same; count = inr (same.count, refused.count) }, kind)

  -- the counts, where one of them was not opened
  module _ (kind : LayoutKind) (a b a' b' : I) (rooms : PairRooms) (result : Both S I) where
    pub counts_a : (fault : OpenFault) → IsRefused kind (images.bytes a) (images.bytes a') (images.faults a) (images.faults a') fault
        → images.faults b' ≡ images.faults b → IsRefusedBy fault a' b' rooms result → CountsBoth sides images a b result
    counts_a faulty.Header refused same is = subst (λ (r : Both S I). CountsBoth sides images a b r) (sym is) (refused.0.count, same)
    counts_a (faulty.Length len) refused same is = subst (λ (r : Both S I). CountsBoth sides images a b r) (sym is) (refused.0.count, same)
    counts_a faulty.Fault refused same is = subst (λ (r : Both S I). CountsBoth sides images a b r) (sym is) (inl (refused.count, same))

    pub counts_b : (fault : OpenFault) → IsRefused kind (images.bytes b) (images.bytes b') (images.faults b) (images.faults b') fault
        → images.faults a' ≡ images.faults a → IsRefusedBy fault a' b' rooms result → CountsBoth sides images a b result
    counts_b faulty.Header refused same is = subst (λ (r : Both S I). CountsBoth sides images a b r) (sym is) (same, refused.0.count)
    counts_b (faulty.Length len) refused same is = subst (λ (r : Both S I). CountsBoth sides images a b r) (sym is) (same, refused.0.count)
    counts_b faulty.Fault refused same is = subst (λ (r : Both S I). CountsBoth sides images a b r) (sym is) (inr (same, refused.count))

  -- what a run begins with: the mirror
  pub begun_mirror : (a b : I) (mirror : Mirror S S) → IsMadeOf sides lies_in images a b mirror → IsBegun sides lies_in images a b (holds.Mirror mirror)
  begun_mirror a b mirror made = record {
    begins = λ held are. record {
      state = Paired (record { shown = mirror_shows sides sides mirror; images = held });
      first = made.new held are;
      stands = record { kind = made.kind; shown_is = refl; a_is = made.a_same.bytes ∙ are.a_is; b_is = made.b_same.bytes ∙ are.b_is };
    };
    first = made.a_same.count;
    second = made.b_same.count;
  }

  -- or the images
  pub begun_images : (a b a' b' : I) (rooms : PairRooms) → AreNoDiscs sides lies_in images a b a' b' × AreOfOneGroup rooms → IsBegun sides lies_in images a b (holds.Images a' b' rooms)
  begun_images a b a' b' rooms are_none = record {
    begins = λ held are. record {
      state = Unpaired held;
      first = (refl, are_none.0.none held are);
      stands = (record { a_is = are_none.0.a_same.bytes ∙ are.a_is; b_is = are_none.0.b_same.bytes ∙ are.b_is }, are_none.1);
    };
    first = are_none.0.a_same.count;
    second = are_none.0.b_same.count;
  }
