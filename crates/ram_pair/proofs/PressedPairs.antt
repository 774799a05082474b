-- What a press of two images makes of them: two images of new discs, or those of a press that was stopped.
use Rattle.std.specs.Prelude.{◌≡◌, ℕ, ◌+◌, Option, Some, None, Err, List}
use Rattle.std.proofs.Common.{arith, refl, sym, ap, ◌∙◌, subst, inl, inr}
use Rattle.model_bytes.specs.Known.{WhereKnown}
use Rattle.model_counts.specs.Counts.{Rose}
use Rattle.model_geometry.specs.declared.kinds.LayoutKind.TheVariants.{OneGroup}
use Rattle.model_geometry.specs.Geometry.{Shape, IsLawful}
use Rattle.model_image.specs.Image.{IsDiscImage, IsStoppedPress, PressesImage, pressed_image}
use Rattle.model_image.proofs.Headers.{one_header}
use Rattle.ram_outside.specs.declared.image.Image.{Ghosts as Images}
use Rattle.ram_image.specs.declared.pressing.PressOut.TheVariants as presses
use Rattle.ram_sectors.specs.declared.Sectors.{Ghosts as Drives}
use Rattle.ram_mirror.specs.declared.mirror.Mirror.{Mirror}
use Rattle.ram_mirror.specs.Mirrors.{mirror_shows}
use Rattle.ram_report.specs.declared.printing.Event.TheVariants as events
use Rattle.ram_report.specs.declared.printing.MirrorEvent.TheVariants as mirrors
use Rattle.ram_machine.specs.declared.stopped.Stopped.TheVariants as stopped
use Rattle.ram_pair.specs.declared.rooms.PairRooms.{PairRooms}
use Rattle.ram_pair.specs.declared.held.Held.TheVariants as holds
use Rattle.ram_pair.specs.Told.{answered}
use Rattle.ram_pair.specs.PairStates.{PairState, Unpaired, Paired, IsNewMirror, images_of, pressed_images}
use Rattle.ram_pair.specs.Pairs.{AreOfOneGroup, AreIn, LeavesPair}
use Rattle.ram_pair.specs.Opening.{OneRose, OneRefuses, IsMadeOf, AreNoDiscs, IsPressed, PressesBoth}

-- what became of bytes that were known
became : (R : List ℕ → List ℕ → Type 0) (bytes : List ℕ) (before after : Option (List ℕ)) → before ≡ Some bytes → WhereKnown before after R → (now : List ℕ) × (after ≡ Some now) × R bytes now
became R bytes before after known related = by_after after (subst (λ o. WhereKnown o after R) known related)
  where
    by_after : (o : Option (List ℕ)) → WhereKnown (Some bytes) o R → (now : List ℕ) × (o ≡ Some now) × R bytes now
    by_after None is = absurd is
    by_after (Some now) is = (now, refl, is)

-- two counts that are as before have the same sum
pub same_sum : (x y x' y' : ℕ) → x' ≡ x → y' ≡ y → x' + y' ≡ x + y
same_sum x y x' y' first second = omega (arith, first, second)

-- one of two counts rose, and so did their sum
pub sum_rose : {I : Type 0} (images : Images I) (x y x' y' : I) (n m : ℕ) → images.faults x ≡ n → images.faults y ≡ m → OneRose images x y x' y' → Rose (n + m) (images.faults x' + images.faults y')
sum_rose images x y x' y' n m is_n is_m (inl first) = let rose = first.0 in let same = first.1 in omega (arith, is_n, is_m, rose, same)
sum_rose images x y x' y' n m is_n is_m (inr second) = let same = second.0 in let rose = second.1 in omega (arith, is_n, is_m, rose, same)

module _ {S I : Type 0} (sides : Drives S) (lies_in : S → Option (List ℕ)) (images : Images I) (s : PairState) (shape : Shape) (kind_is : shape.layout ≡ OneGroup) (lawful : IsLawful shape) (a b : I) (left : LeavesPair s (images.bytes a) (images.bytes b)) (a' b' : I) where
  -- an image failed in the press
  pub press_stopped : (rooms : PairRooms) → AreOfOneGroup rooms → PressesBoth images a b a' b' shape presses.Failed → IsPressed sides lies_in images s shape (Err stopped.ImageFault) (holds.Images a' b' rooms)
  press_stopped rooms kind (inl first) =
      let now = became IsStoppedPress (images_of s).a (images.bytes a) (images.bytes a') left.a_is first.0.0 in
      record {
        state = Unpaired (record { a = now.0; b = (images_of s).b });
        step = (lawful, record { stopped = inl (now.2, refl) });
        stands = (record { a_is = now.1; b_is = ap (λ (z : I). images.bytes z) first.1 ∙ left.b_is }, kind);
      }
  press_stopped rooms kind (inr second) =
      let made = became (PressesImage shape) (images_of s).a (images.bytes a) (images.bytes a') left.a_is second.0.0 in
      let now = became IsStoppedPress (images_of s).b (images.bytes b) (images.bytes b') left.b_is second.1.0 in
      record {
        state = Unpaired (record { a = made.0; b = now.0 });
        step = (lawful, record { stopped = inr (made.2.bytes, inl now.2) });
        stands = (record { a_is = made.1; b_is = now.1 }, kind);
      }

  module _ (pressed : PressesBoth images a b a' b' shape presses.Done) where
    -- both have the bytes of a new disc
    are_pressed : AreIn images a' b' (pressed_images shape)
    are_pressed =
        let first = became (PressesImage shape) (images_of s).a (images.bytes a) (images.bytes a') left.a_is pressed.0.0 in
        let second = became (PressesImage shape) (images_of s).b (images.bytes b) (images.bytes b') left.b_is pressed.1.0 in
        record {
          a_is = first.1 ∙ ap (λ (l : List ℕ). Some l) first.2.bytes;
          b_is = second.1 ∙ ap (λ (l : List ℕ). Some l) second.2.bytes;
        }

    new_disc : IsDiscImage shape (pressed_image shape)
    new_disc =
        let first = became (PressesImage shape) (images_of s).a (images.bytes a) (images.bytes a') left.a_is pressed.0.0 in
        subst (λ (l : List ℕ). IsDiscImage shape l) first.2.bytes first.2.image.disc

    -- they are a mirror
    pub press_mirrored : (mirror : Mirror S S) → IsMadeOf sides lies_in images a' b' mirror → IsPressed sides lies_in images s shape (answered (mirrors.OfDisc events.Pressed)) (holds.Mirror mirror)
    press_mirrored mirror made =
        let found = made.new (pressed_images shape) are_pressed in
        let one = one_header found.0 shape (pressed_image shape) (found.1.kind ∙ sym kind_is) found.1.a.has_header new_disc.has_header in
        record {
          state = Paired (record { shown = mirror_shows sides sides mirror; images = pressed_images shape });
          step = (lawful, subst (λ (z : Shape). IsNewMirror z (pressed_images shape) (record { shown = mirror_shows sides sides mirror; images = pressed_images shape })) one found.2);
          stands = record { kind = made.kind; shown_is = refl; a_is = made.a_same.bytes ∙ are_pressed.a_is; b_is = made.b_same.bytes ∙ are_pressed.b_is };
        }

    -- they hold discs, so it is not told that they do not
    pub press_holds : (x y : I) (rooms : PairRooms) → AreNoDiscs sides lies_in images a' b' x y × AreOfOneGroup rooms → IsPressed sides lies_in images s shape (Err stopped.NotADisc) (holds.Images x y rooms)
    press_holds x y rooms none = absurd (none.0.none (pressed_images shape) are_pressed shape (record { kind = kind_is; a = new_disc; b = new_disc }))

    -- one of them failed when it was opened
    pub press_refused : (x y : I) (rooms : PairRooms) → OneRefuses images a' b' x y × AreOfOneGroup rooms → IsPressed sides lies_in images s shape (Err stopped.ImageFault) (holds.Images x y rooms)
    press_refused x y rooms refused = record {
      state = Unpaired (pressed_images shape);
      step = (lawful, record { stopped = inr (refl, inr refl) });
      stands = (record { a_is = refused.0.a ∙ are_pressed.a_is; b_is = refused.0.b ∙ are_pressed.b_is }, refused.1);
    }
