-- What opening an image and taking it back may do: for the trait `Opener`, and for the run that opens the image that it was told.
use Rattle.std.specs.Prelude.{◌≡◌, ℕ, ◌⊎◌, Bool, Option, Some, IfSome, List, [], ◌∷◌, ◌++◌}
use Rattle.std.specs.Option.{option_map}
use Rattle.std.specs.Bool.{OnTrue}
use Rattle.model_counts.specs.Counts.{Rose, counted}
use Rattle.ram_outside.specs.declared.opener.Access.{Access}
use Rattle.ram_outside.specs.declared.opener.Opened.{Opened}
use Rattle.ram_outside.specs.declared.opener.Opened.TheVariants.{Image, Failed}

-- An image that was asked for: by which name, and for what. (This project's own.)
pub record Asking : Type 0 where
  pub name : List ℕ
  pub access : Access

-- What is known of an opener at one time: the image that it gives next and the one after that, the image that was handed back last and the
-- one before that, the images that it was asked for so far, in order, and how many failures it counted. (This project's own.)
pub record OpenerView (I : Type 0) : Type 0 where
  pub next : Option I
  pub after_next : Option I
  pub returned : Option I
  pub returned_before : Option I
  pub asked : Option (List Asking)
  pub faults : ℕ

-- the opener seen so: next, after_next, returned, returned_before, asked, faults (this project's own)
abbrev pub opener_view : {I : Type 0} → Option I → Option I → Option I → Option I → Option (List Asking) → ℕ → OpenerView I
opener_view next after_next returned returned_before asked faults = record {
  next = next;
  after_next = after_next;
  returned = returned;
  returned_before = returned_before;
  asked = asked;
  faults = faults;
}

-- this name, asked for so (this project's own)
abbrev pub asking : Access → List ℕ → Asking
asking access name = record { name = name; access = access }

-- the images that were asked for, and then this one (this project's own)
abbrev pub and_asked : Access → List ℕ → Option (List Asking) → Option (List Asking)
and_asked access name asked = option_map (λ before. before ++ asking access name ∷ []) asked

-- the image that was next is open and has not failed yet, the one after that is next now, and the opener was asked for its name and counted
-- nothing (this project's own)
pub record Opens {I : Type 0} (faults_of : I → ℕ) (access : Access) (name : List ℕ) (old new : OpenerView I) (image : I) : Type 0 where
  pub next : IfSome old.next (λ known. image ≡ known)
  pub moves_on : new.next ≡ old.after_next
  pub unfailed : faults_of image ≡ 0
  pub same : new.returned ≡ old.returned
  pub same_before : new.returned_before ≡ old.returned_before
  pub asked : new.asked ≡ and_asked access name old.asked
  pub count : new.faults ≡ old.faults

-- The opener failed and counted it, gives the same images next, and nothing was handed back. It was asked for the name,
-- or, where it failed before that, for nothing. (This project's own.)
pub record OpenerFails {I : Type 0} (access : Access) (name : List ℕ) (old new : OpenerView I) : Type 0 where
  pub same_next : new.next ≡ old.next
  pub same_after_next : new.after_next ≡ old.after_next
  pub same : new.returned ≡ old.returned
  pub same_before : new.returned_before ≡ old.returned_before
  pub asked : (new.asked ≡ and_asked access name old.asked) ⊎ (new.asked ≡ old.asked)
  pub count : Rose old.faults new.faults

-- What the opening of this name for this may do, by its answer: the opener before and after. (This project's own.)
abbrev pub OpenRule : {I : Type 0} → (I → ℕ) → Access → List ℕ → OpenerView I → OpenerView I → Opened I → Type 0
OpenRule faults_of access name old new (Image image) = Opens faults_of access name old new image
OpenRule faults_of access name old new Failed = OpenerFails access name old new

-- What `close` does: the image is the one handed back last, and the one that was is that before it, where that is known; exactly its failures
-- are counted with the opener's; and what is given next and what was asked for stay. (This project's own.)
pub record CloseRule {I : Type 0} (knows : Bool) (faults_of : I → ℕ) (image : I) (old new : OpenerView I) : Type 0 where
  pub returned : OnTrue knows (new.returned ≡ Some image)
  pub returned_before : OnTrue knows (new.returned_before ≡ old.returned)
  pub same_next : new.next ≡ old.next
  pub same_after_next : new.after_next ≡ old.after_next
  pub same_asked : new.asked ≡ old.asked
  pub count : new.faults ≡ counted old.faults (faults_of image)
