-- What an image was after each of its calls: for the trait `Image`, and for who says what a stop between two calls leaves. (This project's
-- own, as all here.)
use Rattle.std.specs.Prelude.{◌≡◌, ℕ, zero, suc, ◌⊎◌, Bool, true, false, IsTrue, Option, Some, None, IfSome, List, [], ◌∷◌, All}
use Rattle.ram_outside.specs.Added.{AddsNow}
use Rattle.ram_outside.specs.declared.image.Length.{Length}
use Rattle.ram_outside.specs.declared.image.Length.TheVariants as lengths
use Rattle.ram_outside.specs.declared.image.Moved.{Moved}
use Rattle.ram_outside.specs.declared.image.Moved.TheVariants as moves

-- An image right after a call: its bytes, and whether the call failed.
pub record Moment : Type 0 where
  pub bytes : List ℕ
  pub failed : Bool

-- a call that was done left these bytes
abbrev pub passed : List ℕ → Moment
passed bytes = record { bytes = bytes; failed = false }

-- a call that failed left these bytes
abbrev pub failed_with : List ℕ → Moment
failed_with bytes = record { bytes = bytes; failed = true }

-- the call of this moment was done
abbrev pub IsPassed : Moment → Type 0
IsPassed moment = ¬ IsTrue moment.failed

-- The past of an image and its bytes, at one time, each where it is known. The past is the moments after each call that may change its
-- bytes, and after each that failed, the newest first.
pub record ImageView : Type 0 where
  pub bytes : Option (List ℕ)
  pub past : Option (List Moment)

-- these
abbrev pub image_view : Option (List ℕ) → Option (List Moment) → ImageView
image_view bytes past = record { bytes = bytes; past = past }

-- one moment more, with the bytes that the image has now; where these are not known, its past is not
abbrev pub AddsMoment : (List ℕ → Moment) → Option (List Moment) → Option (List ℕ) → Option (List Moment) → Type 0
AddsMoment moment before None after = after ≡ None
AddsMoment moment before (Some bytes) after = AddsNow (moment bytes) before after

-- A call that failed adds a moment; but where one had failed before, nothing changes.
abbrev pub AddsFailure : ImageView → ImageView → Type 0
AddsFailure old new = AddsMoment failed_with old.past new.bytes new.past ⊎ (new ≡ old)

-- What a call adds to the past that may change bytes, by its answer.
abbrev pub WritePast : ImageView → ImageView → Moved → Type 0
WritePast old new moves.Done = AddsMoment passed old.past new.bytes new.past
WritePast old new moves.Failed = AddsFailure old new

-- What a call adds to it that changes no byte: nothing, unless it fails.
abbrev pub ReadPast : ImageView → ImageView → Moved → Type 0
ReadPast old new moves.Done = new.past ≡ old.past
ReadPast old new moves.Failed = AddsFailure old new

-- the same of `len`
abbrev pub LenPast : ImageView → ImageView → Length → Type 0
LenPast old new (lengths.Is n) = new.past ≡ old.past
LenPast old new lengths.Failed = AddsFailure old new

-- the bytes are those of the newest moment
abbrev pub HasNewest : Option (List ℕ) → List Moment → Type 0
HasNewest bytes [] = Unit {0}
HasNewest bytes (newest ∷ earlier) = bytes ≡ Some newest.bytes

-- Of all calls at most the newest failed: it did where the image has failed at all.
abbrev pub OnlyNewestFailed : (faults : ℕ) → List Moment → Type 0
OnlyNewestFailed zero past = All IsPassed past
OnlyNewestFailed (suc more) [] = ⊥
OnlyNewestFailed (suc more) (newest ∷ earlier) = IsTrue newest.failed × All IsPassed earlier

-- An image that has failed is not touched again: its past ends with the call that failed, and it has the bytes that this call left.
pub record IsFailStop {I : Type 0} (bytes : I → Option (List ℕ)) (faults : I → ℕ) (past : I → Option (List Moment)) : Type 0 where
  pub newest : (image : I) → IfSome (past image) (HasNewest (bytes image))
  pub failed : (image : I) → IfSome (past image) (OnlyNewestFailed (faults image))
