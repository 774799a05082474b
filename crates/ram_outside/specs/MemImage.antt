-- The past of an image in memory, of what it keeps. (This project's own, as all here.)
use Rattle.std.specs.Prelude.{ℕ, zero, suc, Option, Some, None, IfSome, List, [], ◌∷◌, All}
use Rattle.std.specs.Option.{option_map}
use Rattle.std.proofs.Common.{refl}
use Rattle.std.proofs.lemmas.Bool.{false≢true}
use Rattle.std.proofs.lemmas.List.Elements.{All-cons, All-nil}
use Rattle.ram_outside.specs.Memory.{ImageState}
use Rattle.ram_outside.specs.Past.{Moment, ImageView, image_view, passed, failed_with, IsPassed, HasNewest, OnlyNewestFailed, IsFailStop}

-- the moments after the calls that were done, of the bytes now and of those before each of them
abbrev pub moments : List ℕ → List (List ℕ) → List Moment
moments bytes [] = []
moments bytes (before ∷ earlier) = passed bytes ∷ moments before earlier

-- and one more, where the image has failed: a call that failed changed nothing, and no other was made after it
abbrev pub and_failed : (faults : ℕ) → List ℕ → List Moment → List Moment
and_failed zero bytes past = past
and_failed (suc more) bytes past = failed_with bytes ∷ past

-- the past of an image in memory
abbrev pub past_of : ImageState → Option (List Moment)
past_of image = option_map (λ earlier. and_failed image.calls.faults image.bytes (moments image.bytes earlier)) image.earlier

-- its bytes and its past, both known where it keeps them
abbrev pub view_now : ImageState → ImageView
view_now image = image_view (Some image.bytes) (past_of image)

all_passed : (bytes : List ℕ) (earlier : List (List ℕ)) → All IsPassed (moments bytes earlier)
all_passed bytes [] = All-nil IsPassed
all_passed bytes (before ∷ earlier) = All-cons IsPassed (passed bytes) (moments before earlier) (λ failed. absurd (false≢true failed)) (all_passed before earlier)

newest_of : (faults : ℕ) (bytes : List ℕ) (earlier : List (List ℕ)) → HasNewest (Some bytes) (and_failed faults bytes (moments bytes earlier))
newest_of zero bytes [] = tt
newest_of zero bytes (before ∷ earlier) = refl
newest_of (suc more) bytes earlier = refl

failed_of : (faults : ℕ) (bytes : List ℕ) (earlier : List (List ℕ)) → OnlyNewestFailed faults (and_failed faults bytes (moments bytes earlier))
failed_of zero bytes earlier = all_passed bytes earlier
failed_of (suc more) bytes earlier = (refl, all_passed bytes earlier)

newest_in : (bytes : List ℕ) (faults : ℕ) (earlier : Option (List (List ℕ)))
    → IfSome (option_map (λ before. and_failed faults bytes (moments bytes before)) earlier) (HasNewest (Some bytes))
newest_in bytes faults None = tt
newest_in bytes faults (Some earlier) = newest_of faults bytes earlier

failed_in : (bytes : List ℕ) (faults : ℕ) (earlier : Option (List (List ℕ)))
    → IfSome (option_map (λ before. and_failed faults bytes (moments bytes before)) earlier) (OnlyNewestFailed faults)
failed_in bytes faults None = tt
failed_in bytes faults (Some earlier) = failed_of faults bytes earlier

-- an image in memory is not touched again once it has failed
pub memory_stops : IsFailStop {I = ImageState} (λ image. Some image.bytes) (λ image. image.calls.faults) past_of
memory_stops = record {
  newest = λ image. newest_in image.bytes image.calls.faults image.earlier;
  failed = λ image. failed_in image.bytes image.calls.faults image.earlier;
}
