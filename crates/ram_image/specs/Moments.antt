-- What an image is in the midst of a call on it: after each call of its own that the call makes. (This project's own, as all here.)
use Rattle.std.specs.Prelude.{◌≡◌, ℕ, Option, Some, List}
use Rattle.model_bytes.specs.Known.{WhereKnown}
use Rattle.ram_outside.specs.Added.{AddsOnly}
use Rattle.ram_outside.specs.Past.{Moment}
use Rattle.ram_outside.specs.declared.image.Image.{Ghosts as Images}

-- the bytes of the image at this moment are so related to those before the call
abbrev pub IsMoment : (List ℕ → List ℕ → Type 0) → Option (List ℕ) → Moment → Type 0
IsMoment R before moment = WhereKnown before (Some moment.bytes) R

-- at each moment between the two they are
abbrev pub PassesOnly : (List ℕ → List ℕ → Type 0) → Option (List ℕ) → Option (List Moment) → Option (List Moment) → Type 0
PassesOnly R before past past' = AddsOnly (IsMoment R before) past past'

-- the same of a call that made the second image of the first
abbrev pub Passes : {I : Type 0} → Images I → (List ℕ → List ℕ → Type 0) → I → I → Type 0
Passes images R old new = PassesOnly R (images.bytes old) (images.past old) (images.past new)

-- no byte changed
abbrev pub IsSame : List ℕ → List ℕ → Type 0
IsSame held held' = held' ≡ held
