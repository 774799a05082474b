-- What a medium over an image shows, and what it does at each event, also to the image's bytes.
use Rattle.std.specs.Prelude.{◌≡◌, ℕ, Bool, is_some, Option, List}
use Rattle.model_geometry.specs.Geometry.{Shape, label_of, total}
use Rattle.model_medium.specs.World.{World, Span}
use Rattle.model_medium.specs.Machine.{Machine, is_killed}
use Rattle.model_medium.specs.Exact.{Event, Exactly}
use Rattle.model_medium.specs.Happened.{IsEventOf, FollowsByEvents}
use Rattle.model_image.specs.Cells.{cells_known}
use Rattle.ram_outside.specs.Past.{Moment}
use Rattle.ram_outside.specs.declared.image.Image.{Ghosts}
use Rattle.ram_medium.specs.Laws.{machine_of}
use Rattle.ram_medium.specs.Countdown.{arms_of, armed_cut_of}
use Rattle.ram_image.specs.EventBytes.{BytesAt, PastAt}
use Rattle.ram_image.specs.Moments.{PassesOnly}
use Rattle.ram_image.specs.declared.medium.ImageMedium.{ImageMedium}

-- the geometry of a medium's disc
abbrev pub shape_of_medium : {I : Type 0} {d : Ghosts I} → ImageMedium I d → Shape
shape_of_medium medium = medium.geometry

-- what a medium over an image shows: its label is that of its geometry
abbrev pub world_of : {I : Type 0} {d : Ghosts I} → ImageMedium I d → World
world_of {I} {d} medium = record {
  label = label_of medium.geometry;
  known = is_some (d.bytes medium.image);
  cells = cells_known (total medium.geometry) (d.bytes medium.image);
  power = medium.powered;
  uses = medium.uses;
  cuts = medium.cuts;
  faults = d.faults medium.image;
}

-- the same with what is armed on it
abbrev pub machine_in : {I : Type 0} {d : Ghosts I} → ImageMedium I d → Machine
machine_in medium = machine_of (world_of medium) (arms_of medium.armed.value) (armed_cut_of medium.armed.value)

-- the bytes of its image, where they are known
abbrev pub bytes_in : {I : Type 0} {d : Ghosts I} → ImageMedium I d → Option (List ℕ)
bytes_in {I} {d} medium = d.bytes medium.image

-- what its image was after each of its calls, where that is known
abbrev pub past_in : {I : Type 0} {d : Ghosts I} → ImageMedium I d → Option (List Moment)
past_in {I} {d} medium = d.past medium.image

-- at each moment between the two the bytes are so related to those before
abbrev pub PassesIn : {I : Type 0} {d : Ghosts I} → (List ℕ → List ℕ → Type 0) → ImageMedium I d → ImageMedium I d → Type 0
PassesIn R old new = PassesOnly R (bytes_in old) (past_in old) (past_in new)

-- whether the next use of a block makes it dead, as one of its arms runs out
abbrev pub dies_in : {I : Type 0} {d : Ghosts I} → ImageMedium I d → ℕ → Bool
dies_in medium block = is_killed block (arms_of medium.armed.value)

-- What an event does on a medium over an image: exactly what it does on a controllable medium, over a block of the
-- same disc, and to these bytes of the image alone; and at each moment within it the image is one that a failure there could leave. (This
-- project's own.)
pub record ImageTakes {I : Type 0} {d : Ghosts I} (old new : ImageMedium I d) (event : Event) : Type 0 where
  pub lawful : IsEventOf (total (shape_of_medium old)) event
  pub exactly : Exactly (machine_in old) (machine_in new) event
  pub same_shape : shape_of_medium new ≡ shape_of_medium old
  pub bytes : BytesAt (machine_in old) (total (shape_of_medium old)) (bytes_in old) (bytes_in new) event
  pub past : PastAt (machine_in old) (total (shape_of_medium old)) (bytes_in old) (past_in old) (past_in new) event

-- what can follow on a medium over an image
abbrev pub ImageReaches : {I : Type 0} {d : Ghosts I} → ImageMedium I d → ImageMedium I d → Span → Type 0
ImageReaches {I} {d} old new span = FollowsByEvents {M = ImageMedium I d} machine_in ImageTakes old new span
