-- What a side of a mirror is beside its disc. For the trait of sides. (This project's own, as all here.)
use Rattle.std.specs.Prelude.{◌≡◌, ℕ, Bool, false, Option, Some, List}
use Rattle.model_geometry.specs.declared.kinds.LayoutKind.{LayoutKind}
use Rattle.model_geometry.specs.Geometry.{Shape, total}
use Rattle.model_image.specs.Cells.{cells_of}
use Rattle.model_image.specs.Image.{IsDiscImage}
use Rattle.model_sectors.specs.Discs.{Standing, Off, candidates}
use Rattle.model_drive.specs.Shown.{Shown}
use Rattle.model_drive.specs.Faults.{faults}
use Rattle.model_drive.specs.Runs.{Loaded, IsOpenedOn}
use Rattle.model_mirror.specs.Watching.{TracksFaults}
use Rattle.ram_medium.specs.declared.control.FailEnd.{FailEnd}
use Rattle.ram_medium.specs.declared.control.FailEnd.TheVariants as fails
use Rattle.ram_machine.specs.Drive.{HasCells}
use Rattle.ram_machine.specs.Underwent.{UnderwentEvents}

-- An image of these bytes was opened: they are the image of a disc of this geometry, in whose state the side is.
pub record IsOpenedSide (geometry : Shape) (bytes : List ℕ) (shown : Shown) (stands : Standing → Type 0) : Type 0 where
  pub image : IsDiscImage geometry bytes
  pub disc : Loaded
  pub opened : IsOpenedOn geometry (cells_of (total geometry) bytes) disc
  pub shown_is : shown ≡ disc.shown
  pub standing_is : stands disc.standing

-- An image that has failed so often was opened as a disc of this geometry, with a layout of this kind; where its bytes are known, they
-- are that disc's. It did not fail. The side lies in the same bytes.
pub record OpensSide (kind : LayoutKind) (image : Option (List ℕ)) (count : ℕ) (geometry : Shape) (shown : Shown)
    (stands : Standing → Type 0) (image' : Option (List ℕ)) (failed : Bool) : Type 0 where
  pub kind_is : geometry.layout ≡ kind
  pub shape_is : shown.shape ≡ geometry
  pub opened : (bytes : List ℕ) → image ≡ Some bytes → IsOpenedSide geometry bytes shown stands
  pub same_bytes : image' ≡ image
  pub count_is : faults shown ≡ count
  pub none_failed : failed ≡ false

-- what a side stands for after a block was made dead: the same, but with the power off where it went off
abbrev pub standing_after_fail : Standing → FailEnd → Standing
standing_after_fail s fails.Done = s
standing_after_fail s (fails.NoBlock blocks) = s
standing_after_fail s fails.Failed = Off (candidates s)

-- What holds of each side: it lies in bytes that have the cells of its medium. Where it underwent nothing but events, each of them did
-- to the medium that it shows, and to these bytes, what the medium's rule says; it is told whether its image failed; and the geometry
-- stays.
pub record SideLaws {D : Type 0} (shows : D → Shown) (underwent : D → D → Type 0) (lies_in : D → Option (List ℕ))
    (has_failed : D → Bool) : Type 0 where
  pub has_cells : (side : D) → HasCells (shows side).medium.world (lies_in side)
  pub by_events : (old new : D) → underwent old new
      → UnderwentEvents (total (shows old).shape) (shows old).medium (lies_in old) (shows new).medium (lies_in new)
  pub tracks : (old new : D) → underwent old new
      → TracksFaults (faults (shows old)) (faults (shows new)) (has_failed old) (has_failed new)
  pub same_shape : (old new : D) → underwent old new → (shows new).shape ≡ (shows old).shape
