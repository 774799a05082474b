-- What a drive is that the lines of a script work with, beside its disc. For the trait of drives.
use Rattle.std.specs.Prelude.{◌≡◌, ℕ, false, Option, Some, MatchOption, List}
use Rattle.model_geometry.specs.declared.kinds.LayoutKind.{LayoutKind}
use Rattle.model_geometry.specs.Geometry.{Shape, IsLawful, label_of, total}
use Rattle.model_medium.specs.World.{World}
use Rattle.model_image.specs.Cells.{cells_of}
use Rattle.model_image.specs.Image.{IsDiscImage, IsImageOf}
use Rattle.model_cache.specs.Values.{Contents}
use Rattle.model_cache.specs.Shown.{CacheShown}
use Rattle.model_cache.specs.Runs.{CacheLoaded, IsCacheOpenedOn}
use Rattle.model_target.specs.declared.host.Host.{Host}
use Rattle.model_target.specs.Host.{powered_on}
use Rattle.ram_machine.specs.Underwent.{UnderwentEvents}

-- An image of these bytes was opened: they are the image of a disc with a layout of this kind, in whose state the drive is. (This
-- project's own, as all here.)
pub record IsOpenedBy (kind : LayoutKind) (bytes : List ℕ) (shown : CacheShown) (stands : Contents → Type 0) : Type 0 where
  pub shape : Shape
  pub kind_is : shape.layout ≡ kind
  pub image : IsDiscImage shape bytes
  pub disc : CacheLoaded
  pub opened : IsCacheOpenedOn shape (cells_of (total shape) bytes) disc
  pub shown_is : shown ≡ disc.shown
  pub contents_is : stands disc.contents

-- An image that has failed so often was opened as a disc, where its bytes are known, and it did not fail. The drive lies in
-- the same bytes.
pub record OpensDrive (kind : LayoutKind) (image : Option (List ℕ)) (faults : ℕ) (shown : CacheShown) (stands : Contents → Type 0)
    (image' : Option (List ℕ)) : Type 0 where
  pub opened : (bytes : List ℕ) → image ≡ Some bytes → IsOpenedBy kind bytes shown stands
  pub same_bytes : image' ≡ image
  pub count : shown.drive.medium.world.faults ≡ faults

-- The same, with what is remembered for a host when the power just came on.
pub record IsInsertedTarget (kind : LayoutKind) (image : Option (List ℕ)) (faults : ℕ) (shown : CacheShown) (stands : Contents → Type 0)
    (image' : Option (List ℕ)) (host : Host) : Type 0 where
  pub opens : OpensDrive kind image faults shown stands image'
  pub host_is : host ≡ powered_on

-- The bytes that a medium lies in have its cells, where these are known, and are the image of a disc of each lawful geometry that its
-- label tells.
abbrev pub HasCells : World → Option (List ℕ) → Type 0
HasCells world image = MatchOption image (world.known ≡ false)
    (λ bytes. (shape : Shape) → world.label ≡ label_of shape → IsLawful shape → IsImageOf shape world.cells bytes)

-- What holds of each drive: it lies in bytes that have the cells of its medium, and where it underwent nothing but events,
-- each of them did to the medium that it shows, and to these bytes, what the medium's rule says.
pub record DriveLaws {D : Type 0} (shows : D → CacheShown) (underwent : D → D → Type 0) (lies_in : D → Option (List ℕ)) : Type 0 where
  pub has_cells : (drive : D) → HasCells (shows drive).drive.medium.world (lies_in drive)
  pub by_events : (old new : D) → underwent old new
      → UnderwentEvents (total (shows old).drive.shape) (shows old).drive.medium (lies_in old)
      (shows new).drive.medium (lies_in new)
