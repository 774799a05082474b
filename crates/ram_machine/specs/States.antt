-- The states of a run: what lies in the drive. For the steps of a run, and for who says what a run leaves.
use Rattle.std.specs.Prelude.{◌≡◌, ℕ, Option, Some, List}
use Rattle.model_geometry.specs.declared.kinds.LayoutKind.{LayoutKind}
use Rattle.model_geometry.specs.Geometry.{Shape, label_of, total}
use Rattle.model_medium.specs.Cells.{Cell}
use Rattle.model_image.specs.Cells.{cells_of}
use Rattle.model_image.specs.Image.{IsDiscImage, IsImageOf, IsStoppedPress, blank_cells, pressed_image}
use Rattle.model_drive.specs.Shown.{Shown, cells_in}
use Rattle.model_cache.specs.Values.{Contents}
use Rattle.model_cache.specs.Shown.{CacheShown}
use Rattle.model_cache.specs.Runs.{CacheLoaded, IsCacheOpenedOn}
use Rattle.model_scrub.specs.Scrubs.{Scrubber, fresh}
use Rattle.model_target.specs.declared.host.Host.{Host}
use Rattle.model_target.specs.Host.{powered_on}

-- the label of the medium is that of the disc's geometry (this project's own, as all here)
abbrev pub IsLabelled : Shown → Type 0
IsLabelled shown = shown.medium.world.label ≡ label_of shown.shape

-- A disc in the drive: what the drive shows and one thing that it stands for, what is remembered for its host, the scrubber of its
-- blocks, and the bytes of its image, also those under cells that are not good.
pub record Served : Type 0 where
  pub disc : CacheLoaded
  pub host : Host
  pub scrub : Scrubber
  pub labelled : IsLabelled disc.shown.drive
  pub bytes : List ℕ
  pub image : IsImageOf disc.shown.drive.shape (cells_in disc.shown.drive) bytes

-- An image that was not opened as a disc: its bytes, and the kind of layout that a disc in it would have.
pub record BareImage : Type 0 where
  pub kind : LayoutKind
  pub bytes : List ℕ

-- What lies in the drive: an image that was not opened as a disc, or a disc.
pub data State : Type 0 where
  Unopened : BareImage → State
  Disc : Served → State

-- the same state, with a scrubber that has found nothing
abbrev pub renewed : State → State
renewed (Unopened image) = Unopened image
renewed (Disc s) = Disc (record s { scrub = fresh })

-- the kind of the layout that the run's discs have
abbrev pub kind_of : State → LayoutKind
kind_of (Unopened image) = image.kind
kind_of (Disc s) = s.disc.shown.drive.shape.layout

-- a drive that shows and stands for these, whose host has this remembered and whose image has these bytes, is in this
-- state
pub record IsIn (shown : CacheShown) (stands : Contents → Type 0) (host : Host) (image : Option (List ℕ)) (s : Served) : Type 0 where
  pub shown_is : shown ≡ s.disc.shown
  pub contents_is : stands s.disc.contents
  pub host_is : host ≡ s.host
  pub bytes_are : image ≡ Some s.bytes

-- an image that is left in this state
abbrev pub IsLeft : State → List ℕ → Type 0
IsLeft (Unopened image) bytes = bytes ≡ image.bytes
IsLeft (Disc s) bytes = bytes ≡ s.bytes

-- A disc of this geometry with these cells, in an image of these bytes, was just inserted: the drive is as when its image
-- was opened, its host remembers a power that just came on, and its scrubber has found nothing.
pub record IsInserted (shape : Shape) (cells : List Cell) (bytes : List ℕ) (s : Served) : Type 0 where
  pub opened : IsCacheOpenedOn shape cells s.disc
  pub host_is : s.host ≡ powered_on
  pub scrub_is : s.scrub ≡ fresh
  pub bytes_are : s.bytes ≡ bytes

-- what a run over an image of these bytes begins with: its disc, or the image where it is that of no disc of this kind
abbrev pub IsFirst : List ℕ → State → Type 0
IsFirst bytes (Unopened image) =
    (image.bytes ≡ bytes) × ((shape : Shape) → shape.layout ≡ image.kind → ¬ IsDiscImage shape bytes)
IsFirst bytes (Disc s) = (shape : Shape) × IsDiscImage shape bytes × IsInserted shape (cells_of (total shape) bytes) bytes s

-- a disc of this geometry was pressed, and inserted
abbrev pub IsPressedDisc : Shape → State → Type 0
IsPressedDisc shape (Unopened image) = ⊥
IsPressedDisc shape (Disc s) = IsInserted shape (blank_cells shape) (pressed_image shape) s

-- the image of a disc of this geometry, with blank cells, that was not opened
abbrev pub IsPressedUnopened : Shape → State → Type 0
IsPressedUnopened shape (Unopened image) =
    IsImageOf shape (blank_cells shape) image.bytes × (image.kind ≡ shape.layout)
IsPressedUnopened shape (Disc s) = ⊥

-- what a press that the image stopped leaves: the image as before, no disc image, or one whose cells are blank
abbrev pub IsHalfPressed : State → State → Type 0
IsHalfPressed s (Unopened image) =
    (before : List ℕ) × IsLeft s before × IsStoppedPress before image.bytes × (image.kind ≡ kind_of s)
IsHalfPressed s (Disc t) = ⊥
