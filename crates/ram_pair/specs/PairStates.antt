-- The states of a run of a mirror: two images, or a mirror of the discs in them. (This project's own, as all here.)
use Rattle.std.specs.Prelude.{◌≡◌, ℕ, ◌⊎◌, false, List}
use Rattle.model_geometry.specs.declared.kinds.LayoutKind.TheVariants.{OneGroup}
use Rattle.model_geometry.specs.Geometry.{Shape, total}
use Rattle.model_image.specs.Cells.{cells_of}
use Rattle.model_image.specs.Image.{IsDiscImage, IsStoppedPress, pressed_image}
use Rattle.model_drive.specs.Shown.{Shown}
use Rattle.model_drive.specs.Faults.{faults}
use Rattle.model_drive.specs.Runs.{Loaded, IsOpenedOn}
use Rattle.model_mirror.specs.Shown.{MirrorShown}
use Rattle.model_mirror.specs.Sides.{side_a, side_b}

-- the bytes of two images, of which the first is side a's
pub record TwoImages : Type 0 where
  pub a : List ℕ
  pub b : List ℕ

-- A mirror: what it shows, and the bytes of its images, also those under cells that are not good.
pub record Mirrored : Type 0 where
  pub shown : MirrorShown
  pub images : TwoImages

-- Two images that are not those of two discs of one geometry, or a mirror of the discs in them.
pub data PairState : Type 0 where
  Unpaired : TwoImages → PairState
  Paired : Mirrored → PairState

-- the bytes of both images
abbrev pub images_of : PairState → TwoImages
images_of (Unpaired images) = images
images_of (Paired s) = s.images

-- Both are images of discs of this geometry, with one group of spares.
pub record AreDiscs (shape : Shape) (images : TwoImages) : Type 0 where
  pub kind : shape.layout ≡ OneGroup
  pub a : IsDiscImage shape images.a
  pub b : IsDiscImage shape images.b

-- a side shows what the disc in an image of these bytes does that was just opened
pub record ShowsOpened (shape : Shape) (bytes : List ℕ) (shown : Shown) : Type 0 where
  pub disc : Loaded
  pub opened : IsOpenedOn shape (cells_of (total shape) bytes) disc
  pub shown_is : shown ≡ disc.shown

-- A mirror of the discs in these images, which were just opened. It is off, and it is not known who leads.
pub record IsNewMirror (shape : Shape) (images : TwoImages) (s : Mirrored) : Type 0 where
  pub a : ShowsOpened shape images.a (side_a s.shown)
  pub b : ShowsOpened shape images.b (side_b s.shown)
  pub off : s.shown.on ≡ false
  pub alone : s.shown.up ≡ false
  pub unknown : s.shown.who.known ≡ false
  pub not_by_hand : s.shown.who.by_hand ≡ false
  pub lead_unseen : s.shown.who.lead.seen ≡ false
  pub other_unseen : s.shown.who.other.seen ≡ false
  pub images_are : s.images ≡ images

-- What a run over these images begins with: a mirror where both hold discs of one geometry, and else the images.
abbrev pub IsFirstPair : TwoImages → PairState → Type 0
IsFirstPair images (Unpaired held) = (held ≡ images) × ((shape : Shape) → ¬ AreDiscs shape images)
IsFirstPair images (Paired s) = (shape : Shape) × AreDiscs shape images × IsNewMirror shape images s

-- the two images of new discs of this geometry
abbrev pub pressed_images : Shape → TwoImages
pressed_images shape = record { a = pressed_image shape; b = pressed_image shape }

-- two discs of this geometry were pressed, and are a mirror
abbrev pub IsPressedPair : Shape → PairState → Type 0
IsPressedPair shape (Unpaired images) = ⊥
IsPressedPair shape (Paired s) = IsNewMirror shape (pressed_images shape) s

-- What a press leaves in which an image failed: the first image was stopped, and the second one not touched; or the first was made anew,
-- and the second was stopped, or made anew too.
pub record IsPressStopped (shape : Shape) (before after : TwoImages) : Type 0 where
  pub stopped : (IsStoppedPress before.a after.a × (after.b ≡ before.b))
      ⊎ ((after.a ≡ pressed_image shape) × (IsStoppedPress before.b after.b ⊎ (after.b ≡ pressed_image shape)))

-- the images are those, and no mirror
abbrev pub IsHalfPressedPair : Shape → PairState → PairState → Type 0
IsHalfPressedPair shape s (Unpaired images) = IsPressStopped shape (images_of s) images
IsHalfPressedPair shape s (Paired t) = ⊥

-- no image failed in between
pub record NoneFailed (old new : MirrorShown) : Type 0 where
  pub a : faults (side_a new) ≡ faults (side_a old)
  pub b : faults (side_b new) ≡ faults (side_b old)
