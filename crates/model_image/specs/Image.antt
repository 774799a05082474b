-- Which bytes are the image of a disc, and what a press makes: for pressing and opening an image, and for a run.
use Rattle.std.specs.Prelude.{◌≡◌, ℕ, ◌-◌, ◌⊎◌, List, [], ◌∷◌, ◌++◌, codes, length, take, replicate}
use Rattle.byteorder.specs.Endian.{big_bytes}
use Rattle.model_geometry.specs.Geometry.{Shape, IsLawful, total}
use Rattle.model_medium.specs.Cells.{Cell, Blank}
use Rattle.model_image.specs.Cells.{image_len, cells_of}

-- The header of an image: a text, and the three numbers of its geometry in two bytes each. (This project's own.)
abbrev pub header_of : Shape → List ℕ
header_of shape =
    codes "DVDRAM01" ++ big_bytes 2 shape.zones ++ big_bytes 2 shape.scale ++ big_bytes 2 shape.psa ++ 0 ∷ 0 ∷ []

-- The bytes begin with the header of a lawful geometry. (This project's own.)
pub record HasHeader (shape : Shape) (bytes : List ℕ) : Type 0 where
  pub lawful : IsLawful shape
  pub header : take 16 bytes ≡ header_of shape

-- The bytes are the image of a disc of this geometry: its header, and as many bytes as go with it. (This project's own.)
pub record IsDiscImage (shape : Shape) (bytes : List ℕ) : Type 0 where
  pub has_header : HasHeader shape bytes
  pub as_long : length bytes ≡ image_len (total shape)

-- The bytes are the image of a disc of this geometry whose cells are these. (This project's own.)
pub record IsImageOf (shape : Shape) (cells : List Cell) (bytes : List ℕ) : Type 0 where
  pub disc : IsDiscImage shape bytes
  pub cells_are : cells_of (total shape) bytes ≡ cells

-- the cells of a disc that was pressed, all blank
abbrev pub blank_cells : Shape → List Cell
blank_cells shape = replicate (total shape) Blank

-- If the bytes are a disc image, all its cells are blank. (This project's own.)
abbrev pub IsBlankIfDisc : List ℕ → Type 0
IsBlankIfDisc bytes = (shape : Shape) → IsDiscImage shape bytes → cells_of (total shape) bytes ≡ blank_cells shape

-- A press was stopped: the image is as before, or has blank cells alone where it is a disc image at all. (This
-- project's own.)
abbrev pub IsStoppedPress : List ℕ → List ℕ → Type 0
IsStoppedPress before after = (after ≡ before) ⊎ IsBlankIfDisc after

-- the whole image of a disc that was pressed: its header, and zeros behind it (this project's own)
abbrev pub pressed_image : Shape → List ℕ
pressed_image shape = header_of shape ++ replicate (image_len (total shape) - 16) 0

-- A press of this geometry: the image has these bytes whatever it had before, and all its cells are blank. (This
-- project's own.)
pub record PressesImage (shape : Shape) (before after : List ℕ) : Type 0 where
  pub bytes : after ≡ pressed_image shape
  pub image : IsImageOf shape (blank_cells shape) after
