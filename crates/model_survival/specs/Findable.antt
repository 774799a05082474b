-- A disc whose lists can be found: what holds of its cells from one format to the next, whatever cuts and failing blocks come.
-- For the law that no cut loses the disc. (This project's own, as all here.)
use Rattle.std.specs.Prelude.{◌≡◌, ℕ, ◌<◌, ◌⊎◌, List}
use Rattle.model_geometry.specs.Geometry.{Shape, dds_block, sdl_block, sdl_second_block}
use Rattle.model_medium.specs.Cells.{Cell, Dead, IsSameOrDead, cell_at}
use Rattle.model_lists.specs.Values.{Dds, Sdl}
use Rattle.model_lists.specs.declared.versions.Version.{Version}
use Rattle.model_lists.specs.declared.versions.Version.TheVariants.{Two}
use Rattle.model_lists.specs.Texts.{IsDdsText}
use Rattle.model_copies.specs.Copies.{IsArea, Settled}
use Rattle.model_copies.specs.Parts.{HasSdlCopy, SdlIsBetween}
use Rattle.model_places.specs.Valid.{AreValid}
use Rattle.model_survival.specs.Stops.{SdlCellsDie}

-- the copy of the structure in this area is not dead
abbrev pub DdsLives : Shape → List Cell → ℕ → Type 0
DdsLives shape cells area = ¬ (cell_at cells (dds_block shape area) ≡ Dead)

-- The copy in this area of a secondary list of this version has no dead cell.
pub record SdlLives (shape : Shape) (cells : List Cell) (version : Version) (area : ℕ) : Type 0 where
  pub first : ¬ (cell_at cells (sdl_block shape area) ≡ Dead)
  pub second : version ≡ Two → ¬ (cell_at cells (sdl_second_block shape area) ≡ Dead)

-- two areas in which this holds
pub record InTwoAreas (holds : ℕ → Type 0) : Type 0 where
  pub lower : ℕ
  pub upper : ℕ
  pub differ : lower < upper
  pub is_lower : IsArea lower
  pub is_upper : IsArea upper
  pub in_lower : holds lower
  pub in_upper : holds upper

-- At least two copies of each list have no dead cell, where the secondary list is of this version.
pub record HaveTwoCopies (shape : Shape) (cells : List Cell) (version : Version) : Type 0 where
  pub of_dds : InTwoAreas (DdsLives shape cells)
  pub of_sdl : InTwoAreas (SdlLives shape cells version)

-- The copies of the secondary list part at this area: those before it that have no dead cell hold the newer list, and those
-- after it the older one. Nothing is said of its own copy: that one a cut may have spoiled.
pub record PartsAt (shape : Shape) (cells : List Cell) (older newer : Sdl) (at : ℕ) : Type 0 where
  pub before : (area : ℕ) → IsArea area → area < at → SdlLives shape cells newer.version area
      → HasSdlCopy shape cells newer area
  pub after : (area : ℕ) → IsArea area → at < area → SdlLives shape cells older.version area
      → HasSdlCopy shape cells older area

-- The lists can be found: the structure is settled, and says Formatted; the copies of the secondary list part at some area, and
-- what is made of their cells is the older or the newer one; both are valid under the structure, and are one, or the newer one
-- has the greater counter.
pub record IsFindable (shape : Shape) (cells : List Cell) (dds : Dds) (older newer : Sdl) : Type 0 where
  pub valid : AreValid shape (record { dds = dds; sdl = older })
  pub valid' : AreValid shape (record { dds = dds; sdl = newer })
  pub order : (older ≡ newer) ⊎ (older.counter < newer.counter)
  pub settled : Settled IsDdsText (dds_block shape) cells dds
  pub between : SdlIsBetween shape cells older newer
  pub at : ℕ
  pub parts : PartsAt shape cells older newer at

-- the cells of both lists are as they were, or dead
pub record ListCellsDie (shape : Shape) (old new : List Cell) : Type 0 where
  pub dds : (area : ℕ) → IsArea area
      → IsSameOrDead (cell_at old (dds_block shape area)) (cell_at new (dds_block shape area))
  pub sdl : SdlCellsDie shape old new
