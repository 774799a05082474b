-- The standing conditions of an expansion. (This project's own.)
use Rattle.std.specs.Prelude.{◌≡◌, ℕ}
use Rattle.model_geometry.specs.Geometry.{Shape, total}
use Rattle.model_lists.specs.Values.{IsLawfulSdl}
use Rattle.model_places.specs.Valid.{AreValid}
use Rattle.ram_sdl.specs.Sdl.{sdl_of}
use Rattle.ram_lists.specs.Lists.{lists_of}
use Rattle.ram_lists.specs.declared.lists.Lists.{Lists}

-- A medium of n blocks and the lists in use fit this geometry: the medium has its blocks, the lists are valid, and the
-- secondary one is of the grammar. No layout is asked for: an expansion changes which blocks are spares, and looks for none.
pub record AreFit (shape : Shape) (blocks : ℕ) (lists : Lists) : Type 0 where
  pub size : blocks ≡ total shape
  pub valid : AreValid shape (lists_of lists)
  pub lawful : IsLawfulSdl (sdl_of lists.sdl)
