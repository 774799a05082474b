-- The standing conditions of work on a disc with the lists in use: for the calls that change the lists, and all over them.
use Rattle.std.specs.Prelude.{◌≡◌, ℕ, List, length}
use Rattle.model_geometry.specs.Geometry.{Shape, total}
use Rattle.model_lists.specs.Values.{IsLawfulSdl}
use Rattle.model_pools.specs.Pools.{Pool, CursorsFit}
use Rattle.model_places.specs.Places.{pools_under}
use Rattle.model_places.specs.Valid.{AreValid}
use Rattle.ram_sdl.specs.Sdl.{sdl_of}
use Rattle.ram_lists.specs.Lists.{lists_of}
use Rattle.ram_lists.specs.declared.lists.Lists.{Lists}

-- A medium of n blocks, a layout with these pools and cursors, and the lists in use fit this geometry: the medium has its
-- blocks; the lists are valid, and the secondary one is of the grammar; the pools are those of the disc, and there is a
-- cursor for each, before which each spare is named. (This project's own.)
pub record IsFit (shape : Shape) (blocks : ℕ) (pools : List Pool) (cursors : List ℕ) (lists : Lists) : Type 0 where
  pub size : blocks ≡ total shape
  pub valid : AreValid shape (lists_of lists)
  pub lawful : IsLawfulSdl (sdl_of lists.sdl)
  pub pools_are : pools ≡ pools_under shape (lists_of lists)
  pub one_each : length cursors ≡ length pools
  pub cursors_fit : CursorsFit pools lists.sdl.entries cursors
