-- The layout of a formatted disc, and how far its spares are used, in the drive's memory. (This project's own.)
use Rattle.std.specs.Prelude.{◌≡◌, ℕ, List, length}
use Rattle.model_geometry.specs.Geometry.{Shape}
use Rattle.model_pools.specs.Pools.{CursorsFit}
use Rattle.model_places.specs.Places.{Lists, pools_under}
use Rattle.ram_groups.specs.Layouts.{IsOfKind, layout_pools}
use Rattle.ram_groups.specs.declared.any_layout.AnyLayout.{AnyLayout}

-- The layout is that of a disc with these lists, and has a cursor for each of its pools; each spare before the cursor of its pool
-- is named.
pub record IsLaidOut (shape : Shape) (lists : Lists) (layout : AnyLayout) (cursors : List ℕ) : Type 0 where
  pub pools_are : layout_pools layout ≡ pools_under shape lists
  pub kind : IsOfKind shape.layout layout
  pub one_each : length cursors ≡ length (layout_pools layout)
  pub cursors_fit : CursorsFit (layout_pools layout) lists.sdl.entries cursors
