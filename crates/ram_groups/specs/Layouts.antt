-- One layout for both kinds: which disc it is of. (This project's own.)
use Rattle.std.specs.Prelude.{◌≡◌, ℕ, ◌+◌, ◌≤◌, List, length}
use Rattle.model_geometry.specs.declared.kinds.LayoutKind.{LayoutKind}
use Rattle.model_geometry.specs.declared.kinds.LayoutKind.TheVariants.{OneGroup, EachZone}
use Rattle.model_geometry.specs.Geometry.{Shape, data_blocks}
use Rattle.model_lists.specs.Values.{Dds}
use Rattle.model_places.specs.Places.{count_of}
use Rattle.model_places.specs.Valid.{IsValidOnSome}
use Rattle.model_pools.specs.Pools.{Pool}
use Rattle.ram_layout.specs.Slipping.{SlipTable, slip_pools, IsSlippingOf}
use Rattle.ram_groups.specs.Zoning.{ZoneTable, zone_pools, IsZoningOf}
use Rattle.ram_groups.specs.declared.any_layout.AnyLayout.{AnyLayout}
use Rattle.ram_groups.specs.declared.any_layout.AnyLayout.TheVariants as layouts

-- the pools of a layout
abbrev pub layout_pools : AnyLayout → List Pool
layout_pools (layouts.Slip table) = slip_pools table
layout_pools (layouts.Zones table) = zone_pools table

-- its data blocks
abbrev pub layout_blocks : AnyLayout → List ℕ
layout_blocks (layouts.Slip table) = data_blocks table.shape
layout_blocks (layouts.Zones table) = data_blocks table.shape

-- it is of this kind
abbrev pub IsOfKind : LayoutKind → AnyLayout → Type 0
IsOfKind kind (layouts.Slip table) = kind ≡ OneGroup
IsOfKind kind (layouts.Zones table) = kind ≡ EachZone

-- the table is that of a disc with one group of spares
pub record IsSlipOf (shape : Shape) (dds : Dds) (ssa : ℕ) (table : SlipTable) : Type 0 where
  pub kind : shape.layout ≡ OneGroup
  pub table_is : IsSlippingOf shape dds (count_of shape ssa) table

-- the table is that of a disc with a group of spares in each zone
pub record IsZonedOf (shape : Shape) (dds : Dds) (table : ZoneTable) : Type 0 where
  pub kind : shape.layout ≡ EachZone
  pub table_is : IsZoningOf shape dds table

-- The layout is that of a structure, and of a size of the supplementary spare area.
abbrev pub IsLayoutOf : Shape → Dds → (ssa : ℕ) → AnyLayout → Type 0
IsLayoutOf shape dds ssa (layouts.Slip table) = IsSlipOf shape dds ssa table
IsLayoutOf shape dds ssa (layouts.Zones table) = IsZonedOf shape dds table

-- a table of one group may have a supplementary spare area of this size
pub record MayHaveArea (ssa : ℕ) (table : SlipTable) : Type 0 where
  pub kind : table.shape.layout ≡ OneGroup
  pub area : IsValidOnSome table.shape ssa
  pub fits : table.primary + count_of table.shape ssa ≤ length table.blocks

-- The layout may have a supplementary spare area of this size; with a group of spares in each zone nothing is asked, and nothing
-- changes.
abbrev pub MayHave : (ssa : ℕ) → AnyLayout → Type 0
MayHave ssa (layouts.Slip table) = MayHaveArea ssa table
MayHave ssa (layouts.Zones table) = Unit {0}

-- the same layout with an area of this size
abbrev pub with_ssa : (ssa : ℕ) → AnyLayout → AnyLayout
with_ssa ssa (layouts.Slip table) = layouts.Slip (record table { logical = count_of table.shape ssa })
with_ssa ssa (layouts.Zones table) = layouts.Zones table
