-- Slipping by a table: what it is to its callers, and what holds of it. (This project's own.)
use Rattle.std.specs.Prelude.{◌≡◌, ℕ, ◌+◌, ◌≤◌, List, [], ◌∷◌, ◌++◌, length, take, drop, reverse, vec_capacity}
use Rattle.std.specs.List.Sorted.{IsStrictlyIncreasing}
use Rattle.model_geometry.specs.Geometry.{Shape}
use Rattle.model_lists.specs.Values.{Dds}
use Rattle.model_places.specs.Places.{unslipped, primary_count}
use Rattle.model_pools.specs.Pools.{Pool}
use Rattle.ram_runs.specs.Runs.{blocks_in, IsTable, end_of}
use Rattle.ram_layout.specs.declared.slip_layout.SlipLayout.TheInside.{Inside}

-- A table for slipping: the geometry, the data blocks that are not slipped, and how many of the first of these are primary spares
-- and of the next logical blocks.
pub record SlipTable : Type 0 where
  pub shape : Shape
  pub blocks : List ℕ
  pub primary : ℕ
  pub logical : ℕ

abbrev pub table_in : Inside → SlipTable
table_in inside = record {
  shape = inside.geometry;
  blocks = blocks_in inside.runs.items;
  primary = inside.primary;
  logical = inside.logical;
}

-- its one pool: the primary spares are taken from the greatest down, and then the supplementary ones
abbrev pub slip_pools : SlipTable → List Pool
slip_pools table = record {
  blocks = take table.logical (drop table.primary table.blocks);
  spares = reverse (take table.primary table.blocks) ++ reverse (drop (table.primary + table.logical) table.blocks);
} ∷ []

-- The table is that of a structure, and of a size of the supplementary spare area.
pub record IsSlippingOf (shape : Shape) (dds : Dds) (logical : ℕ) (table : SlipTable) : Type 0 where
  pub same_shape : table.shape ≡ shape
  pub blocks_are : table.blocks ≡ unslipped shape dds
  pub primary_is : table.primary ≡ primary_count shape dds
  pub logical_is : table.logical ≡ logical

-- what holds of a table: there is room for the runs of any disc
pub record IsSlipTable (inside : Inside) : Type 0 where
  pub table : IsTable inside.runs.items
  pub small : end_of 0 inside.runs.items ≤ 147016
  pub rise : IsStrictlyIncreasing (blocks_in inside.runs.items)
  pub fits : inside.primary + inside.logical ≤ length (blocks_in inside.runs.items)
  pub roomy : 4127 ≤ vec_capacity inside.runs
