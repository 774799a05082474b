-- A group of spares in each zone, by a table: what it is to its callers, and what holds of it. (This project's own.)
use Rattle.std.specs.Prelude.{◌≡◌, ℕ, ◌+◌, ◌-◌, ◌*◌, ◌<◌, ◌≤◌, List, length, take, drop, map, slice_index, vec_capacity}
use Rattle.std.specs.List.{Contains, range_with_len}
use Rattle.std.specs.List.Sorted.{IsStrictlyIncreasing}
use Rattle.model_geometry.specs.declared.kinds.LayoutKind.TheVariants.{EachZone}
use Rattle.model_geometry.specs.Geometry.{Shape, zone_start}
use Rattle.model_geometry.proofs.DataBlocks.{zones_data}
use Rattle.model_lists.specs.Values.{Dds}
use Rattle.model_places.specs.Places.{unslipped, zones_unslipped, zone_count}
use Rattle.model_pools.specs.Pools.{Pool}
use Rattle.ram_layout.specs.Filling.{kept_in}
use Rattle.ram_runs.specs.Runs.{blocks_in, IsTable, end_of}
use Rattle.ram_groups.specs.declared.zone_layout.ZoneLayout.TheInside.{Inside}

-- A table for zones: the geometry, the data blocks that are not slipped, and the places among these where the zones begin, with
-- the end of all as the last.
pub record ZoneTable : Type 0 where
  pub shape : Shape
  pub blocks : List ℕ
  pub starts : List ℕ

abbrev pub zone_table_in : Inside → ZoneTable
zone_table_in inside = record {
  shape = inside.geometry;
  blocks = blocks_in inside.runs.items;
  starts = inside.starts.items;
}

-- the blocks of a zone: those from its place on to before that of the next
abbrev pub cut_out : (blocks starts : List ℕ) → (zone : ℕ) → List ℕ
cut_out blocks starts zone =
    take (slice_index starts (zone + 1) - slice_index starts zone) (drop (slice_index starts zone) blocks)

-- the pool of a zone: the first of its blocks are logical blocks, and the others its spares
abbrev pub zone_pool : Shape → (blocks starts : List ℕ) → (zone : ℕ) → Pool
zone_pool shape blocks starts zone = record {
  blocks = take (zone_count shape zone) (cut_out blocks starts zone);
  spares = drop (zone_count shape zone) (cut_out blocks starts zone);
}

-- the pools of all zones
abbrev pub zone_pools : ZoneTable → List Pool
zone_pools table = map (zone_pool table.shape table.blocks table.starts) (range_with_len 0 table.shape.zones)

-- The table is that of a structure.
pub record IsZoningOf (shape : Shape) (dds : Dds) (table : ZoneTable) : Type 0 where
  pub same_shape : table.shape ≡ shape
  pub blocks_are : table.blocks ≡ unslipped shape dds
  pub starts_are : (zone : ℕ) → zone ≤ shape.zones
      → slice_index table.starts zone ≡ length (zones_unslipped shape dds zone)

-- the block at this place is of this zone
pub record IsZoneOfPlace (table : ZoneTable) (place zone : ℕ) : Type 0 where
  pub inside : zone < table.shape.zones
  pub from : slice_index table.starts zone ≤ place
  pub before : place < slice_index table.starts (zone + 1)

-- The numbers of blocks of the zones before each of the first n zones, of those that are not slipped.
pub record AreStarts (shape : Shape) (slipped : List ℕ) (count : ℕ) (starts : List ℕ) : Type 0 where
  pub many : length starts ≡ count
  pub each : (zone : ℕ) → zone < count → slice_index starts zone ≡ length (kept_in slipped (zones_data shape zone))

-- there is a group of spares in each zone, and each has more data blocks than spares
pub record IsZoned (shape : Shape) : Type 0 where
  pub kind : shape.layout ≡ EachZone
  pub each : shape.psa + 2 < shape.scale * 25

-- The blocks rise, and the starts cut them in zones, each of which has its logical blocks.
pub record IsCutIntoZones (shape : Shape) (blocks starts : List ℕ) : Type 0 where
  pub rise : IsStrictlyIncreasing blocks
  pub many : length starts ≡ shape.zones + 1
  pub first : slice_index starts 0 ≡ 0
  pub last : slice_index starts shape.zones ≡ length blocks
  pub fits : (zone : ℕ) → zone < shape.zones
      → slice_index starts zone + zone_count shape zone ≤ slice_index starts (zone + 1)
  pub low : (zone block : ℕ) → zone < shape.zones → Contains (cut_out blocks starts zone) block
      → zone_start shape zone ≤ block
  pub high : (zone block : ℕ) → zone < shape.zones → Contains (cut_out blocks starts zone) block
      → block < zone_start shape (zone + 1)

-- what holds of a table: there is room for the runs of any disc, and for the places of its zones
pub record IsZoneTable (inside : Inside) : Type 0 where
  pub zoned : IsZoned inside.geometry
  pub cut : IsCutIntoZones inside.geometry (blocks_in inside.runs.items) inside.starts.items
  pub table : IsTable inside.runs.items
  pub small : end_of 0 inside.runs.items ≤ 147016
  pub roomy : 4127 ≤ vec_capacity inside.runs
  pub starts_room : 36 ≤ vec_capacity inside.starts
