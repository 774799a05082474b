-- The table of the data blocks that are not slipped, zone after zone. (This project's own.)
use Rattle.std.specs.Prelude.{◌≡◌, ℕ, ◌<◌, ◌≤◌, not, List, length, slice_index}
use Rattle.std.specs.List.{filter}
use Rattle.model_geometry.specs.Geometry.{Shape, zone_start}
use Rattle.model_geometry.proofs.DataBlocks.{zones_data}
use Rattle.model_pools.specs.Listed.{is_listed}
use Rattle.ram_runs.specs.declared.Run.{Run}
use Rattle.ram_runs.specs.Runs.{blocks_in, IsTable, end_of}

-- the blocks of the list that are not slipped
abbrev pub kept_in : List ℕ → List ℕ → List ℕ
kept_in slipped blocks = filter (λ block. not (is_listed slipped block)) blocks

-- The runs of the zones before this one were made, and `passed` slipped blocks were passed.
pub record HasZones (shape : Shape) (slipped : List ℕ) (zone passed : ℕ) (runs : List Run) : Type 0 where
  pub table : IsTable runs
  pub blocks : blocks_in runs ≡ kept_in slipped (zones_data shape zone)
  pub behind : end_of 0 runs ≤ zone_start shape zone
  pub passed_are : (k : ℕ) → k < passed → slice_index slipped k < zone_start shape zone
  pub passed_within : passed ≤ length slipped
