use Rattle.std.specs.Prelude.{ℕ, ◌<◌, slice_index}
use Rattle.std.specs.List.{Contains}
use Rattle.model_geometry.specs.Geometry.{data_blocks}
use Rattle.model_lists.specs.Values.{pdl_blocks}
use Rattle.ram_slip.proofs.valid.are_data.Given as goal

abbrev pub invariant-loop-entry : goal.invariant-loop-entry
invariant-loop-entry l = (k : ℕ) → k < l.entry-index → Contains (data_blocks l.geometry) (slice_index (pdl_blocks l.entries) k)
