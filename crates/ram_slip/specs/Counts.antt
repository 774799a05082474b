-- How many slipped blocks come before a block: for the searches by halving.
use Rattle.std.specs.Prelude.{ℕ, ◌<◌, ◌≤◌, List, length, slice_index}
use Rattle.model_lists.specs.declared.dds.PdlEntry.{PdlEntry}
use Rattle.model_lists.specs.Values.{pdl_blocks}

-- So many entries name blocks before this one, and the others name none before it. (This project's own.)
pub record IsCountBefore (entries : List PdlEntry) (block count : ℕ) : Type 0 where
  pub within : count ≤ length entries
  pub lower : (k : ℕ) → k < count → slice_index (pdl_blocks entries) k < block
  pub others : (k : ℕ) → count ≤ k → k < length entries → block ≤ slice_index (pdl_blocks entries) k
