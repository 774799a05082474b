-- Where an entry of a rising list stands, or would: for the search by halving.
use Rattle.std.specs.Prelude.{ℕ, ◌<◌, ◌≤◌, List, length, slice_index}
use Rattle.model_lists.specs.declared.sdl.SdlEntry.{SdlEntry}
use Rattle.model_lists.specs.Values.{defectives}

-- The entries before this index name lower blocks than this one, the others no lower ones. (This project's own.)
pub record SplitsAt (entries : List SdlEntry) (block index : ℕ) : Type 0 where
  pub within : index ≤ length entries
  pub lower : (k : ℕ) → k < index → slice_index (defectives entries) k < block
  pub others : (k : ℕ) → index ≤ k → k < length entries → block ≤ slice_index (defectives entries) k

-- The entries before this index name lower blocks than this one, the others higher ones. (This project's own.)
pub record IsGapFor (entries : List SdlEntry) (block index : ℕ) : Type 0 where
  pub within : index ≤ length entries
  pub lower : (k : ℕ) → k < index → slice_index (defectives entries) k < block
  pub higher : (k : ℕ) → index ≤ k → k < length entries → block < slice_index (defectives entries) k
