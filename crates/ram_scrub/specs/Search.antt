-- Where a block stands among blocks that rise, or would: for the search by halving. (This project's own.)
use Rattle.std.specs.Prelude.{◌≡◌, ℕ, ◌<◌, ◌≤◌, List, length, slice_index}

-- the block stands there
pub record IsFoundAt (found : List ℕ) (block index : ℕ) : Type 0 where
  pub inside : index < length found
  pub here : slice_index found index ≡ block

-- the blocks before are lower, and the others higher
pub record IsGapAt (found : List ℕ) (block index : ℕ) : Type 0 where
  pub within : index ≤ length found
  pub lower : (k : ℕ) → k < index → slice_index found k < block
  pub higher : (k : ℕ) → index ≤ k → k < length found → block < slice_index found k
