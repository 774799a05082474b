-- How a certification goes, data block after data block: for `certify_blocks`.
use Rattle.std.specs.Prelude.{◌≡◌, ℕ, ◌<◌, List, length, slice_index}
use Rattle.model_lists.specs.declared.dds.PdlEntry.{PdlEntry}
use Rattle.model_lists.specs.Values.{pdl_blocks}

-- The next kept block, after n, is this one. (This project's own.)
abbrev pub IsNextKept : List PdlEntry → (passed block : ℕ) → Type 0
IsNextKept kept passed block = (passed < length kept) × (slice_index (pdl_blocks kept) passed ≡ block)
