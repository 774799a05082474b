use Rattle.std.specs.Prelude.{ℕ, ◌+◌, ◌<◌, slice_index}
use Rattle.model_lists.specs.Values.{pdl_blocks}
use Rattle.ram_slip.proofs.valid.rise.Given as goal

abbrev pub invariant-loop-k : goal.invariant-loop-k
invariant-loop-k l = (k : ℕ) → k + 1 < l.k → slice_index (pdl_blocks l.entries) k < slice_index (pdl_blocks l.entries) (k + 1)
