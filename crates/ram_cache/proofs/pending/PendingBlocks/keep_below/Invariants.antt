use Rattle.std.proofs.Common.{◌≡◌, ◌≤◌, ◌-◌, ℕ, ◌<◌, length}
use Rattle.model_cache.specs.Shown.{pending_below}
use Rattle.ram_cache.specs.Rooms.{pending_of, pending_at}
use Rattle.ram_cache.proofs.pending.PendingBlocks.keep_below.Given as goal

abbrev pub invariant-loop-k : goal.invariant-loop-k
invariant-loop-k l = record {
  within : l.k ≤ length (pending_of l.self);
  same : pending_below l.blocks (pending_of l.self) ≡ pending_below l.blocks (pending_of l.fn.self);
  below : (j : ℕ) → j < l.k → (pending_at (pending_of l.self) j).0 < l.blocks;
}

abbrev pub decreases-loop-k : goal.decreases-loop-k
decreases-loop-k l = length (pending_of l.self) - l.k
