use Rattle.std.proofs.Common.{◌≡◌, ℕ, ◌<◌, true, false}
use Rattle.std.specs.Prelude.{if◌then◌else◌}
use Rattle.model_cache.specs.Values.{is_among}
use Rattle.ram_cache.specs.Rooms.{pending_of, pending_at}
use Rattle.ram_cache.proofs.pending.PendingBlocks.first_of.Given as goal

abbrev pub invariant-loop-k : goal.invariant-loop-k
invariant-loop-k l = (j : ℕ) → j < l.k → is_among l.first l.count ((pending_at (pending_of l.self) j).0) ≡ (if l.among then false else true)
