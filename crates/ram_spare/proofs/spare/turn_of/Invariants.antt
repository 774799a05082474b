use Rattle.std.specs.Prelude.{◌≢◌, ℕ, ◌<◌, slice_index}
use Rattle.model_pools.specs.Pools.{spares_at}
use Rattle.ram_spare.proofs.spare.turn_of.Given as goal

abbrev pub invariant-loop-k : goal.invariant-loop-k
invariant-loop-k g l = (j : ℕ) → j < l.k → slice_index (spares_at (g.L.Layout.pools l.layout) l.pool) j ≢ l.spare
