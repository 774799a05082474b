use Rattle.model_pools.specs.Pools.{spares_at, is_unnamed}
use Rattle.ram_spare.specs.Turns.{AreUsed}
use Rattle.ram_spare.proofs.spare.free_from.Given as goal

abbrev pub invariant-loop-turn : goal.invariant-loop-turn
invariant-loop-turn g l = AreUsed (is_unnamed l.sdl.entries) (spares_at (g.L.Layout.pools l.layout) l.pool) l.first l.turn
