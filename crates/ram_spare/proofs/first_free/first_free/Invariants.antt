use Rattle.model_pools.specs.Pools.{spares_at, is_unnamed}
use Rattle.ram_spare.proofs.FirstFree.{IsBeforeFirst}
use Rattle.ram_spare.proofs.first_free.first_free.Given as goal

abbrev pub invariant-loop-turn : goal.invariant-loop-turn
invariant-loop-turn g l = IsBeforeFirst (is_unnamed l.sdl.entries) (spares_at (g.L.Layout.pools l.layout) l.pool) l.turn
