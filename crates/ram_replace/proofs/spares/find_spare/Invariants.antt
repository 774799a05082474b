use Rattle.std.specs.Prelude.{◌≡◌}
use Rattle.model_pools.specs.Pools.{spares_at, is_unnamed, free_at}
use Rattle.ram_spare.specs.Turns.{ArePassed}
use Rattle.ram_replace.specs.Spares.{HaveFailed}
use Rattle.ram_replace.proofs.spares.find_spare.Given as goal

abbrev pub invariant-loop-tried : goal.invariant-loop-tried
invariant-loop-tried g l = record {
  so_far : HaveFailed g.M.Medium.world g.M.Medium.reaches l.fn.medium l.medium (free_at (g.L.Layout.pools l.layout) l.sdl.entries l.pool) l.from l.tried;
  passed : ArePassed (is_unnamed l.sdl.entries) (spares_at (g.L.Layout.pools l.layout) l.pool) l.tried l.turn;
  as_many : g.M.Medium.block_count l.medium ≡ g.M.Medium.block_count l.fn.medium;
}
