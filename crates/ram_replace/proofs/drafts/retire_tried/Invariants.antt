use Rattle.std.specs.Prelude.{◌≡◌}
use Rattle.std.specs.List.Sorted.{IsStrictlyIncreasing}
use Rattle.model_lists.specs.Values.{defectives}
use Rattle.model_pools.specs.Pools.{spares_at, is_unnamed, free_at}
use Rattle.model_pools.specs.Moves.{with_retired, tried_of}
use Rattle.ram_sdl.specs.Sdl.{sdl_of}
use Rattle.ram_spare.specs.Turns.{ArePassed}
use Rattle.ram_replace.proofs.drafts.retire_tried.Given as goal

abbrev pub invariant-loop : goal.invariant-loop
invariant-loop g l = record {
  value : sdl_of l.draft ≡ record (sdl_of l.fn.draft) { entries = with_retired (tried_of (free_at (g.L.Layout.pools l.layout) l.sdl.entries l.pool) l.counter) l.sdl.entries };
  rise : IsStrictlyIncreasing (defectives l.draft.entries);
  passed : ArePassed (is_unnamed l.sdl.entries) (spares_at (g.L.Layout.pools l.layout) l.pool) l.counter l.turn;
}
