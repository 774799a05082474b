use Rattle.std.proofs.Common.{sym, ◌∙◌}
use Rattle.model_pools.specs.Pools.{spares_at, is_unnamed}
use Rattle.ram_spare.proofs.Walks.{used_more, used_all}
use Rattle.ram_spare.proofs.spare.free_from.Goals as goal

pub returns-in-None-clause-finds : goal.returns-in-None-clause-finds
returns-in-None-clause-finds g c =
    used_all (is_unnamed c.args.sdl.now.entries) (spares_at (g.L.Layout.pools c.args.layout.now) c.args.pool) c.args.first c.loop-turn.turn c.loop-turn.invariant (sym c.in-None.ensures)

pub loop-turn-preserved : goal.loop-turn-preserved
loop-turn-preserved g c =
    used_more (is_unnamed c.args.sdl.now.entries) (spares_at (g.L.Layout.pools c.args.layout.now) c.args.pool) c.args.first c.loop-turn.turn c.in-Some.block c.loop-turn.invariant
    (sym c.in-Some.ensures) (sym c.is_free.ensures ∙ c.if-is_free.false)
