use Rattle.std.proofs.Common.{◌≡◌, sym, ◌∙◌, arith}
use Rattle.model_pools.specs.Pools.{spares_at, is_unnamed}
use Rattle.ram_spare.proofs.FirstFree.{first_here, first_none, first_nowhere, first_later}
use Rattle.ram_spare.proofs.first_free.first_free.Goals as goal

pub returns-then-is_free_among : goal.returns-then-is_free_among
returns-then-is_free_among g c =
    first_here (is_unnamed c.args.sdl.now.entries) (spares_at (g.L.Layout.pools c.args.layout.now) c.args.pool) c.loop-turn.turn c.loop-turn.invariant c.in-Some.block
    (sym c.in-Some.ensures) (sym c.is_free_among.ensures ∙ c.if-is_free_among.true)

pub returns-in-None : goal.returns-in-None
returns-in-None g c =
    first_none (is_unnamed c.args.sdl.now.entries) (spares_at (g.L.Layout.pools c.args.layout.now) c.args.pool) c.loop-turn.turn c.loop-turn.invariant (sym c.in-None.ensures)

pub loop-turn-preserved : goal.loop-turn-preserved
loop-turn-preserved g c =
    first_later (is_unnamed c.args.sdl.now.entries) (spares_at (g.L.Layout.pools c.args.layout.now) c.args.pool) c.loop-turn.turn c.loop-turn.invariant c.in-Some.block
    (sym c.in-Some.ensures) (sym c.is_free_among.ensures ∙ c.if-is_free_among.false)

pub returns : goal.returns
returns g c =
    let spares = spares_at (g.L.Layout.pools c.args.layout.now) c.args.pool in
    let few = c.pools-pools.ensures.few c.args.pool in
    let within = c.loop-turn.invariant.within in
    let at : 4294967295 ≡ c.loop-turn.turn = omega (arith, few, within, c.loop-turn-test.false) in
    at ∙ first_nowhere (is_unnamed c.args.sdl.now.entries) spares c.loop-turn.turn c.loop-turn.invariant (omega (arith, few, within, c.loop-turn-test.false))
