use Rattle.std.proofs.Common.{arith}
use Rattle.std.specs.Prelude.{length}
use Rattle.ram_spare.proofs.FirstFree.{all_set, first_free_fit}
use Rattle.ram_spare.proofs.cursors.Cursors.set_to_first_free.Goals as goal

pub returns-clause-fit : goal.returns-clause-fit
returns-clause-fit g c =
    let pools = g.L.Layout.pools c.args.layout.now in
    let entries = c.args.sdl.now.entries in
    first_free_fit pools entries c.loop-pool.self
    (all_set pools entries (length pools) c.loop-pool.pool c.loop-pool.self c.loop-pool.invariant (omega (arith, c.pools-pool-end.ensures.count, c.loop-pool-test.false)))
