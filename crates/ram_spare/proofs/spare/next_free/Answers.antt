use Rattle.std.proofs.Common.{sym, ◌∙◌, arith}
use Rattle.model_pools.specs.Pools.{spares_at, is_unnamed}
use Rattle.ram_spare.proofs.Walks.{find_found, find_no_more, next_by}
use Rattle.ram_spare.proofs.spare.next_free.Goals as goal

pub returns-in-Some : goal.returns-in-Some
returns-in-Some g c =
    let pools = g.L.Layout.pools c.args.layout.now in
    let entries = c.args.sdl.now.entries in
    sym (find_found (is_unnamed entries) (spares_at pools c.args.pool) c.first_turn-first.result c.in-Some.free c.in-Some.ensures.finds)
    ∙ next_by pools entries c.args.cursors.now c.args.pool c.requires.fit (omega (arith, c.requires.pool, c.requires.cursors)) c.first_turn-first.result c.args.after (rw c.at.ensures at c.first_turn-first.ensures)

pub returns-in-None : goal.returns-in-None
returns-in-None g c =
    let pools = g.L.Layout.pools c.args.layout.now in
    let entries = c.args.sdl.now.entries in
    sym (find_no_more (is_unnamed entries) (spares_at pools c.args.pool) c.first_turn-first.result c.in-None.ensures.finds)
    ∙ next_by pools entries c.args.cursors.now c.args.pool c.requires.fit (omega (arith, c.requires.pool, c.requires.cursors)) c.first_turn-first.result c.args.after (rw c.at.ensures at c.first_turn-first.ensures)
