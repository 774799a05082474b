use Rattle.std.proofs.Common.{arith, ◌∙◌, refl}
use Rattle.std.proofs.lemmas.Result.{err_from_is_err_and}
use Rattle.model_geometry.proofs.DataBlocks.{Contains-slice_get}
use Rattle.model_pools.specs.Pools.{spares_at, is_unnamed, free_at}
use Rattle.ram_spare.proofs.Passed.{none_passed, one_more_passed, all_passed}
use Rattle.ram_replace.proofs.FreeSpares.{next_stands, free_few}
use Rattle.ram_replace.proofs.Trying.{none_failed, all_failed, one_more_failed, next_found, stopped_at_next}
use Rattle.ram_replace.proofs.spares.find_spare.Goals as goal

pub loop-tried-init : goal.loop-tried-init
loop-tried-init g c = record {
  so_far = none_failed g.M.Medium.world g.M.Medium.block_count g.M.Medium.reaches g.met.M.Medium.laws c.args.medium.now (free_at (g.L.Layout.pools c.args.layout.now) c.args.sdl.now.entries c.args.pool) c.args.from.now c.requires.on;
  passed = none_passed (is_unnamed c.args.sdl.now.entries) (spares_at (g.L.Layout.pools c.args.layout.now) c.args.pool) c.args.first c.requires.first;
  as_many = refl;
}

pub returns-in_default-clause-rule : goal.returns-in_default-clause-rule
returns-in_default-clause-rule g c =
    let all = all_passed (is_unnamed c.args.sdl.now.entries) (spares_at (g.L.Layout.pools c.args.layout.now) c.args.pool) c.loop-tried.tried c.loop-tried.turn c.loop-tried.invariant.passed c.in_default.ensures.finds in
    all_failed g.M.Medium.world g.M.Medium.block_count g.M.Medium.reaches g.met.M.Medium.laws c.args.medium.now (free_at (g.L.Layout.pools c.args.layout.now) c.args.sdl.now.entries c.args.pool) c.args.from.now c.loop-tried.medium c.loop-tried.tried
    c.loop-tried.invariant.so_far (omega (arith, all))

pub put_block-requires-clause-inside : goal.put_block-requires-clause-inside
put_block-requires-clause-inside g c =
    let inside = c.requires.within c.in-Some.free.block (Contains-slice_get (spares_at (g.L.Layout.pools c.args.layout.now) c.args.pool) c.in-Some.free.turn c.in-Some.free.block c.in-Some.ensures.finds.here) in
    omega (arith, inside, c.loop-tried.invariant.as_many)

pub put_block-requires-clause-on : goal.put_block-requires-clause-on
put_block-requires-clause-on g c = c.loop-tried.invariant.so_far.continues.is_on

pub returns-in_err-kept-clause-rule : goal.returns-in_err-kept-clause-rule
returns-in_err-kept-clause-rule g c =
    let at = next_stands (is_unnamed c.args.sdl.now.entries) (spares_at (g.L.Layout.pools c.args.layout.now) c.args.pool) c.loop-tried.tried c.loop-tried.turn c.loop-tried.invariant.passed c.in-Some.free c.in-Some.ensures.finds in
    let p = err_from_is_err_and c.from_residual.result c.from_residual.ensures.1 in
    rw (p.1, p.2) (stopped_at_next g.M.Medium.world g.M.Medium.block_count g.M.Medium.reaches g.met.M.Medium.laws c.args.medium.now (free_at (g.L.Layout.pools c.args.layout.now) c.args.sdl.now.entries c.args.pool) c.args.from.now
    c.loop-tried.medium c.put_block.new.medium c.loop-tried.tried c.in-Some.free.turn c.in-Some.free.block c.loop-tried.invariant.so_far at _ c.in_err-kept.ensures.rule)

pub returns-then-kept-clause-rule : goal.returns-then-kept-clause-rule
returns-then-kept-clause-rule g c =
    let at = next_stands (is_unnamed c.args.sdl.now.entries) (spares_at (g.L.Layout.pools c.args.layout.now) c.args.pool) c.loop-tried.tried c.loop-tried.turn c.loop-tried.invariant.passed c.in-Some.free c.in-Some.ensures.finds in
    next_found g.M.Medium.world g.M.Medium.block_count g.M.Medium.reaches g.met.M.Medium.laws c.args.medium.now (free_at (g.L.Layout.pools c.args.layout.now) c.args.sdl.now.entries c.args.pool) c.args.from.now
    c.loop-tried.medium c.put_block.new.medium c.loop-tried.tried c.in-Some.free.turn c.in-Some.free.block c.loop-tried.invariant.so_far at (rw c.if-kept.true at c.in_ok-kept.ensures.rule)

pub returns-then-kept-clause-turn : goal.returns-then-kept-clause-turn
returns-then-kept-clause-turn g c = record {
  here = c.in-Some.ensures.finds.here;
  passed = one_more_passed (is_unnamed c.args.sdl.now.entries) (spares_at (g.L.Layout.pools c.args.layout.now) c.args.pool) c.loop-tried.tried c.loop-tried.turn c.loop-tried.invariant.passed c.in-Some.free c.in-Some.ensures.finds;
}

pub loop-tried-preserved : goal.loop-tried-preserved
loop-tried-preserved g c =
    let at = next_stands (is_unnamed c.args.sdl.now.entries) (spares_at (g.L.Layout.pools c.args.layout.now) c.args.pool) c.loop-tried.tried c.loop-tried.turn c.loop-tried.invariant.passed c.in-Some.free c.in-Some.ensures.finds in
    record {
      so_far = one_more_failed g.M.Medium.world g.M.Medium.block_count g.M.Medium.reaches g.met.M.Medium.laws c.args.medium.now (free_at (g.L.Layout.pools c.args.layout.now) c.args.sdl.now.entries c.args.pool) c.args.from.now
          c.loop-tried.medium c.put_block.new.medium c.loop-tried.tried c.in-Some.free.turn c.in-Some.free.block c.loop-tried.invariant.so_far at (rw c.if-kept.false at c.in_ok-kept.ensures.rule);
      passed = one_more_passed (is_unnamed c.args.sdl.now.entries) (spares_at (g.L.Layout.pools c.args.layout.now) c.args.pool) c.loop-tried.tried c.loop-tried.turn c.loop-tried.invariant.passed c.in-Some.free c.in-Some.ensures.finds;
      as_many = c.in_ok-kept.ensures.as_many ∙ c.loop-tried.invariant.as_many;
    }

pub returns-clause-rule : goal.returns-clause-rule
returns-clause-rule g c =
    let few = free_few (is_unnamed c.args.sdl.now.entries) (spares_at (g.L.Layout.pools c.args.layout.now) c.args.pool) in
    let fits = c.pools-pools.ensures.few c.args.pool in
    all_failed g.M.Medium.world g.M.Medium.block_count g.M.Medium.reaches g.met.M.Medium.laws c.args.medium.now (free_at (g.L.Layout.pools c.args.layout.now) c.args.sdl.now.entries c.args.pool) c.args.from.now c.loop-tried.medium c.loop-tried.tried
    c.loop-tried.invariant.so_far (omega (arith, few, fits, c.loop-tried-test.false))

pub returns-then-kept-clause-back : goal.returns-then-kept-clause-back
returns-then-kept-clause-back g c = λ known. c.in_ok-kept.ensures.back c.if-kept.true (c.loop-tried.invariant.so_far.as_known ∙ known)
