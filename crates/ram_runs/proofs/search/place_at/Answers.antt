use Rattle.std.proofs.Common.{arith}
use Rattle.ram_runs.proofs.Halving.{no_run, none_begun, from_first, place_there, place_small, past_run}
use Rattle.ram_runs.proofs.search.place_at.Goals as goal

pub returns-then-begun-eq0 : goal.returns-then-begun-eq0
returns-then-begun-eq0 c = none_begun no_run c.args.runs.now c.requires.table c.args.block c.count_by_block-begun.result c.count_by_block-begun.ensures c.if-begun-eq0.true

pub overflow_sub-after : goal.overflow_sub-after
overflow_sub-after c = from_first no_run c.args.runs.now c.requires.table c.args.block c.count_by_block-begun.result c.count_by_block-begun.ensures c.if-begun-eq0.false

pub overflow_add-result : goal.overflow_add-result
overflow_add-result c =
    let small = place_small no_run c.args.runs.now c.requires.table c.args.block c.count_by_block-begun.result c.count_by_block-begun.ensures c.if-begun-eq0.false in
    omega (arith, small, c.ranges.block.fits)

pub returns-then-after-run : goal.returns-then-after-run
returns-then-after-run c = place_there no_run c.args.runs.now c.requires.table c.args.block c.count_by_block-begun.result c.count_by_block-begun.ensures c.if-begun-eq0.false c.if-after-run.true

pub returns : goal.returns
returns c = past_run no_run c.args.runs.now c.requires.table c.args.block c.count_by_block-begun.result c.count_by_block-begun.ensures c.if-begun-eq0.false c.if-after-run.false
