use Rattle.std.proofs.Common.{arith}
use Rattle.model_lists.specs.Values.{pdl_blocks}
use Rattle.ram_runs.proofs.Pushes.{pushed_next, pushed_all}
use Rattle.ram_runs.proofs.pushing.push_kept.Goals as goal

pub loop-k-preserved : goal.loop-k-preserved
loop-k-preserved c = (
  pushed_next c.args.runs.now.items c.loop-k.runs.items c.push_range.new.runs.items (pdl_blocks c.args.slipped.now) c.args.first c.args.end c.loop-k.from c.loop-k.k c.block_of-block.result c.loop-k.invariant.0 c.block_of-block.ensures c.args.until c.requires.rise c.requires.until (omega (arith, c.loop-k-test.true, c.loop-k.auto.k-end)) c.push_range.ensures.table c.push_range.ensures.blocks c.push_range.ensures.behind,
  omega (arith, c.push_range.ensures.more, c.loop-k.invariant.1, c.loop-k.auto.k),
  omega (arith, c.push_range.ensures.room, c.loop-k.invariant.2),
  omega (arith, c.loop-k-test.true, c.loop-k.auto.k-end),
)

pub returns-clause-blocks : goal.returns-clause-blocks
returns-clause-blocks c =
    pushed_all c.args.runs.now.items c.loop-k.runs.items c.push_range-2.new.runs.items (pdl_blocks c.args.slipped.now) c.args.first c.args.end c.loop-k.from c.loop-k.k c.loop-k.invariant.0 c.args.until c.requires.until
    (omega (arith, c.loop-k-test.false, c.loop-k.auto.k-end)) c.push_range-2.ensures.blocks

pub returns-clause-more : goal.returns-clause-more
returns-clause-more c = omega (arith, c.push_range-2.ensures.more, c.loop-k.invariant.1, c.loop-k.invariant.3)
