use Rattle.ram_format.proofs.ZoneCounts.{counts_on, counts_still, counts_all}
use Rattle.ram_format.proofs.too_many.found_in.Goals as goal
use Rattle.ram_format.proofs.too_many.found_in.Goals.{then-is_inside, else-is_inside}

pub loop-k-preserved : goal.loop-k-preserved
loop-k-preserved c = elim c.if-is_inside.branch [
  | then-is_inside w ↦ rw w.count-is (counts_on c.args.geometry.now c.args.found.now c.args.zone c.loop-k.k c.loop-k.count _ c.loop-k-test.true c.loop-k.invariant c.is_inside.result c.is_inside.ensures w.if-is_inside.true)
  | else-is_inside w ↦ rw w.count-is (counts_still c.args.geometry.now c.args.found.now c.args.zone c.loop-k.k c.loop-k.count _ c.loop-k-test.true c.loop-k.invariant c.is_inside.result c.is_inside.ensures w.if-is_inside.false)
]

pub returns : goal.returns
returns c = counts_all c.args.geometry.now c.args.found.now c.args.zone c.loop-k.k c.loop-k.count c.loop-k-test.false c.loop-k.invariant.0
