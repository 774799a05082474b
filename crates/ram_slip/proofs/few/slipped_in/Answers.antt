use Rattle.ram_slip.proofs.Counted.{counts_on, counts_still}
use Rattle.ram_slip.proofs.few.slipped_in.Goals as goal
use Rattle.ram_slip.proofs.few.slipped_in.Goals.{then-is_inside, else-is_inside}

pub loop-k-preserved : goal.loop-k-preserved
loop-k-preserved c = elim c.if-is_inside.branch [
  | then-is_inside w ↦ rw w.count-is (counts_on c.args.geometry.now c.args.entries.now c.args.zone c.loop-k.k c.loop-k.count _ c.is_inside.result c.loop-k-test.true c.loop-k.invariant c.is_inside.ensures w.if-is_inside.true)
  | else-is_inside w ↦ rw w.count-is (counts_still c.args.geometry.now c.args.entries.now c.args.zone c.loop-k.k c.loop-k.count _ c.is_inside.result c.loop-k-test.true c.loop-k.invariant c.is_inside.ensures w.if-is_inside.false)
]
