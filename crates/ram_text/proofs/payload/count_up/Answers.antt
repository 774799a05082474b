-- One sector more is counted.
use Rattle.std.proofs.Common.{◌+◌, ◌%◌, vec_len, ap, arith}
use Rattle.ram_text.proofs.HexSteps.{counted_grown}
use Rattle.ram_text.proofs.payload.count_up.Goals as goal

pub loop-sector-preserved : goal.loop-sector-preserved
loop-sector-preserved c = record {
  so_far = counted_grown c.loop-sector.payload.items c.grow.new.payload.items (vec_len c.loop-sector.payload) c.min-end.result c.args.byte c.args.due c.loop-sector.sector _ c.grow.ensures.grown c.min-end.ensures c.loop-sector.invariant.len c.loop-sector.invariant.so_far (ap (λ b. (b + c.loop-sector.sector) % 256) c.from.ensures);
  len = cc (c.grow.ensures.len, c.min-end.ensures);
  room = omega (arith, c.grow.ensures.room, c.loop-sector.invariant.room);
}
