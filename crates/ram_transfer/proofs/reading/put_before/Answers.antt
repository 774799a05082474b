use Rattle.std.specs.Prelude.{◌-◌}
use Rattle.std.proofs.Common.{arith, subst}
use Rattle.ram_requests.specs.declared.requests.Request.{Request}
use Rattle.ram_transfer.specs.Reading.{PutsNewest}
use Rattle.ram_transfer.proofs.ReadAhead.{puts_more}
use Rattle.ram_transfer.proofs.reading.put_before.Goals as goal

pub loop-j-preserved : goal.loop-j-preserved
loop-j-preserved c =
    puts_more c.args.request.lba c.args.request.n (c.args.k - 8) c.loop-j.j c.part.result.block c.args.into.now c.loop-j.block c.args.buffer.now c.loop-j.buffer c.put_part.new.buffer
    (omega (arith, c.loop-j.auto.j, c.saturating_sub-j.ensures)) c.part.ensures.block c.loop-j.invariant
    (subst (λ (r : Request). PutsNewest r.lba r.n c.part.result.block c.args.into.now c.loop-j.block c.loop-j.buffer c.put_part.new.buffer) c.part.ensures.request c.put_part.ensures)
