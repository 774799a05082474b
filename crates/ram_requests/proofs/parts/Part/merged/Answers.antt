use Rattle.std.specs.Prelude.{◌-◌, ◌*◌, length}
use Rattle.std.proofs.Common.{arith, ap, sym, refl, ◌∙◌}
use Rattle.ram_requests.proofs.PartBytes.{merged_whole}
use Rattle.ram_requests.proofs.parts.Part.merged.Goals as goal

pub returns-clause-merged : goal.returns-clause-merged
returns-clause-merged c =
    let part = c.args.self in
    merged_whole part.request.lba part.request.n part.block part.start part.end part.start_is part.end_is
    (2048 * (part.start - 16 * part.block)) c.skipped-skipped.result c.len.result refl c.skipped-skipped.ensures c.len.ensures
    c.args.from.now c.args.block.now c.requires (sym (ap length c.bytes.ensures.same) ∙ c.bytes.ensures.len) (omega (arith, c.if-len-bytes.false, c.bytes.ensures.len))
