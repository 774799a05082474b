use Rattle.std.specs.Prelude.{length}
use Rattle.std.proofs.Common.{ap, ◌∙◌}
use Rattle.model_sectors.specs.Requests.{merged_in}
use Rattle.ram_requests.proofs.PartBytes.{merged, written_back}
use Rattle.ram_requests.proofs.parts.Part.merge.Goals as goal

pub returns-clause-merged : goal.returns-clause-merged
returns-clause-merged c =
    let part = c.args.self in
    written_back c.args.block.now c.put_bytes.new.into (c.put_bytes.auto.into ∙ ap length c.bytes_mut-bytes.ensures.same)
    ∙ merged part.request.lba part.request.n part.block part.start part.end part.start_is part.end_is
    c.offset-offset.result c.skipped-skipped.result c.len-len.result c.offset-offset.ensures c.skipped-skipped.ensures c.len-len.ensures
    c.args.from.now c.bytes_mut-bytes.result.now c.put_bytes.new.into c.put_bytes.ensures
    ∙ ap (merged_in part.request.lba part.request.n c.args.from.now part.block) c.bytes_mut-bytes.ensures.same
