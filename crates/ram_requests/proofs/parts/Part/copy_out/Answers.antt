use Rattle.ram_requests.proofs.PartBytes.{filled}
use Rattle.ram_requests.proofs.parts.Part.copy_out.Goals as goal

pub returns : goal.returns
returns c =
    let part = c.args.self in
    filled part.request.lba part.request.n part.block part.start part.end part.start_is part.end_is
    c.offset-offset.result c.skipped.result c.len-len.result c.offset-offset.ensures c.skipped.ensures c.len-len.ensures
    c.bytes.result.now c.args.block.now c.args.into.now c.put_bytes.new.into c.bytes.ensures.same c.put_bytes.ensures
