-- As many bytes as the block has, each of them this one.
use Rattle.std.proofs.Common.{vec_len}
use Rattle.ram_bytes.proofs.Writes.{as_many}
use Rattle.ram_bytes.proofs.block.Block.fill.Goals as goal

pub returns : goal.returns
returns c =
    as_many (vec_len c.self.inside.bytes) 32768 c.args.byte c.fill.new.self.items c.self.invariant (c.fill.ensures.items (λ y same. same))
