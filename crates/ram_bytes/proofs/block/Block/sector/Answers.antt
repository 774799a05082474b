-- Sector k begins after k sectors, and has the bytes of one.
use Rattle.std.proofs.Common.{◌∙◌}
use Rattle.ram_bytes.proofs.Writes.{piece}
use Rattle.ram_bytes.proofs.block.Block.sector.Goals as goal

pub returns-clause-same : goal.returns-clause-same
returns-clause-same c =
    piece 2048 c.args.k c.deref.result.now c.args.self.now (c.deref.ensures.value ∙ c.self.view_is)
