-- As many bytes as there are regions, each of them this one.
use Rattle.std.proofs.Common.{vec_len}
use Rattle.model_lists.specs.declared.records.TheConstants.{REGIONS}
use Rattle.ram_bytes.proofs.Writes.{as_many}
use Rattle.ram_record.proofs.regions.Regions.fill.Goals as goal

pub returns : goal.returns
returns c =
    as_many (vec_len c.self.inside.bytes) REGIONS c.args.byte c.fill.new.self.items c.self.invariant (c.fill.ensures.items (λ y same. same))
