use Rattle.std.specs.Prelude.{◌≡◌}
use Rattle.ram_lists.specs.Lists.{lists_of}
use Rattle.ram_transfer.proofs.ReadAhead.{ReadAhead}
use Rattle.ram_transfer.proofs.reading.read_parts.Given as goal

abbrev pub invariant-loop-k : goal.invariant-loop-k
invariant-loop-k g l = record {
  ahead : ReadAhead g.M.Medium.world g.M.Medium.reaches l.geometry (lists_of l.lists) l.long l.fn.medium l.medium l.fn.buffer l.buffer l.request.lba l.request.n l.k l.into;
  as_many : g.M.Medium.block_count l.medium ≡ g.M.Medium.block_count l.fn.medium;
}
