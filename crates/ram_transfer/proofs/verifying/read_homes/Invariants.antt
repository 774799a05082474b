use Rattle.std.specs.Prelude.{◌≡◌}
use Rattle.ram_lists.specs.Lists.{lists_of}
use Rattle.ram_transfer.specs.Verifying.{HasVerifiedUpTo}
use Rattle.ram_transfer.proofs.verifying.read_homes.Given as goal

abbrev pub invariant-loop-k : goal.invariant-loop-k
invariant-loop-k g l = record {
  so_far : HasVerifiedUpTo g.M.Medium.world g.M.Medium.reaches l.fn.medium l.medium l.geometry (lists_of l.lists) l.request.lba l.k;
  as_many : g.M.Medium.block_count l.medium ≡ g.M.Medium.block_count l.fn.medium;
}
