use Rattle.std.specs.Prelude.{◌≡◌, ◌≤◌, vec_capacity}
use Rattle.ram_certify.proofs.CertifiedUpTo.{HasCertifiedUpTo}
use Rattle.ram_certify.proofs.blocks.certify_blocks.Given as goal

abbrev pub invariant-loop-n : goal.invariant-loop-n
invariant-loop-n g l = record {
  so_far : HasCertifiedUpTo g.M.Medium.world g.M.Medium.reaches l.geometry l.kept l.fn.medium l.medium l.most l.n l.passed l.found.items l.count;
  room : l.most ≤ vec_capacity l.found;
  as_many : g.M.Medium.block_count l.medium ≡ g.M.Medium.block_count l.fn.medium;
}
