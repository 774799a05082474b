use Rattle.std.specs.Prelude.{◌≡◌}
use Rattle.ram_lists.specs.Lists.{lists_of}
use Rattle.ram_quiet.specs.Steps.{Follows, GivesAlone}
use Rattle.ram_quiet.proofs.making.quiet.Given as goal

abbrev pub invariant-loop-k : goal.invariant-loop-k
invariant-loop-k g l = record {
  leads : Follows g.M.Medium.world g.M.Medium.reaches g.M.Medium.takes g.M.MediumControl.arms g.M.MediumControl.armed_cut l.geometry l.steps l.k l.fn.medium l.fn.room l.medium l.room;
  alone : GivesAlone l.geometry (g.M.Medium.world l.medium).cells (lists_of l.lists);
  as_many : g.M.Medium.block_count l.medium ≡ g.M.Medium.block_count l.fn.medium;
}
