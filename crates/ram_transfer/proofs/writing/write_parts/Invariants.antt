use Rattle.std.specs.Prelude.{◌≡◌}
use Rattle.ram_groups.specs.Layouts.{layout_pools}
use Rattle.model_medium.specs.Happened.{Happened}
use Rattle.ram_medium.specs.Laws.{machine_shown}
use Rattle.ram_lists.specs.Lists.{lists_of}
use Rattle.ram_lists.specs.Fit.{IsFit}
use Rattle.ram_transfer.proofs.WriteTurns.{WroteSome}
use Rattle.ram_transfer.proofs.writing.write_parts.Given as goal

abbrev pub invariant-loop-k : goal.invariant-loop-k
invariant-loop-k g l = record {
  so_far : WroteSome l.geometry (machine_shown g.M.Medium.world g.M.MediumControl.arms g.M.MediumControl.armed_cut l.fn.medium) (machine_shown g.M.Medium.world g.M.MediumControl.arms g.M.MediumControl.armed_cut l.medium)
      (lists_of l.fn.lists) (lists_of l.lists) l.fn.workspace.buffer l.workspace.buffer l.request.lba l.request.n l.from l.k;
  fit : IsFit l.geometry (g.M.Medium.block_count l.medium) (layout_pools l.workspace.layout) l.workspace.cursors l.lists;
  same_layout : l.workspace.layout ≡ l.fn.workspace.layout;
  happened : Happened g.M.Medium.takes l.fn.medium l.medium;
}
