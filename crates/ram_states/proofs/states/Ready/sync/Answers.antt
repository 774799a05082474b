use Rattle.std.proofs.Common.{ap, ◌∙◌}
use Rattle.model_medium.specs.Machine.{Machine}
use Rattle.model_drive.proofs.Dying.{settled_dies}
use Rattle.ram_medium.specs.Laws.{machine_shown}
use Rattle.ram_lists.specs.Lists.{lists_of}
use Rattle.ram_transfer.specs.Shown.{shown_under}
use Rattle.ram_states.proofs.Controlling.{cells_stay}
use Rattle.ram_states.proofs.states.Ready.sync.Goals as goal

pub invariant_of-self : goal.invariant_of-self
invariant_of-self g c =
    let dies = cells_stay (machine_shown g.M.Medium.world g.M.MediumControl.arms g.M.MediumControl.armed_cut c.args.self.medium) (machine_shown g.M.Medium.world g.M.MediumControl.arms g.M.MediumControl.armed_cut c.sync.new.self) c.in-Done.ensures.rule in
    record {
      size = c.sync.ensures.as_many ∙ c.args.self.size;
      on = ap (λ (m : Machine). m.world.power) c.in-Done.ensures.rule ∙ c.args.self.on;
      valid = c.args.self.valid;
      settled = settled_dies c.args.self.geometry (g.M.Medium.world c.args.self.medium).cells (g.M.Medium.world c.sync.new.self).cells dies (lists_of c.args.self.memory.lists) c.args.self.settled;
      lawful_dds = c.args.self.lawful_dds;
      lawful_sdl = c.args.self.lawful_sdl;
      laid_out = c.args.self.laid_out;
    }

pub returns-in-Done-clause-rule : goal.returns-in-Done-clause-rule
returns-in-Done-clause-rule g c =
    ap (λ (m : Machine). shown_under c.args.self.geometry m (lists_of c.args.self.memory.lists) c.args.self.memory.workspace.buffer) c.in-Done.ensures.rule
