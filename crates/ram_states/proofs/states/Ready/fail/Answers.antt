use Rattle.std.proofs.Common.{refl, ap, ◌∙◌}
use Rattle.model_medium.specs.Machine.{Machine}
use Rattle.model_drive.proofs.Dying.{settled_dies}
use Rattle.ram_medium.specs.Laws.{machine_shown}
use Rattle.ram_medium.specs.declared.control.FailEnd.TheVariants as fails
use Rattle.ram_lists.specs.Lists.{lists_of}
use Rattle.ram_transfer.specs.Shown.{shown_without, shown_under}
use Rattle.ram_states.specs.Shown.{shown_ready}
use Rattle.ram_states.proofs.Controlling.{cells_die, stands_done, stands_failed}
use Rattle.ram_states.proofs.states.Ready.fail.Goals as goal

pub invariant_of-self : goal.invariant_of-self
invariant_of-self g c =
    let dies = cells_die c.args.self.geometry _ (machine_shown g.M.Medium.world g.M.MediumControl.arms g.M.MediumControl.armed_cut c.args.self.medium) (machine_shown g.M.Medium.world g.M.MediumControl.arms g.M.MediumControl.armed_cut c.fail.new.self) c.args.block fails.Done c.in-Done.ensures.rule in
    record {
      size = c.fail.ensures.as_many ∙ c.args.self.size;
      on = ap (λ (m : Machine). m.world.power) c.in-Done.ensures.rule.1 ∙ c.args.self.on;
      valid = c.args.self.valid;
      settled = settled_dies c.args.self.geometry (g.M.Medium.world c.args.self.medium).cells (g.M.Medium.world c.fail.new.self).cells dies (lists_of c.args.self.memory.lists) c.args.self.settled;
      lawful_dds = c.args.self.lawful_dds;
      lawful_sdl = c.args.self.lawful_sdl;
      laid_out = c.args.self.laid_out;
    }

pub returns-in-Done-clause-stands : goal.returns-in-Done-clause-stands
returns-in-Done-clause-stands g c =
    stands_done (shown_ready c.args.self) (shown_under c.args.self.geometry (machine_shown g.M.Medium.world g.M.MediumControl.arms g.M.MediumControl.armed_cut c.fail.new.self) (lists_of c.args.self.memory.lists) c.args.self.memory.workspace.buffer)
    _ c.args.block (record { same_shape = refl; same_lists = refl; same_mark = refl; same_buffer = refl }) c.in-Done.ensures.rule

pub returns-in-Failed-clause-stands : goal.returns-in-Failed-clause-stands
returns-in-Failed-clause-stands g c =
    stands_failed (shown_ready c.args.self) (shown_without c.args.self.geometry (machine_shown g.M.Medium.world g.M.MediumControl.arms g.M.MediumControl.armed_cut c.fail.new.self))
    _ c.args.block (record { same_shape = refl; no_lists = refl; no_mark = refl; no_buffer = refl }) c.in-Failed.ensures.rule
