use Rattle.std.proofs.Common.{refl, ap, ◌∙◌}
use Rattle.model_medium.specs.Machine.{Machine}
use Rattle.ram_medium.specs.Laws.{machine_shown}
use Rattle.ram_medium.specs.declared.control.FailEnd.TheVariants as fails
use Rattle.ram_transfer.specs.Shown.{shown_without}
use Rattle.ram_states.specs.Shown.{shown_bare}
use Rattle.ram_states.proofs.Controlling.{cells_die, bare_dies, marked_dies, stands_failed}
use Rattle.ram_states.proofs.states.NotFormatted.fail.Goals as goal

pub invariant_of-self : goal.invariant_of-self
invariant_of-self g c =
    let dies = cells_die c.args.self.geometry _ (machine_shown g.M.Medium.world g.M.MediumControl.arms g.M.MediumControl.armed_cut c.args.self.medium) (machine_shown g.M.Medium.world g.M.MediumControl.arms g.M.MediumControl.armed_cut c.fail.new.self) c.args.block fails.Done c.in-Done.ensures.rule in
    record {
      size = c.fail.ensures.as_many ∙ c.args.self.size;
      on = ap (λ (m : Machine). m.world.power) c.in-Done.ensures.rule.1 ∙ c.args.self.on;
      bare = bare_dies c.args.self.geometry (g.M.Medium.world c.args.self.medium).cells (g.M.Medium.world c.fail.new.self).cells dies c.args.self.bare;
      marked = marked_dies c.args.self.geometry (g.M.Medium.world c.args.self.medium).cells (g.M.Medium.world c.fail.new.self).cells c.args.self.mark dies c.args.self.marked;
      kind = c.args.self.kind;
    }

pub invariant_of-self-in-NoBlock : goal.invariant_of-self-in-NoBlock
invariant_of-self-in-NoBlock g c =
    let dies = cells_die c.args.self.geometry _ (machine_shown g.M.Medium.world g.M.MediumControl.arms g.M.MediumControl.armed_cut c.args.self.medium) (machine_shown g.M.Medium.world g.M.MediumControl.arms g.M.MediumControl.armed_cut c.fail.new.self) c.args.block (fails.NoBlock _) c.in-NoBlock.ensures.rule in
    record {
      size = c.fail.ensures.as_many ∙ c.args.self.size;
      on = ap (λ (m : Machine). m.world.power) c.in-NoBlock.ensures.rule.2 ∙ c.args.self.on;
      bare = bare_dies c.args.self.geometry (g.M.Medium.world c.args.self.medium).cells (g.M.Medium.world c.fail.new.self).cells dies c.args.self.bare;
      marked = marked_dies c.args.self.geometry (g.M.Medium.world c.args.self.medium).cells (g.M.Medium.world c.fail.new.self).cells c.args.self.mark dies c.args.self.marked;
      kind = c.args.self.kind;
    }

pub returns-in-Failed-clause-stands : goal.returns-in-Failed-clause-stands
returns-in-Failed-clause-stands g c =
    stands_failed (shown_bare c.args.self) (shown_without c.args.self.geometry (machine_shown g.M.Medium.world g.M.MediumControl.arms g.M.MediumControl.armed_cut c.fail.new.self))
    _ c.args.block (record { same_shape = refl; no_lists = refl; no_mark = refl; no_buffer = refl }) c.in-Failed.ensures.rule
