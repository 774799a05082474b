use Rattle.std.proofs.Common.{ap, ◌∙◌}
use Rattle.model_medium.specs.Machine.{Machine}
use Rattle.ram_medium.specs.Laws.{machine_shown}
use Rattle.ram_transfer.specs.Shown.{shown_unformatted}
use Rattle.ram_states.proofs.Controlling.{cells_stay, bare_dies, marked_dies}
use Rattle.ram_states.proofs.states.NotFormatted.sync.Goals as goal

pub invariant_of-self : goal.invariant_of-self
invariant_of-self g c =
    let dies = cells_stay (machine_shown g.M.Medium.world g.M.MediumControl.arms g.M.MediumControl.armed_cut c.args.self.medium) (machine_shown g.M.Medium.world g.M.MediumControl.arms g.M.MediumControl.armed_cut c.sync.new.self) c.in-Done.ensures.rule in
    record {
      size = c.sync.ensures.as_many ∙ c.args.self.size;
      on = ap (λ (m : Machine). m.world.power) c.in-Done.ensures.rule ∙ c.args.self.on;
      bare = bare_dies c.args.self.geometry (g.M.Medium.world c.args.self.medium).cells (g.M.Medium.world c.sync.new.self).cells dies c.args.self.bare;
      marked = marked_dies c.args.self.geometry (g.M.Medium.world c.args.self.medium).cells (g.M.Medium.world c.sync.new.self).cells c.args.self.mark dies c.args.self.marked;
      kind = c.args.self.kind;
    }

pub returns-in-Done-clause-rule : goal.returns-in-Done-clause-rule
returns-in-Done-clause-rule g c =
    ap (λ (m : Machine). shown_unformatted c.args.self.geometry m c.args.self.mark) c.in-Done.ensures.rule
