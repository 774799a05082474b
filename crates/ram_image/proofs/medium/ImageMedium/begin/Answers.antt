use Rattle.std.specs.Prelude.{ℕ}
use Rattle.std.specs.Option.{ForSome}
use Rattle.std.proofs.Common.{sym, subst}
use Rattle.model_geometry.specs.Geometry.{total}
use Rattle.ram_image.specs.CellCalls.{HaveGoodStates}
use Rattle.ram_image.proofs.MachineParts.{disc_after_kill, good_after_kill}
use Rattle.ram_image.proofs.medium.ImageMedium.begin.Goals as goal

pub invariant_of-self-in-Done-clause-disc : goal.invariant_of-self-in-Done-clause-disc
invariant_of-self-in-Done-clause-disc g c =
    disc_after_kill c.args.self.now.geometry c.args.block _ (g.I.Image.bytes c.args.self.now.image) (g.I.Image.bytes c.kill_where.new.image) c.args.self.now.disc
    (rw c.total.ensures.blocks at c.in-Done.ensures.rule.0)

pub invariant_of-self-in-Done-clause-good : goal.invariant_of-self-in-Done-clause-good
invariant_of-self-in-Done-clause-good g c =
    subst (λ (end : ℕ). ForSome (g.I.Image.bytes c.kill_where.new.image) (λ held. HaveGoodStates held c.args.self.now.good_from end)) (sym c.kept_where-self.ensures)
    (good_after_kill (total c.args.self.now.geometry) c.args.block c.args.self.now.good_from c.args.self.now.good_to c.count_use-due.result.dies (g.I.Image.bytes c.args.self.now.image) (g.I.Image.bytes c.kill_where.new.image)
    c.args.self.now.good (rw c.total.ensures.blocks at c.in-Done.ensures.rule.0))
