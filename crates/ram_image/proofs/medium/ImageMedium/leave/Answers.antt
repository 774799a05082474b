use Rattle.model_geometry.specs.Geometry.{label_of, total}
use Rattle.ram_medium.specs.Countdown.{arms_of, armed_cut_of}
use Rattle.ram_image.proofs.GoodRows.{good_after_write}
use Rattle.ram_image.proofs.LeftMachine.{disc_after_left, disc_after_stopped, machine_left, machine_stopped}
use Rattle.ram_image.proofs.medium.ImageMedium.leave.Goals as goal

pub invariant_of-self-clause-good : goal.invariant_of-self-clause-good
invariant_of-self-clause-good g c =
    good_after_write (total c.args.self.now.geometry) c.args.block c.args.self.now.good_from c.args.self.now.good_to c.kept_where-self.result c.args.from.now c.args.fate c.stays_good.result
    (g.I.Image.bytes c.args.self.now.image) (g.I.Image.bytes c.leave_cell.new.image) c.requires.inside c.args.self.now.within (λ x e. (c.args.self.now.disc x e).as_long)
    (λ stays. let p = c.stays_good.ensures stays in let q = c.is_known-known.ensures.0 p.0 in (q.0, q.1, p.1)) c.kept_where-self.ensures c.args.self.now.good
    (rw c.total.ensures.blocks at c.in-Done.ensures.bytes)

pub invariant_of-self-clause-disc : goal.invariant_of-self-clause-disc
invariant_of-self-clause-disc g c =
    disc_after_left c.args.self.now.geometry c.args.block c.args.from.now c.args.fate (g.I.Image.bytes c.args.self.now.image) (g.I.Image.bytes c.leave_cell.new.image) c.args.self.now.disc
    (rw c.total.ensures.blocks at c.in-Done.ensures.rule.0)

pub invariant_of-self-in-Failed-clause-disc : goal.invariant_of-self-in-Failed-clause-disc
invariant_of-self-in-Failed-clause-disc g c =
    disc_after_stopped c.args.self.now.geometry c.args.block c.args.from.now (g.I.Image.bytes c.args.self.now.image) (g.I.Image.bytes c.leave_cell.new.image) c.args.self.now.disc
    (rw c.total.ensures.blocks at c.in-Failed.ensures.rule.0)

pub returns-in-Done-clause-rule : goal.returns-in-Done-clause-rule
returns-in-Done-clause-rule g c =
    machine_left (label_of c.args.self.now.geometry) (total c.args.self.now.geometry) c.args.block c.args.from.now c.args.self.now.uses c.args.self.now.cuts
    (g.I.Image.faults c.args.self.now.image) (g.I.Image.faults c.leave_cell.new.image) (arms_of c.args.self.now.armed.value) (armed_cut_of c.args.self.now.armed.value) c.args.self.now.powered c.args.fate
    (g.I.Image.bytes c.args.self.now.image) (g.I.Image.bytes c.leave_cell.new.image) (rw c.total.ensures.blocks at c.in-Done.ensures.rule.0) c.in-Done.ensures.rule.1

pub returns-in-Failed-clause-rule : goal.returns-in-Failed-clause-rule
returns-in-Failed-clause-rule g c =
    machine_stopped (label_of c.args.self.now.geometry) (total c.args.self.now.geometry) c.args.block c.args.from.now c.args.self.now.uses c.args.self.now.cuts
    (g.I.Image.faults c.args.self.now.image) (g.I.Image.faults c.leave_cell.new.image) (arms_of c.args.self.now.armed.value) (armed_cut_of c.args.self.now.armed.value) c.args.self.now.powered
    (g.I.Image.bytes c.args.self.now.image) (g.I.Image.bytes c.leave_cell.new.image) c.requires.inside (rw c.total.ensures.blocks at c.in-Failed.ensures.rule.0) c.in-Failed.ensures.rule.1
