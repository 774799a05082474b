use Rattle.std.proofs.Common.{◌∙◌, sym}
use Rattle.ram_outside.specs.declared.image.Moved.TheVariants as moves
use Rattle.ram_image.proofs.Moments.{reads_pass}
use Rattle.ram_image.proofs.medium.ImageMediumMediumControl.sync.Goals as goal

pub invariant_of-self-clause-disc : goal.invariant_of-self-clause-disc
invariant_of-self-clause-disc g c = λ x e. c.args.self.now.disc x (sym c.in-Done.ensures.rule.same ∙ e)

pub invariant_of-self-clause-good : goal.invariant_of-self-clause-good
invariant_of-self-clause-good g c = λ x e. c.args.self.now.good x (sym c.in-Done.ensures.rule.same ∙ e)

pub invariant_of-self-in-Failed-clause-disc : goal.invariant_of-self-in-Failed-clause-disc
invariant_of-self-in-Failed-clause-disc g c = λ x e. c.args.self.now.disc x (sym c.in-Failed.ensures.rule.same ∙ e)

pub invariant_of-self-in-Failed-clause-good : goal.invariant_of-self-in-Failed-clause-good
invariant_of-self-in-Failed-clause-good g c = λ x e. c.args.self.now.good x (sym c.in-Failed.ensures.rule.same ∙ e)

pub returns-in-Failed-clause-past : goal.returns-in-Failed-clause-past
returns-in-Failed-clause-past g c = reads_pass (g.I.Image.bytes c.args.self.now.image) (g.I.Image.bytes c.sync.new.self) (g.I.Image.past c.args.self.now.image) (g.I.Image.past c.sync.new.self) moves.Failed c.in-Failed.ensures.rule.same c.in-Failed.ensures.past
