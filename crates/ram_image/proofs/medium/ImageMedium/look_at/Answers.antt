use Rattle.std.proofs.Common.{◌∙◌, sym}
use Rattle.model_geometry.specs.Geometry.{label_of, total}
use Rattle.ram_medium.specs.Countdown.{arms_of, armed_cut_of}
use Rattle.ram_image.proofs.MachineParts.{exactly_same, not_good_found, none_good}
use Rattle.ram_image.proofs.medium.ImageMedium.look_at.Goals as goal

pub invariant_of-self-in-Failed-clause-disc : goal.invariant_of-self-in-Failed-clause-disc
invariant_of-self-in-Failed-clause-disc g c = λ x e. c.args.self.now.disc x (sym c.in-Failed.ensures.rule.same ∙ e)

pub invariant_of-self-in-Failed-clause-good : goal.invariant_of-self-in-Failed-clause-good
invariant_of-self-in-Failed-clause-good g c = λ x e. c.args.self.now.good x (sym c.in-Failed.ensures.rule.same ∙ e)

pub returns-in-Blocks-eq0-clause-rule : goal.returns-in-Blocks-eq0-clause-rule
returns-in-Blocks-eq0-clause-rule g c = (
  exactly_same (label_of c.args.self.now.geometry) (total c.args.self.now.geometry) _ _ c.args.self.now.powered c.args.self.now.uses c.args.self.now.cuts _ _ (arms_of c.args.self.now.armed.value) (armed_cut_of c.args.self.now.armed.value)
      c.in-Blocks-eq0.ensures.rule.0.same c.in-Blocks-eq0.ensures.rule.0.count,
  not_good_found (total c.args.self.now.geometry) c.args.block c.requires _ _ c.in-Blocks-eq0.ensures.rule.0.same
      (none_good (total c.args.self.now.geometry) c.args.block c.in-Blocks-eq0.field-0 c.in-Blocks-eq0.field-0-test (g.I.Image.bytes c.args.self.now.image) (rw c.total.ensures.blocks at c.in-Blocks-eq0.ensures.rule.3)),
)
