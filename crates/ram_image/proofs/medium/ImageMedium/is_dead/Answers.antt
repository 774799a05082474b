use Rattle.std.specs.Prelude.{◌≢◌, is_some, Option, List, ℕ}
use Rattle.std.specs.Bool.{OnTrue}
use Rattle.std.proofs.Common.{◌∙◌, sym, subst}
use Rattle.model_geometry.specs.Geometry.{label_of, total}
use Rattle.model_medium.specs.Cells.{Dead, cell_at}
use Rattle.model_image.specs.Cells.{cells_known}
use Rattle.ram_medium.specs.Countdown.{arms_of, armed_cut_of}
use Rattle.ram_image.proofs.MachineParts.{exactly_same, cell_found, dead_found}
use Rattle.ram_image.proofs.medium.ImageMedium.is_dead.Goals as goal

pub invariant_of-self-in-Failed-clause-disc : goal.invariant_of-self-in-Failed-clause-disc
invariant_of-self-in-Failed-clause-disc g c = λ x e. c.args.self.now.disc x (sym c.in-Failed.ensures.rule.same ∙ e)

pub invariant_of-self-in-Failed-clause-good : goal.invariant_of-self-in-Failed-clause-good
invariant_of-self-in-Failed-clause-good g c = λ x e. c.args.self.now.good x (sym c.in-Failed.ensures.rule.same ∙ e)

pub returns-in-Dead-clause-rule : goal.returns-in-Dead-clause-rule
returns-in-Dead-clause-rule g c = (
  exactly_same (label_of c.args.self.now.geometry) (total c.args.self.now.geometry) _ _ c.args.self.now.powered c.args.self.now.uses c.args.self.now.cuts _ _ (arms_of c.args.self.now.armed.value) (armed_cut_of c.args.self.now.armed.value)
      c.in-Dead.ensures.rule.0.same c.in-Dead.ensures.rule.0.count,
  dead_found (total c.args.self.now.geometry) c.args.block c.requires _ _ c.in-Dead.ensures.rule.0.same (rw c.total.ensures.blocks at c.in-Dead.ensures.rule.1),
)

pub returns-in-Alive-clause-rule : goal.returns-in-Alive-clause-rule
returns-in-Alive-clause-rule g c = (
  exactly_same (label_of c.args.self.now.geometry) (total c.args.self.now.geometry) _ _ c.args.self.now.powered c.args.self.now.uses c.args.self.now.cuts _ _ (arms_of c.args.self.now.armed.value) (armed_cut_of c.args.self.now.armed.value)
      c.in-Alive.ensures.rule.0.same c.in-Alive.ensures.rule.0.count,
  subst (λ (o : Option (List ℕ)). OnTrue (is_some o) (cell_at (cells_known (total c.args.self.now.geometry) (g.I.Image.bytes c.read_state.new.image)) c.args.block ≢ Dead)) (sym c.in-Alive.ensures.rule.0.same)
      (cell_found (total c.args.self.now.geometry) c.args.block (λ cell. cell ≢ Dead) c.requires _ _ c.in-Alive.ensures.rule.0.same (rw c.total.ensures.blocks at c.in-Alive.ensures.rule.1)),
)
