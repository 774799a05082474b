use Rattle.std.specs.Prelude.{ℕ, ◌<◌, is_some, Option, List}
use Rattle.std.specs.Bool.{OnTrue}
use Rattle.std.proofs.Common.{◌≡◌, ◌∙◌, sym, refl, subst}
use Rattle.model_geometry.specs.Geometry.{Shape, label_of, total}
use Rattle.model_medium.specs.Cells.{Good, cell_at}
use Rattle.model_image.specs.Cells.{cells_known}
use Rattle.ram_medium.specs.Countdown.{arms_of, armed_cut_of}
use Rattle.ram_image.proofs.MachineParts.{exactly_same, cell_found}
use Rattle.ram_image.specs.Medium.{bytes_in, past_in}
use Rattle.ram_image.proofs.Moments.{same_passes}
use Rattle.ram_image.proofs.medium.ImageMedium.read_on.Goals as goal

pub returns-in-NotGood-clause-rule : goal.returns-in-NotGood-clause-rule
returns-in-NotGood-clause-rule g c = (c.in-NotGood.ensures.rule.0, c.in-NotGood.ensures.rule.1, refl)

pub returns-in-Done-clause-rule : goal.returns-in-Done-clause-rule
returns-in-Done-clause-rule g c = (
  exactly_same (label_of c.look_at.new.self.geometry) (total c.look_at.new.self.geometry) _ _ c.look_at.new.self.powered c.look_at.new.self.uses c.look_at.new.self.cuts _ _ (arms_of c.look_at.new.self.armed.value) (armed_cut_of c.look_at.new.self.armed.value)
      c.in-Done.ensures.rule.0.same c.in-Done.ensures.rule.0.count ∙ c.in-Good.ensures.rule.0,
  subst (λ (o : Option (List ℕ)). OnTrue (is_some o) (cell_at (cells_known (total c.look_at.new.self.geometry) (g.I.Image.bytes c.read_data.new.image)) c.args.block ≡ Good c.read_data.new.into)) c.in-Good.ensures.bytes
      (cell_found (total c.look_at.new.self.geometry) c.args.block (λ cell. cell ≡ Good c.read_data.new.into) (subst (λ (s : Shape). c.args.block < total s) (sym c.in-Good.ensures.same_shape) c.requires.inside) _ _ c.in-Done.ensures.rule.0.same
      (rw c.total.ensures.blocks at c.in-Done.ensures.rule.1)),
)

pub returns-in-Done-clause-past : goal.returns-in-Done-clause-past
returns-in-Done-clause-past g c =
    same_passes (bytes_in c.args.self.now) (bytes_in c.look_at.new.self) c.in-Good.ensures.bytes (past_in c.args.self.now) (past_in c.look_at.new.self) (g.I.Image.past c.read_data.new.image) c.in-Good.ensures.past c.in-Done.ensures.past

pub returns-in-Failed-read_data-clause-past : goal.returns-in-Failed-read_data-clause-past
returns-in-Failed-read_data-clause-past g c =
    same_passes (bytes_in c.args.self.now) (bytes_in c.look_at.new.self) c.in-Good.ensures.bytes (past_in c.args.self.now) (past_in c.look_at.new.self) (g.I.Image.past c.read_data.new.image) c.in-Good.ensures.past c.in-Failed-read_data.ensures.past
