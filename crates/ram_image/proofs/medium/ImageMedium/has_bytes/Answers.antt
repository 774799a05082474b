use Rattle.std.proofs.Common.{◌<◌, refl, sym, subst}
use Rattle.model_geometry.specs.Geometry.{Shape, total}
use Rattle.ram_image.proofs.Knowing.{has_bytes_from}
use Rattle.ram_image.proofs.medium.ImageMedium.has_bytes.Goals as goal

pub returns-clause-rule : goal.returns-clause-rule
returns-clause-rule g c =
    has_bytes_from (total c.look_at.new.self.geometry) c.args.block c.look_at.new.self.good_from c.look_at.new.self.good_to _ _ (g.I.Image.bytes c.look_at.new.self.image)
    (subst (λ (s : Shape). c.args.block < total s) (sym c.look_at.ensures.same_shape) c.requires) refl refl c.look_at.new.self.good c.look_at.result c.look_at.ensures.rule
