use Rattle.model_geometry.specs.Geometry.{total}
use Rattle.model_image.proofs.WholeCells.{cells_of-whole}
use Rattle.model_image.proofs.cells_of_an_image_are_whole.Goals as goal

pub returns : goal.returns
returns c = λ shape bytes disc. cells_of-whole (total shape) bytes disc.as_long
