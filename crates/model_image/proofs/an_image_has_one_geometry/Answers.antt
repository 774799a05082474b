use Rattle.model_image.proofs.Headers.{one_header}
use Rattle.model_image.proofs.an_image_has_one_geometry.Goals as goal

pub returns : goal.returns
returns c = one_header
