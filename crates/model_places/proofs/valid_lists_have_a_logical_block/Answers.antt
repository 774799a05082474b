use Rattle.model_places.proofs.Layouts.{some_logical}
use Rattle.model_places.proofs.valid_lists_have_a_logical_block.Goals as goal

pub returns : goal.returns
returns c = λ shape lists valid. some_logical shape lists.dds lists.sdl.ssa valid.primary valid.together.secondary.area
