use Rattle.model_lists.specs.Texts.{IsDdsText}
use Rattle.model_lists.proofs.DdsTexts as dds_texts
use Rattle.model_geometry.specs.Geometry.{dds_block}
use Rattle.model_copies.proofs.CopyFacts.{copy_between}
use Rattle.model_copies.proofs.SdlParts.{copy_of_two}
use Rattle.model_copies.proofs.laws.two_texts_are_held_between.Goals as goal

pub returns-clause-dds : goal.returns-clause-dds
returns-clause-dds c = λ shape cells a b v area between copy. copy_between IsDdsText dds_texts.one_value (dds_block shape) cells a b v area between copy

pub returns-clause-sdl : goal.returns-clause-sdl
returns-clause-sdl c = copy_of_two
