use Rattle.model_geometry.specs.Geometry.{dds_block, sdl_block, sdl_second_block}
use Rattle.model_medium.specs.Cells.{Cell}
use Rattle.model_lists.specs.Texts.{IsDdsText, IsSdlText, IsSdlSecond}
use Rattle.model_copies.specs.Copies.{Holds}
use Rattle.model_copies.proofs.Rewriting.{one_number, one_number_of_mores}
use Rattle.model_copies.proofs.laws.rewritten_copies_are_one_number.Goals as goal

pub returns-clause-dds : goal.returns-clause-dds
returns-clause-dds c = λ shape old new v m n one two. one_number (λ (cell : Cell). Holds IsDdsText cell v) (dds_block shape) old new 4 m n one two

pub returns-clause-sdl : goal.returns-clause-sdl
returns-clause-sdl c = λ shape old new v m n one two. one_number (λ (cell : Cell). Holds IsSdlText cell v) (sdl_block shape) old new 4 m n one two

pub returns-clause-seconds : goal.returns-clause-seconds
returns-clause-seconds c = λ shape old new v m n one two. one_number (λ (cell : Cell). Holds IsSdlSecond cell v) (sdl_second_block shape) old new 4 m n one two

pub returns-clause-mores : goal.returns-clause-mores
returns-clause-mores c = λ shape cells m n one two. one_number_of_mores shape cells 4 m n one two
