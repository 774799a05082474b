use Rattle.model_places.proofs.ByKind.{slip_counts, slip_area_grows}
use Rattle.model_places.proofs.Layouts.{one_parts, one_logical, one_block, one_spares_at, its_spares_at, length-spares_in}
use Rattle.model_places.proofs.one_group_is_slipping.Goals as goal

pub returns-clause-parts : goal.returns-clause-parts
returns-clause-parts c = λ shape lists is valid area. one_parts shape lists.dds lists.sdl.ssa is valid area

pub returns-clause-logical : goal.returns-clause-logical
returns-clause-logical c = λ shape lists is. one_logical shape lists.dds lists.sdl.ssa is

pub returns-clause-count : goal.returns-clause-count
returns-clause-count c = λ shape lists is. slip_counts shape is lists.sdl.ssa

pub returns-clause-block : goal.returns-clause-block
returns-clause-block c = λ shape lists is valid area. one_block shape lists.dds lists.sdl.ssa is valid area

pub returns-clause-spares : goal.returns-clause-spares
returns-clause-spares c = λ shape lists is. one_spares_at shape lists.dds lists.sdl.ssa is

pub returns-clause-its_spares : goal.returns-clause-its_spares
returns-clause-its_spares c = λ shape lists is valid area. its_spares_at shape lists.dds lists.sdl.ssa is valid area

pub returns-clause-all_spares : goal.returns-clause-all_spares
returns-clause-all_spares c = λ shape lists is valid area. length-spares_in shape lists.dds lists.sdl.ssa is valid area

pub returns-clause-grows : goal.returns-clause-grows
returns-clause-grows c = λ shape is. slip_area_grows shape is
