use Rattle.model_places.proofs.ByKind.{slips_few, slips_few_from, slip_told, told_more}
use Rattle.model_places.proofs.too_many_slipped_blocks_are_told.Goals as goal

pub returns-clause-more : goal.returns-clause-more
returns-clause-more c = told_more

pub returns-clause-few : goal.returns-clause-few
returns-clause-few c = λ shape blocks is. (slips_few shape is blocks, slips_few_from shape is blocks)

pub returns-clause-told : goal.returns-clause-told
returns-clause-told c = λ shape blocks is. slip_told shape is blocks
