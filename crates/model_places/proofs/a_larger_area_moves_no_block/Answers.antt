use Rattle.model_places.proofs.Growing.{count_shrinks, block_stays, its_spares_grow}
use Rattle.model_places.proofs.a_larger_area_moves_no_block.Goals as goal

pub returns-clause-count : goal.returns-clause-count
returns-clause-count c = count_shrinks

pub returns-clause-blocks : goal.returns-clause-blocks
returns-clause-blocks c = λ shape dds version small big grows primary area area'. block_stays shape dds small big grows primary area area'

pub returns-clause-spares : goal.returns-clause-spares
returns-clause-spares c = λ shape dds version small big grows primary area area'. its_spares_grow shape dds small big grows primary area area'
