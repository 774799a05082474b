use Rattle.model_sectors.proofs.Pieces.{sectors_replaced, other_sectors_replaced, length_replaced}
use Rattle.model_sectors.proofs.laws.what_is_replaced_reads_back.Goals as goal

pub returns-clause-written : goal.returns-clause-written
returns-clause-written c = λ disc blocks lba n bytes block at m whole inside long from before within.
    sectors_replaced disc blocks lba n bytes block at m whole inside long from before within

pub returns-clause-elsewhere : goal.returns-clause-elsewhere
returns-clause-elsewhere c = λ disc blocks lba n bytes block at m whole inside long apart.
    other_sectors_replaced disc blocks lba n bytes block at m whole inside long apart

pub returns-clause-as_long : goal.returns-clause-as_long
returns-clause-as_long c = λ disc blocks lba n bytes block whole inside long. length_replaced disc blocks lba n bytes block whole inside long
