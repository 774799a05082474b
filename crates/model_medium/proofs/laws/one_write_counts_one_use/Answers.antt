use Rattle.model_medium.proofs.Rules.{write_continues}
use Rattle.model_medium.proofs.laws.one_write_counts_one_use.Goals as goal

pub returns : goal.returns
returns c = λ old new block bytes how to_come rule. write_continues old new block bytes how to_come rule
