use Rattle.model_medium.proofs.Rules.{read_continues}
use Rattle.model_medium.proofs.laws.one_read_counts_one_use.Goals as goal

pub returns : goal.returns
returns c = λ old new block into after how to_come rule. read_continues old new block into after how to_come rule
