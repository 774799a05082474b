use Rattle.model_medium.proofs.Rules.{read_rule, write_rule}
use Rattle.model_medium.proofs.laws.steps_obey_the_rules.Goals as goal

pub returns-clause-read : goal.returns-clause-read
returns-clause-read c = λ old new block into after how hidden rule. read_rule old new block into after how hidden rule

pub returns-clause-write : goal.returns-clause-write
returns-clause-write c = λ old new block bytes how rule. write_rule old new block bytes how rule
