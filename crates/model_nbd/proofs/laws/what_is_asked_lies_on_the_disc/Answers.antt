-- By the lemmas on what is asked.
use Rattle.model_nbd.proofs.Inverted.{read_lies_on, write_lies_on, zero_lies_on}
use Rattle.model_nbd.proofs.laws.what_is_asked_lies_on_the_disc.Goals as goal

pub returns-clause-read : goal.returns-clause-read
returns-clause-read c = read_lies_on

pub returns-clause-write : goal.returns-clause-write
returns-clause-write c = write_lies_on

pub returns-clause-zero : goal.returns-clause-zero
returns-clause-zero c = zero_lies_on
