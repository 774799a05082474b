-- By the lemmas on the one command of a flush.
use Rattle.ram_session_laws.proofs.Flushed.{message_flushed, flush_settles}
use Rattle.ram_session_laws.proofs.read_back.a_flush_makes_values_last.Goals as goal

pub returns-clause-registers : goal.returns-clause-registers
returns-clause-registers c = message_flushed

pub returns-clause-settles : goal.returns-clause-settles
returns-clause-settles c = flush_settles
