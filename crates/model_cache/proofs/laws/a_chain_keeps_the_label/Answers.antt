use Rattle.model_cache.proofs.Counting.{read_keeps, write_keeps, through_keeps, sync_keeps, tick_keeps}
use Rattle.model_cache.proofs.laws.a_chain_keeps_the_label.Goals as goal

pub returns-clause-reads : goal.returns-clause-reads
returns-clause-reads c = read_keeps

pub returns-clause-writes : goal.returns-clause-writes
returns-clause-writes c = write_keeps

pub returns-clause-writes_through : goal.returns-clause-writes_through
returns-clause-writes_through c = through_keeps

pub returns-clause-synchronises : goal.returns-clause-synchronises
returns-clause-synchronises c = sync_keeps

pub returns-clause-ticks : goal.returns-clause-ticks
returns-clause-ticks c = tick_keeps
