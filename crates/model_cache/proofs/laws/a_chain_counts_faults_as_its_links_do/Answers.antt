use Rattle.model_cache.proofs.Counting.{read_counts, write_counts, through_counts, sync_counts, tick_counts}
use Rattle.model_cache.proofs.laws.a_chain_counts_faults_as_its_links_do.Goals as goal

pub returns-clause-reads : goal.returns-clause-reads
returns-clause-reads c = read_counts

pub returns-clause-writes : goal.returns-clause-writes
returns-clause-writes c = write_counts

pub returns-clause-writes_through : goal.returns-clause-writes_through
returns-clause-writes_through c = through_counts

pub returns-clause-synchronises : goal.returns-clause-synchronises
returns-clause-synchronises c = sync_counts

pub returns-clause-ticks : goal.returns-clause-ticks
returns-clause-ticks c = tick_counts
