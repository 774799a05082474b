use Rattle.model_drains.proofs.Chains.{read_costs, cache_costs, through_costs, sync_costs, tick_costs}
use Rattle.model_drains.proofs.laws.a_call_with_the_cache_costs_one_block.Goals as goal

pub returns-clause-reads : goal.returns-clause-reads
returns-clause-reads c old new lba n out sound known cause = read_costs lba n old new out sound known cause

pub returns-clause-writes : goal.returns-clause-writes
returns-clause-writes c old new lba n bytes out sound known cause = cache_costs lba n old new bytes out sound known cause

pub returns-clause-writes_through : goal.returns-clause-writes_through
returns-clause-writes_through c old new lba n out sound known cause = through_costs lba n old new out sound known cause

pub returns-clause-synchronises : goal.returns-clause-synchronises
returns-clause-synchronises c old new out sound known cause = sync_costs old new sound known out cause

pub returns-clause-ticks : goal.returns-clause-ticks
returns-clause-ticks c old new out sound known cause = tick_costs old new sound known out cause
