use Rattle.model_cache.proofs.Completing.{sync_completes, tick_completes, through_completes}
use Rattle.model_cache.proofs.laws.calls_that_flush_and_can_end_well_do.Goals as goal

pub returns-clause-synchronises : goal.returns-clause-synchronises
returns-clause-synchronises c = sync_completes

pub returns-clause-ticks : goal.returns-clause-ticks
returns-clause-ticks c old new i rest out oldest safely cause = tick_completes old new i rest oldest safely out cause

pub returns-clause-writes_through : goal.returns-clause-writes_through
returns-clause-writes_through c old new lba n out sound known can cause = through_completes old new lba n sound known can out cause
