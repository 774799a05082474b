use Rattle.model_drains.proofs.Enough.{as_ready, synced, into_good}
use Rattle.model_drains.proofs.laws.what_can_leave_the_cache_does.Goals as goal

pub returns-clause-synchronised : goal.returns-clause-synchronised
returns-clause-synchronised c old new out sound known on formatted none leaves cause = synced old new (as_ready old.drive on formatted sound known) none leaves out cause

pub returns-clause-written : goal.returns-clause-written
returns-clause-written c old new lba n bytes out can sound known inside none leaves all rests cause = into_good old new lba n sound known inside none can all leaves rests bytes out cause
