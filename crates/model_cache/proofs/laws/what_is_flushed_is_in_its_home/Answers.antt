use Rattle.std.proofs.Common.{arith}
use Rattle.std.specs.Prelude.{length}
use Rattle.model_cache.proofs.FlushedHomes.{all_flushed, all_good, synced_good}
use Rattle.model_cache.proofs.laws.what_is_flushed_is_in_its_home.Goals as goal

pub returns-clause-flushed : goal.returns-clause-flushed
returns-clause-flushed c old new due first i sound known tries has = all_good due old new sound known (all_flushed due (length due) old new first (omega arith) tries) i has

pub returns-clause-synchronised : goal.returns-clause-synchronised
returns-clause-synchronised c old new i bytes sound known cause has inside = synced_good old new cause sound known i bytes has inside
