use Rattle.model_pools.proofs.Entries.{length-entries_in}
use Rattle.model_pools.proofs.each_valid_entry_uses_up_a_spare.Goals as goal

pub returns : goal.returns
returns c = length-entries_in
