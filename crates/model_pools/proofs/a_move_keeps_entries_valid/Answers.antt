use Rattle.model_pools.proofs.Moved.{home_moved_in, home_stays_in}
use Rattle.model_pools.proofs.NewEntries.{moved_valid_in}
use Rattle.model_pools.proofs.Shrinks.{moved_free_in}
use Rattle.model_pools.proofs.a_move_keeps_entries_valid.Goals as goal

pub returns-clause-valid : goal.returns-clause-valid
returns-clause-valid c = moved_valid_in

pub returns-clause-moved : goal.returns-clause-moved
returns-clause-moved c = home_moved_in

pub returns-clause-others : goal.returns-clause-others
returns-clause-others c = home_stays_in

pub returns-clause-free : goal.returns-clause-free
returns-clause-free c = moved_free_in
