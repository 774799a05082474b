use Rattle.model_cache.specs.Shown.{CacheStandsFor}
use Rattle.model_target.proofs.Whole.{done_whole}
use Rattle.model_target.proofs.a_command_that_is_done_is_whole.Goals as goal

pub returns : goal.returns
returns c = λ old new host later cdb payload data_in operation is step. done_whole old new (CacheStandsFor old) (CacheStandsFor new) host later cdb payload data_in operation is step
