use Rattle.model_cache.specs.Shown.{CacheStandsFor}
use Rattle.model_target.proofs.Counted.{step_counted}
use Rattle.model_target.proofs.a_command_that_fails_counts_it.Goals as goal

pub returns : goal.returns
returns c = λ old new host later cdb payload answer data_in step. step_counted old new (CacheStandsFor old) (CacheStandsFor new) host later cdb payload answer data_in step
