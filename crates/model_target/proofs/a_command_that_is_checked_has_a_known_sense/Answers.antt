use Rattle.model_cache.specs.Shown.{CacheStandsFor}
use Rattle.model_target.proofs.Sensed.{step_known}
use Rattle.model_target.proofs.a_command_that_is_checked_has_a_known_sense.Goals as goal

pub returns : goal.returns
returns c = λ old new host later cdb payload data_in why step. step_known old new (CacheStandsFor old) (CacheStandsFor new) why host later cdb payload data_in step
