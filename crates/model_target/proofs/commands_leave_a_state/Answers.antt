use Rattle.model_cache.specs.Shown.{CacheStandsFor}
use Rattle.model_target.proofs.Found.{step_found}
use Rattle.model_target.proofs.commands_leave_a_state.Goals as goal

pub returns : goal.returns
returns c = λ old new host later cdb payload answer data_in s stood step. step_found old new (CacheStandsFor old) (CacheStandsFor new) s stood host later cdb payload answer data_in step
