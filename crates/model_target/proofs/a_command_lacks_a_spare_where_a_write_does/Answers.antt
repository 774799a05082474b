use Rattle.model_cache.specs.Shown.{CacheStandsFor}
use Rattle.model_target.proofs.Sensed.{step_lacks}
use Rattle.model_target.proofs.a_command_lacks_a_spare_where_a_write_does.Goals as goal

pub returns : goal.returns
returns c = λ old new host later cdb payload data_in named step.
    (let lacks = step_lacks old new (CacheStandsFor old) (CacheStandsFor new) host later cdb payload data_in named step in ((lacks.before, lacks.then, lacks.lba, lacks.n, lacks.lacks), lacks.none))
