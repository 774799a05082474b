-- Of another range.
use Rattle.model_bytes.proofs.Laws.{other_range-put_at}
use Rattle.model_bytes.proofs.writes_stay_in_their_range.Goals as goal

pub returns-clause-others : goal.returns-clause-others
returns-clause-others c = other_range-put_at
