-- By the lemmas on a message that waits.
use Rattle.ram_session.proofs.AllAnswered.{all_answered}
use Rattle.ram_session.proofs.laws.no_answer_is_kept_back.Goals as goal

pub returns : goal.returns
returns c = λ first faults ask told s t turns phase message more left talk may same is.
    all_answered first faults ask told left is s t turns phase message more talk may same
