use Rattle.model_fairness.proofs.Staying.{placed_fair, expanded_fair, dying_fair, fresh_fair}
use Rattle.model_fairness.proofs.a_fair_disc_stays_fair.Goals as goal

pub returns-clause-formatted : goal.returns-clause-formatted
returns-clause-formatted c = fresh_fair

pub returns-clause-written : goal.returns-clause-written
returns-clause-written c = placed_fair

pub returns-clause-expanded : goal.returns-clause-expanded
returns-clause-expanded c = expanded_fair

pub returns-clause-later : goal.returns-clause-later
returns-clause-later c = dying_fair
