use Rattle.model_mirror.proofs.Ahead.{leads_ahead, taken_ahead, given_ahead}
use Rattle.model_mirror.proofs.laws.the_lead_has_the_greater_number.Goals as goal

pub returns-clause-starts : goal.returns-clause-starts
returns-clause-starts c = λ mid new lead other known out leads is. leads_ahead mid new lead other out known leads is

pub returns-clause-taken : goal.returns-clause-taken
returns-clause-taken c = taken_ahead

pub returns-clause-given : goal.returns-clause-given
returns-clause-given c = given_ahead
