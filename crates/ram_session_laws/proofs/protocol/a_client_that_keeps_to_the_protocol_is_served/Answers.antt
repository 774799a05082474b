-- By the status of the session; where the words ask for no fault, none is refused.
use Rattle.ram_session_laws.proofs.Served.{served}
use Rattle.ram_session_laws.proofs.Faultless.{served_faultless}
use Rattle.ram_session_laws.proofs.protocol.a_client_that_keeps_to_the_protocol_is_served.Goals as goal

pub returns-clause-served : goal.returns-clause-served
returns-clause-served c = served

pub returns-clause-faultless : goal.returns-clause-faultless
returns-clause-faultless c = served_faultless
