-- By the status of the session.
use Rattle.ram_session.proofs.Promised.{session_keeps}
use Rattle.ram_session.proofs.laws.a_session_keeps_its_promise.Goals as goal

pub returns : goal.returns
returns c = session_keeps
