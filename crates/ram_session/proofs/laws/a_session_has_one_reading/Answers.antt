-- By the lemmas on one message more.
use Rattle.ram_session.proofs.OneReading.{one_reading}
use Rattle.ram_session.proofs.laws.a_session_has_one_reading.Goals as goal

pub returns : goal.returns
returns c = one_reading
