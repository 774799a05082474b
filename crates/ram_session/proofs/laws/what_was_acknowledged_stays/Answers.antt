-- By the lemmas on messages that leave a sector.
use Rattle.ram_session.proofs.Kept.{talk_keeps}
use Rattle.ram_session.proofs.laws.what_was_acknowledged_stays.Goals as goal

pub returns : goal.returns
returns c = talk_keeps
