-- By the lemmas on chains of messages.
use Rattle.ram_session_laws.proofs.Kept.{kept_back}
use Rattle.ram_session_laws.proofs.read_back.a_written_sector_is_read_back.Goals as goal

pub returns : goal.returns
returns c = kept_back
