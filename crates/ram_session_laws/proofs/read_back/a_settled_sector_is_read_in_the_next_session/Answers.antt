-- By the lemmas on two sessions, one after another.
use Rattle.ram_session_laws.proofs.Again.{read_again}
use Rattle.ram_session_laws.proofs.read_back.a_settled_sector_is_read_in_the_next_session.Goals as goal

pub returns : goal.returns
returns c = read_again
