-- By the lemma on a read that was done.
use Rattle.ram_session.proofs.ReadData.{read_gives_sectors}
use Rattle.ram_session.proofs.laws.a_good_read_gives_its_sectors.Goals as goal

pub returns : goal.returns
returns c = read_gives_sectors
