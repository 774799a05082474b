use Rattle.ram_mirrored.proofs.MirrorStays.{settles, stays_settled, shows_settled, read_whole}
use Rattle.ram_mirrored.proofs.laws.what_a_mirror_acknowledged_is_shown.Goals as goal

pub returns-clause-settles : goal.returns-clause-settles
returns-clause-settles c = settles

pub returns-clause-stays : goal.returns-clause-stays
returns-clause-stays c = stays_settled

pub returns-clause-shown : goal.returns-clause-shown
returns-clause-shown c = shows_settled

pub returns-clause-whole : goal.returns-clause-whole
returns-clause-whole c = read_whole
