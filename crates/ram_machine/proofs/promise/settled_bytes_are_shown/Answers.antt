use Rattle.ram_machine.proofs.SectorSettled.{settles, stays_settled, shows_settled, read_whole}
use Rattle.ram_machine.proofs.promise.settled_bytes_are_shown.Goals as goal

pub returns-clause-settles : goal.returns-clause-settles
returns-clause-settles c = settles

pub returns-clause-stays : goal.returns-clause-stays
returns-clause-stays c = stays_settled

pub returns-clause-shown : goal.returns-clause-shown
returns-clause-shown c = shows_settled

pub returns-clause-whole : goal.returns-clause-whole
returns-clause-whole c = read_whole
