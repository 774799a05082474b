-- By the lemmas on each call.
use Rattle.model_mirror_laws.proofs.Aging.{ages_know}
use Rattle.model_mirror_laws.proofs.Knowing.{knows_lead, begins_knows, power_knows, read_knows, write_knows, format_knows, resync_knows}
use Rattle.model_mirror_laws.proofs.ahead.what_is_noted_of_the_records_is_true.Goals as goal

pub returns-clause-begins : goal.returns-clause-begins
returns-clause-begins c = begins_knows

pub returns-clause-power : goal.returns-clause-power
returns-clause-power c = λ old new out cause knows. power_knows old new out cause (knows_lead old knows)

pub returns-clause-read : goal.returns-clause-read
returns-clause-read c = λ shape old new sides lba n out cause knows. read_knows old new knows shape sides lba n out cause

pub returns-clause-write : goal.returns-clause-write
returns-clause-write c = λ shape old new sides lba n out cause knows. write_knows old new knows shape sides lba n out cause

pub returns-clause-format : goal.returns-clause-format
returns-clause-format c = λ old new out cause knows. format_knows old new knows out cause

pub returns-clause-resync : goal.returns-clause-resync
returns-clause-resync c = λ shape old new sides out cause knows. resync_knows old new knows shape sides out cause

pub returns-clause-ages : goal.returns-clause-ages
returns-clause-ages c = ages_know
