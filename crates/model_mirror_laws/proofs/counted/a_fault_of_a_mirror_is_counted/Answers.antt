-- By the lemmas on the counts of both sides.
use Rattle.model_mirror_laws.proofs.FaultCounts.{power_fault, read_fault, write_fault, format_fault, resync_fault, give_fault}
use Rattle.model_mirror_laws.proofs.counted.a_fault_of_a_mirror_is_counted.Goals as goal

pub returns-clause-power : goal.returns-clause-power
returns-clause-power c = power_fault

pub returns-clause-read : goal.returns-clause-read
returns-clause-read c = λ old new lba n cause. read_fault lba n old new cause

pub returns-clause-write : goal.returns-clause-write
returns-clause-write c = λ old new lba n cause. write_fault lba n old new cause

pub returns-clause-format : goal.returns-clause-format
returns-clause-format c = format_fault

pub returns-clause-resync : goal.returns-clause-resync
returns-clause-resync c = resync_fault

pub returns-clause-give_lead : goal.returns-clause-give_lead
returns-clause-give_lead c = give_fault
