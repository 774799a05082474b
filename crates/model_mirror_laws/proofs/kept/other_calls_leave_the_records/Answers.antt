-- By the lemmas on what a call leaves of both records.
use Rattle.model_mirror_laws.proofs.MirrorRecords.{read_leaves, write_leaves, format_leaves, resync_leaves}
use Rattle.model_mirror_laws.proofs.kept.other_calls_leave_the_records.Goals as goal

pub returns-clause-read : goal.returns-clause-read
returns-clause-read c = λ shape old new sides lba n out cause. read_leaves lba n shape old new sides out cause

pub returns-clause-write : goal.returns-clause-write
returns-clause-write c = λ shape old new sides lba n out cause. write_leaves lba n shape old new sides out cause

pub returns-clause-format : goal.returns-clause-format
returns-clause-format c = format_leaves

pub returns-clause-resync : goal.returns-clause-resync
returns-clause-resync c = resync_leaves
