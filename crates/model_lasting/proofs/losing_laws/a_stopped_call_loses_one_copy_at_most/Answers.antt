use Rattle.model_lasting.proofs.Losing.{mount_one, read_one, write_one, expand_one, rewrite_one, format_one}
use Rattle.model_lasting.proofs.losing_laws.a_stopped_call_loses_one_copy_at_most.Goals as goal

pub returns-clause-mount : goal.returns-clause-mount
returns-clause-mount c = mount_one

pub returns-clause-read : goal.returns-clause-read
returns-clause-read c = read_one

pub returns-clause-write : goal.returns-clause-write
returns-clause-write c = write_one

pub returns-clause-expand : goal.returns-clause-expand
returns-clause-expand c = expand_one

pub returns-clause-rewrite : goal.returns-clause-rewrite
returns-clause-rewrite c = rewrite_one

pub returns-clause-format : goal.returns-clause-format
returns-clause-format c = format_one
