-- By the lemmas on both sides in each call.
use Rattle.model_mirror_laws.proofs.Soundness.{power_sides, read_sides, write_sides, format_sides, resync_sides, give_sides}
use Rattle.model_mirror_laws.proofs.kept.a_call_leaves_both_sides_sound.Goals as goal

pub returns-clause-power : goal.returns-clause-power
returns-clause-power c = λ shape old new sides out cause. power_sides shape old new sides out cause

pub returns-clause-read : goal.returns-clause-read
returns-clause-read c = λ shape old new sides lba n out cause. read_sides shape lba n old new sides out cause

pub returns-clause-write : goal.returns-clause-write
returns-clause-write c = λ shape old new sides lba n out cause. write_sides shape lba n old new sides out cause

pub returns-clause-format : goal.returns-clause-format
returns-clause-format c = format_sides

pub returns-clause-resync : goal.returns-clause-resync
returns-clause-resync c = resync_sides

pub returns-clause-give_lead : goal.returns-clause-give_lead
returns-clause-give_lead c = give_sides
