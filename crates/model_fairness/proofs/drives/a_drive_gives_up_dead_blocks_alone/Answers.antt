use Rattle.model_fairness.proofs.Calls.{power_fair, read_fair, verify_fair, write_fair, expand_fair, format_fair, dies_fair}
use Rattle.model_fairness.proofs.drives.a_drive_gives_up_dead_blocks_alone.Goals as goal

pub returns-clause-power : goal.returns-clause-power
returns-clause-power c = λ old new out same sound was is fair cause. power_fair old new same sound is was fair out cause

pub returns-clause-read : goal.returns-clause-read
returns-clause-read c = λ old new lba n out same sound is fair cause. read_fair old new same sound is lba n out fair cause

pub returns-clause-verify : goal.returns-clause-verify
returns-clause-verify c = λ old new lba n out same sound is fair cause. verify_fair old new same sound is lba n out fair cause

pub returns-clause-write : goal.returns-clause-write
returns-clause-write c = λ old new lba n out same sound was is fair cause. write_fair old new same sound is was fair lba n out cause

pub returns-clause-expand : goal.returns-clause-expand
returns-clause-expand c = λ old new sectors out same sound was is fair cause. expand_fair old new same sound is was fair sectors out cause

pub returns-clause-format : goal.returns-clause-format
returns-clause-format c = λ old new kind out same sound was is fair cause. format_fair old new same sound is was fair kind out cause

pub returns-clause-dies : goal.returns-clause-dies
returns-clause-dies c = λ old new same kept dies fair. dies_fair old new same kept dies fair
