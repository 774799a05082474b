use Rattle.model_lasting.proofs.Staying.{begins, power_stays, read_stays, verify_stays, write_stays, expand_stays, format_stays, dies_stays}
use Rattle.model_lasting.proofs.step_laws.a_formatted_disc_stays_formatted.Goals as goal

pub returns-clause-begins : goal.returns-clause-begins
returns-clause-begins c = begins

pub returns-clause-power : goal.returns-clause-power
returns-clause-power c = λ old new version sizes out same sound was is s cause two. power_stays old new version sizes same s sound is was out cause two

pub returns-clause-read : goal.returns-clause-read
returns-clause-read c = λ old new version sizes lba n out same sound is s cause. read_stays old new version sizes same s sound is lba n out cause

pub returns-clause-verify : goal.returns-clause-verify
returns-clause-verify c = λ old new version sizes lba n out same sound is s cause. verify_stays old new version sizes same s sound is lba n out cause

pub returns-clause-write : goal.returns-clause-write
returns-clause-write c = λ old new version sizes lba n out same was_sound sound was is s cause. write_stays old new version sizes same s sound is was_sound was lba n out cause

pub returns-clause-expand : goal.returns-clause-expand
returns-clause-expand c = λ old new version sizes sectors out same was_sound sound was is s cause. expand_stays old new version sizes same s sound is was_sound was sectors out cause

pub returns-clause-format : goal.returns-clause-format
returns-clause-format c = λ old new version sizes out same was_sound sound was is s cause. format_stays old new version sizes same s sound is was_sound was out cause

pub returns-clause-dies : goal.returns-clause-dies
returns-clause-dies c = λ old new version sizes same was_on kept dies s. dies_stays old new version sizes same s was_on kept dies
