use Rattle.ram_machine.proofs.OldOrNew.{line_either}
use Rattle.ram_machine.proofs.laws.a_sector_that_is_written_is_old_or_new.Goals as goal

pub returns : goal.returns
returns c = λ s t cdb payload data_in outcome lba n at fua bytes step asks among keeps. line_either at bytes lba n payload among s t cdb data_in outcome fua step asks keeps
