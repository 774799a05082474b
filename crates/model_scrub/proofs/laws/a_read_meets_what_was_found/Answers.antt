use Rattle.model_scrub.proofs.Meeting.{read_meets, read_unarmed}
use Rattle.model_scrub.proofs.laws.a_read_meets_what_was_found.Goals as goal

pub returns-clause-whole : goal.returns-clause-whole
returns-clause-whole c old new found lba n named block are whole cause = read_meets old new found are whole lba n named block cause

pub returns-clause-unarmed : goal.returns-clause-unarmed
returns-clause-unarmed c old new found lba n named block are none cause = read_meets old new found are (read_unarmed old new lba n named block none cause) lba n named block cause
