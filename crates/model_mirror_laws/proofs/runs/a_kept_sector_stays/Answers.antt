-- By the lemmas on each call.
use Rattle.model_mirror_laws.proofs.ReadStays.{read_keeps}
use Rattle.model_mirror_laws.proofs.Aging.{ages_keep}
use Rattle.model_mirror_laws.proofs.Staying.{resync_keeps, format_keeps, write_keeps}
use Rattle.model_mirror_laws.proofs.runs.a_kept_sector_stays.Goals as goal

pub returns-clause-read : goal.returns-clause-read
returns-clause-read c = λ shape old new sides lba n into out cause comes knows at bytes kept. read_keeps lba n at bytes into shape old new sides out cause comes knows kept

pub returns-clause-resync : goal.returns-clause-resync
returns-clause-resync c = λ shape old new sides out cause comes knows at bytes kept. resync_keeps at bytes shape old new sides knows kept out cause comes

pub returns-clause-write : goal.returns-clause-write
returns-clause-write c = λ shape old new sides lba n payload whole out cause comes knows at bytes apart kept.
    write_keeps lba n payload whole at bytes apart shape old new sides out cause comes knows kept

pub returns-clause-ages : goal.returns-clause-ages
returns-clause-ages c = λ old new ages at bytes kept. ages_keep at bytes old new ages kept

pub returns-clause-format : goal.returns-clause-format
returns-clause-format c = λ old new out refused cause comes knows at bytes kept. format_keeps at bytes old new out refused cause comes knows kept
