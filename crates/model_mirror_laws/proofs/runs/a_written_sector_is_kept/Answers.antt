-- By the lemma on a good write.
use Rattle.model_mirror_laws.proofs.OverRuns.{write_begins}
use Rattle.model_mirror_laws.proofs.runs.a_written_sector_is_kept.Goals as goal

pub returns : goal.returns
returns c = λ shape old new sides lba n payload whole at from within cause comes knows s stands. write_begins shape old new sides lba n payload whole at from within cause comes knows s stands
