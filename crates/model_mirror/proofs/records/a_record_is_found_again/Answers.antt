-- By the lemma on copies of one record.
use Rattle.model_drive.specs.Shown.{cells_in}
use Rattle.model_mirror.proofs.FoundAgain.{found_settled}
use Rattle.model_mirror.proofs.records.a_record_is_found_again.Goals as goal

pub returns-clause-written : goal.returns-clause-written
returns-clause-written c = λ old new value found later known wrote died some is.
    found_settled new.shape (cells_in new) later died value found (wrote.exact known) some is

pub returns-clause-mended : goal.returns-clause-mended
returns-clause-mended c = λ old new value found later known reads died some is.
    found_settled new.shape (cells_in new) later died value found (reads.exact known) some is
