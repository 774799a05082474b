-- By the lemma on copies of two records.
use Rattle.std.proofs.Common.{subst}
use Rattle.model_geometry.specs.Geometry.{Shape}
use Rattle.model_drive.specs.Shown.{cells_in}
use Rattle.model_drive.specs.Records.{IsRecordOf}
use Rattle.model_mirror.specs.Found.{SomeCopy, CopiesStay}
use Rattle.model_mirror.proofs.FoundAgain.{found_stopped}
use Rattle.model_mirror.proofs.records.a_stopped_record_is_old_or_new.Goals as goal

pub returns : goal.returns
returns c = λ old new before value found stop later known same settled stopped died some is.
    let left = stopped.left known in
    found_stopped old.shape (cells_in old) (cells_in new) later (subst (λ (z : Shape). CopiesStay z (cells_in new) later) same died) before value settled left.may found
    (subst (λ (z : Shape). SomeCopy z later) same some) (subst (λ (z : Shape). IsRecordOf z later found) same is)
