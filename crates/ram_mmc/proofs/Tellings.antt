-- What the counts of a disc tell.
use Rattle.std.proofs.Common.{◌≡◌, refl}
use Rattle.model_drive.specs.declared.DriveCounts.{DriveCounts}
use Rattle.model_drive.specs.Shown.{Shown}
use Rattle.model_drive.specs.Tells.{CountsRule}
use Rattle.model_target.specs.Replies.{spares_reply}
use Rattle.model_target.specs.Steps.{spares_told}

-- the spares by the counts of a disc are those of the disc
pub counted_spares : (shown : Shown) (counts : DriveCounts) → CountsRule shown counts → spares_reply counts.free_primary counts.free_supplementary counts.ssa ≡ spares_told shown
counted_spares shown counts rule = rw (rule.primary_is, rule.supplementary_is, rule.ssa_is) refl
