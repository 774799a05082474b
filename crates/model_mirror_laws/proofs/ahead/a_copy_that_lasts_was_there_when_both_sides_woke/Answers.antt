-- By the lemma that a dead cell stays dead.
use Rattle.model_mirror_laws.proofs.LastingCopies.{copies_woke}
use Rattle.model_mirror_laws.proofs.ahead.a_copy_that_lasts_was_there_when_both_sides_woke.Goals as goal

pub returns : goal.returns
returns c = copies_woke
