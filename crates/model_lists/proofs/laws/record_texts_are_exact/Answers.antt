-- By the lemmas on its texts.
use Rattle.model_lists.proofs.RecordTexts.{has_text, one_text, one_value}
use Rattle.model_lists.proofs.laws.record_texts_are_exact.Goals as goal

pub returns-clause-some : goal.returns-clause-some
returns-clause-some c = has_text

pub returns-clause-one_text : goal.returns-clause-one_text
returns-clause-one_text c = one_text

pub returns-clause-one_value : goal.returns-clause-one_value
returns-clause-one_value c = one_value
