use Rattle.std.proofs.Common.{refl}
use Rattle.model_audit.specs.Text.{text_of}
use Rattle.model_audit.proofs.Spelling.{zero_text, one_text, two_text, three_text, four_text, nine_text, twelve_text, thirteen_text, sixteen_text, thirty_three_text}
use Rattle.model_audit.proofs.worked.worked_texts.Goals as goal

pub returns-clause-bare : goal.returns-clause-bare
unfolding text_of
returns-clause-bare c = simp (zero_text, one_text, three_text, four_text) refl

pub returns-clause-groups : goal.returns-clause-groups
returns-clause-groups c = simp (one_text, three_text, four_text) refl

pub returns-clause-structure : goal.returns-clause-structure
returns-clause-structure c = simp (one_text, two_text) refl

pub returns-clause-first : goal.returns-clause-first
returns-clause-first c = simp (four_text, nine_text) refl

pub returns-clause-slipped : goal.returns-clause-slipped
returns-clause-slipped c = simp (thirteen_text) refl

pub returns-clause-list : goal.returns-clause-list
returns-clause-list c = simp (one_text, two_text, three_text) refl

pub returns-clause-pair : goal.returns-clause-pair
returns-clause-pair c = simp (twelve_text, thirteen_text) refl

pub returns-clause-retired : goal.returns-clause-retired
returns-clause-retired c = simp (twelve_text) refl

pub returns-clause-exact : goal.returns-clause-exact
returns-clause-exact c = simp (thirty_three_text) refl

pub returns-clause-other : goal.returns-clause-other
returns-clause-other c = simp (one_text) refl

pub returns-clause-unread : goal.returns-clause-unread
returns-clause-unread c = simp (four_text) refl

pub returns-clause-dead : goal.returns-clause-dead
returns-clause-dead c = simp (four_text) refl

pub returns-clause-lost : goal.returns-clause-lost
returns-clause-lost c = simp (sixteen_text) refl

pub returns-clause-end : goal.returns-clause-end
returns-clause-end c = simp (sixteen_text) refl
