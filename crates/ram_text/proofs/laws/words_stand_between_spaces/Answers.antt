-- The words between spaces, one after another.
use Rattle.std.proofs.Common.{ap, ◌∙◌, ◌∷◌}
use Rattle.ram_text.proofs.WordSteps.{words_of-nil, words_of-space, words_of-word_then, words_of-word}
use Rattle.ram_text.proofs.laws.words_stand_between_spaces.Goals as goal

pub returns-clause-none : goal.returns-clause-none
returns-clause-none c = words_of-nil

pub returns-clause-skipped : goal.returns-clause-skipped
returns-clause-skipped c = words_of-space

pub returns-clause-first : goal.returns-clause-first
returns-clause-first c = λ word rest some clear.
    words_of-word_then word rest some (λ k lt. clear k 0 lt) ∙ ap (λ words. word ∷ words) (words_of-space rest)

pub returns-clause-last : goal.returns-clause-last
returns-clause-last c = λ word some clear. words_of-word word some (λ k lt. clear k 0 lt)
