-- The word lies up to the first space, or is all that is left.
use Rattle.std.proofs.Common.{◌<◌, length, sym, ap, ◌∙◌, arith}
use Rattle.std.proofs.lemmas.Bool.Decides.{nat_tests}
use Rattle.std.proofs.lemmas.List.{nil_from_length}
use Rattle.ram_text.specs.ScriptWords.{words_of}
use Rattle.ram_text.proofs.WordSteps.{words_of-nil, word_found, word_alone}
use Rattle.ram_text.proofs.words.next_word.Goals as goal

pub returns-then-is_empty-clause-found : goal.returns-then-is_empty-clause-found
returns-then-is_empty-clause-found c =
    sym c.without_spaces-line.ensures.words ∙ ap words_of (nil_from_length c.without_spaces-line.result.now (grind (arith, nat_tests))) ∙ words_of-nil

pub returns-in-Some-clause-found : goal.returns-in-Some-clause-found
returns-in-Some-clause-found c =
    let some : 0 < length c.without_spaces-line.result.now = grind (arith, nat_tests) in
    rw (c.split_at.ensures.front, c.split_at.ensures.back) (sym c.without_spaces-line.ensures.words ∙ word_found c.without_spaces-line.result.now c.in-Some.end some (c.without_spaces-line.ensures.first some) c.in-Some.ensures)

pub returns-in-None-clause-found : goal.returns-in-None-clause-found
returns-in-None-clause-found c =
    let some : 0 < length c.without_spaces-line.result.now = grind (arith, nat_tests) in
    rw (c.split_at-in-None.ensures.front, c.split_at-in-None.ensures.back) (sym c.without_spaces-line.ensures.words ∙ word_alone c.without_spaces-line.result.now some c.in-None.ensures)
