-- What was read is the fault that the word is.
use Rattle.ram_text.proofs.Faults.{some_word, none_word}
use Rattle.ram_text.proofs.script.parse_fault.Goals as goal

pub returns-clause-some : goal.returns-clause-some
returns-clause-some c = some_word c.args.word.now c.without_return_of.result.now c.without_return_of.ensures c.read_fault.result c.read_fault.ensures

pub returns-clause-none : goal.returns-clause-none
returns-clause-none c = none_word c.args.word.now c.without_return_of.result.now c.without_return_of.ensures c.read_fault.result c.read_fault.ensures
