use Rattle.ram_machine.proofs.ExpandedLines.{line_leaves, line_takes}
use Rattle.ram_machine.proofs.laws.an_expansion_keeps_what_it_leaves.Goals as goal

pub returns-clause-stays : goal.returns-clause-stays
returns-clause-stays c = λ s t event sectors at bytes step done below has. line_leaves s t event sectors at bytes step done below has

pub returns-clause-gone : goal.returns-clause-gone
returns-clause-gone c = λ s t event sectors at bytes step done past has. line_takes s t event sectors at bytes step done past has
