-- What was printed tells the answer.
use Rattle.ram_report.proofs.Distinct.{answers_same}
use Rattle.ram_report.proofs.laws.answers_are_distinct.Goals as goal

pub returns : goal.returns
returns c = answers_same
