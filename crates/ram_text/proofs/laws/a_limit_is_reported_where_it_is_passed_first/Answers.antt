-- No line comes where a limit is passed first.
use Rattle.std.proofs.Common.{arith}
use Rattle.ram_text.proofs.Limits.{line_not_long, script_not_long}
use Rattle.ram_text.proofs.laws.a_limit_is_reported_where_it_is_passed_first.Goals as goal

pub returns-clause-line : goal.returns-clause-line
returns-clause-line c = line_not_long

pub returns-clause-script : goal.returns-clause-script
returns-clause-script c = script_not_long

pub returns-clause-one : goal.returns-clause-one
returns-clause-one c = λ left taken long script.
    let first = long.first in
    let other = script.first in
    omega arith
