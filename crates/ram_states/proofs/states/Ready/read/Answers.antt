use Rattle.model_medium.proofs.Happening.{happened_none}
use Rattle.ram_states.proofs.states.Ready.read.Goals as goal

pub returns-in-Some-clause-quiet : goal.returns-in-Some-clause-quiet
returns-in-Some-clause-quiet g c = rw (c.in-Some.ensures.0, c.in-Some.ensures.1) at c.read_request.ensures.quiet

pub returns-in-None-clause-happened : goal.returns-in-None-clause-happened
returns-in-None-clause-happened g c =
    happened_none g.M.Medium.takes c.args.self.medium
