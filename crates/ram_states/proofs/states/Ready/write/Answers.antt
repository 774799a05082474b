use Rattle.ram_states.specs.Shown.{shown_state}
use Rattle.ram_states.proofs.Completing.{completes_write}
use Rattle.model_medium.proofs.Happening.{happened_none}
use Rattle.ram_states.proofs.states.Ready.write.Goals as goal

pub returns-in-Some-clause-completes : goal.returns-in-Some-clause-completes
returns-in-Some-clause-completes g c =
    completes_write c.args.self (shown_state c.write_request.result.0) c.write_request.ensures.same_shape c.args.lba c.args.n c.write_request.result.1
    (rw (c.in-Some.ensures.0, c.in-Some.ensures.1) at c.write_request.ensures.cause)

pub returns-in-None-clause-happened : goal.returns-in-None-clause-happened
returns-in-None-clause-happened g c =
    happened_none g.M.Medium.takes c.args.self.medium
