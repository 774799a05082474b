use Rattle.model_drive.proofs.Dying.{verify_step}
use Rattle.ram_states.specs.Shown.{shown_ready, shown_state}
use Rattle.model_medium.proofs.Happening.{happened_none}
use Rattle.ram_states.proofs.states.Ready.verify.Goals as goal

pub returns-in-Some-clause-step : goal.returns-in-Some-clause-step
returns-in-Some-clause-step g c = λ s stands.
    verify_step (shown_ready c.args.self) (shown_state c.verify_request.result.0) c.verify_request.ensures.same_shape _ _ s c.verify_request.result.1 c.verify_request.ensures.cause stands

pub returns-in-None-clause-happened : goal.returns-in-None-clause-happened
returns-in-None-clause-happened g c =
    happened_none g.M.Medium.takes c.args.self.medium
