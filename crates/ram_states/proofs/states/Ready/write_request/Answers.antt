use Rattle.ram_states.proofs.states.Ready.write_request.Goals as goal

pub returns-in-Err-clause-step : goal.returns-in-Err-clause-step
returns-in-Err-clause-step g c = rw (c.stopped.ensures.state, c.stopped.ensures.out) c.in-Err.ensures.rule.steps
