use Rattle.ram_mirror.proofs.starting.start.Goals as goal

pub returns-else-not-can_tell-clause-step : goal.returns-else-not-can_tell-clause-step
returns-else-not-can_tell-clause-step g c = λ side. c.lead_on.ensures.step side c.in-Good.is
