use Rattle.std.proofs.Common.{ap, refl}
use Rattle.ram_states.specs.Shown.{shown_off, shown_bare, shown_ready, shown_state}
use Rattle.ram_volume.proofs.ExpandCalls.{expand_steps_off, expand_steps_bare, expand_steps_of, expand_keeps}
use Rattle.model_medium.proofs.Happening.{happened_none}
use Rattle.ram_volume.proofs.calls.expand_state.Goals as goal

pub returns-in-Off-clause-step : goal.returns-in-Off-clause-step
returns-in-Off-clause-step g c =
    expand_steps_off (shown_state c.args.state) (shown_off c.in-Off.off) (ap (λ state. shown_state state) c.in-Off.is) c.args.capacity c.in-Off.off.off

pub returns-in-Ready-clause-step : goal.returns-in-Ready-clause-step
returns-in-Ready-clause-step g c =
    expand_steps_of (shown_state c.args.state) (shown_ready c.in-Ready.ready) (shown_state c.expand.result.0) (ap (λ state. shown_state state) c.in-Ready.is)
    c.args.capacity c.expand.result.1 c.expand.ensures.step

pub returns-in-Ready-clause-some : goal.returns-in-Ready-clause-some
returns-in-Ready-clause-some g c =
    expand_keeps (shown_state c.args.state) (shown_ready c.in-Ready.ready) (shown_state c.expand.result.0) (ap (λ state. shown_state state) c.in-Ready.is)
    c.args.capacity c.expand.result.1 c.expand.ensures.cause c.expand.ensures.step

pub returns-in-NotFormatted-clause-step : goal.returns-in-NotFormatted-clause-step
returns-in-NotFormatted-clause-step g c =
    expand_steps_bare (shown_state c.args.state) (shown_bare c.in-NotFormatted.bare) (ap (λ state. shown_state state) c.in-NotFormatted.is) c.args.capacity c.in-NotFormatted.bare.on refl

pub returns-in-Off-clause-happened : goal.returns-in-Off-clause-happened
returns-in-Off-clause-happened g c =
    rw c.in-Off.is (happened_none g.M.Medium.takes c.in-Off.off.medium)

pub returns-in-NotFormatted-clause-happened : goal.returns-in-NotFormatted-clause-happened
returns-in-NotFormatted-clause-happened g c =
    rw c.in-NotFormatted.is (happened_none g.M.Medium.takes c.in-NotFormatted.bare.medium)
