use Rattle.std.proofs.Common.{ap}
use Rattle.ram_states.specs.Shown.{shown_off, shown_bare, shown_ready, shown_state}
use Rattle.ram_volume.proofs.CallSteps.{format_steps_off, format_steps_of}
use Rattle.ram_volume.proofs.Somes.{format_keeps}
use Rattle.model_medium.proofs.Happening.{happened_none}
use Rattle.ram_volume.proofs.calls.format_state.Goals as goal

pub returns-in-Off-clause-step : goal.returns-in-Off-clause-step
returns-in-Off-clause-step g c = λ s stands.
    format_steps_off (shown_state c.args.state) (shown_off c.in-Off.off) (ap (λ state. shown_state state) c.in-Off.is) c.in-Off.off.off s stands c.args.kind

pub returns-in-Ready-clause-step : goal.returns-in-Ready-clause-step
returns-in-Ready-clause-step g c =
    format_steps_of (shown_state c.args.state) (shown_ready c.in-Ready.ready) (shown_state c.format.result.0) (ap (λ state. shown_state state) c.in-Ready.is)
    c.args.kind c.format.result.1 c.format.ensures.step

pub returns-in-Ready-clause-some : goal.returns-in-Ready-clause-some
returns-in-Ready-clause-some g c =
    format_keeps (shown_state c.args.state) (shown_ready c.in-Ready.ready) (shown_state c.format.result.0) (ap (λ state. shown_state state) c.in-Ready.is)
    c.args.kind c.format.result.1 c.format.ensures.cause c.format.ensures.step

pub returns-in-NotFormatted-clause-step : goal.returns-in-NotFormatted-clause-step
returns-in-NotFormatted-clause-step g c =
    format_steps_of (shown_state c.args.state) (shown_bare c.in-NotFormatted.bare) (shown_state c.format-in-NotFormatted.result.0)
    (ap (λ state. shown_state state) c.in-NotFormatted.is) c.args.kind c.format-in-NotFormatted.result.1 c.format-in-NotFormatted.ensures.step

pub returns-in-NotFormatted-clause-some : goal.returns-in-NotFormatted-clause-some
returns-in-NotFormatted-clause-some g c =
    format_keeps (shown_state c.args.state) (shown_bare c.in-NotFormatted.bare) (shown_state c.format-in-NotFormatted.result.0)
    (ap (λ state. shown_state state) c.in-NotFormatted.is) c.args.kind c.format-in-NotFormatted.result.1
    c.format-in-NotFormatted.ensures.cause c.format-in-NotFormatted.ensures.step

pub returns-in-Off-clause-happened : goal.returns-in-Off-clause-happened
returns-in-Off-clause-happened g c =
    rw c.in-Off.is (happened_none g.M.Medium.takes c.in-Off.off.medium)
