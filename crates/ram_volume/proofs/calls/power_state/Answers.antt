use Rattle.std.proofs.Common.{ap, sym, subst}
use Rattle.model_drive.specs.Shown.{Shown}
use Rattle.model_drive.specs.Power.{PowerCause}
use Rattle.ram_states.specs.Shown.{shown_off, shown_bare, shown_ready, shown_state}
use Rattle.ram_volume.proofs.CallSteps.{power_cause_again, power_steps_again, power_steps_as}
use Rattle.ram_volume.proofs.Somes.{power_some}
use Rattle.model_medium.specs.Exact.{PowerOff}
use Rattle.model_medium.proofs.Happening.{happened_one, happened_then}
use Rattle.ram_states.specs.Shown.{medium_under}
use Rattle.ram_volume.proofs.calls.power_state.Goals as goal

pub returns-in-Off-clause-step : goal.returns-in-Off-clause-step
returns-in-Off-clause-step g c =
    (power_steps_as (shown_state c.args.state) (shown_off c.in-Off.off) (shown_state c.turn_on.result.0) c.turn_on.result.1 (ap (λ state. shown_state state) c.in-Off.is) c.turn_on.ensures.step)

pub returns-in-Off-clause-some : goal.returns-in-Off-clause-some
returns-in-Off-clause-some g c =
    power_some (shown_state c.args.state) (shown_state c.turn_on.result.0) c.turn_on.result.1
    (subst (λ (old : Shown). PowerCause old (shown_state c.turn_on.result.0) c.turn_on.result.1) (sym (ap (λ state. shown_state state) c.in-Off.is)) c.turn_on.ensures.cause)
    (power_steps_as (shown_state c.args.state) (shown_off c.in-Off.off) (shown_state c.turn_on.result.0) c.turn_on.result.1 (ap (λ state. shown_state state) c.in-Off.is) c.turn_on.ensures.step)

pub returns-in-Ready-clause-cause : goal.returns-in-Ready-clause-cause
returns-in-Ready-clause-cause g c =
    power_cause_again (shown_state c.args.state) (shown_ready c.in-Ready.ready) (shown_off c.power_off.result) (shown_state c.turn_on-in-Ready.result.0)
    c.turn_on-in-Ready.result.1 (ap (λ state. shown_state state) c.in-Ready.is) c.power_off.ensures.shows c.turn_on-in-Ready.ensures.cause

pub returns-in-Ready-clause-step : goal.returns-in-Ready-clause-step
returns-in-Ready-clause-step g c =
    (power_steps_again (shown_state c.args.state) (shown_ready c.in-Ready.ready) (shown_off c.power_off.result) (shown_state c.turn_on-in-Ready.result.0)
    c.turn_on-in-Ready.result.1 (ap (λ state. shown_state state) c.in-Ready.is) c.power_off.ensures.stands c.turn_on-in-Ready.ensures.step)

pub returns-in-Ready-clause-some : goal.returns-in-Ready-clause-some
returns-in-Ready-clause-some g c =
    power_some (shown_state c.args.state) (shown_state c.turn_on-in-Ready.result.0) c.turn_on-in-Ready.result.1 (returns-in-Ready-clause-cause g c)
    (power_steps_again (shown_state c.args.state) (shown_ready c.in-Ready.ready) (shown_off c.power_off.result) (shown_state c.turn_on-in-Ready.result.0)
    c.turn_on-in-Ready.result.1 (ap (λ state. shown_state state) c.in-Ready.is) c.power_off.ensures.stands c.turn_on-in-Ready.ensures.step)

pub returns-in-NotFormatted-clause-cause : goal.returns-in-NotFormatted-clause-cause
returns-in-NotFormatted-clause-cause g c =
    power_cause_again (shown_state c.args.state) (shown_bare c.in-NotFormatted.bare) (shown_off c.power_off-in-NotFormatted.result)
    (shown_state c.turn_on-in-NotFormatted.result.0) c.turn_on-in-NotFormatted.result.1 (ap (λ state. shown_state state) c.in-NotFormatted.is)
    c.power_off-in-NotFormatted.ensures.shows c.turn_on-in-NotFormatted.ensures.cause

pub returns-in-NotFormatted-clause-step : goal.returns-in-NotFormatted-clause-step
returns-in-NotFormatted-clause-step g c =
    (power_steps_again (shown_state c.args.state) (shown_bare c.in-NotFormatted.bare) (shown_off c.power_off-in-NotFormatted.result)
    (shown_state c.turn_on-in-NotFormatted.result.0) c.turn_on-in-NotFormatted.result.1 (ap (λ state. shown_state state) c.in-NotFormatted.is)
    c.power_off-in-NotFormatted.ensures.stands c.turn_on-in-NotFormatted.ensures.step)

pub returns-in-NotFormatted-clause-some : goal.returns-in-NotFormatted-clause-some
returns-in-NotFormatted-clause-some g c =
    power_some (shown_state c.args.state) (shown_state c.turn_on-in-NotFormatted.result.0) c.turn_on-in-NotFormatted.result.1
    (returns-in-NotFormatted-clause-cause g c)
    (power_steps_again (shown_state c.args.state) (shown_bare c.in-NotFormatted.bare) (shown_off c.power_off-in-NotFormatted.result)
    (shown_state c.turn_on-in-NotFormatted.result.0) c.turn_on-in-NotFormatted.result.1 (ap (λ state. shown_state state) c.in-NotFormatted.is)
    c.power_off-in-NotFormatted.ensures.stands c.turn_on-in-NotFormatted.ensures.step)

pub returns-in-Ready-clause-happened : goal.returns-in-Ready-clause-happened
returns-in-Ready-clause-happened g c =
    rw c.in-Ready.is
    (happened_then g.M.Medium.takes c.in-Ready.ready.medium c.power_off.result.medium (medium_under c.turn_on-in-Ready.result.0) (happened_one g.M.Medium.takes c.in-Ready.ready.medium c.power_off.result.medium PowerOff c.power_off.ensures.event) c.turn_on-in-Ready.ensures.happened)

pub returns-in-NotFormatted-clause-happened : goal.returns-in-NotFormatted-clause-happened
returns-in-NotFormatted-clause-happened g c =
    rw c.in-NotFormatted.is
    (happened_then g.M.Medium.takes c.in-NotFormatted.bare.medium c.power_off-in-NotFormatted.result.medium (medium_under c.turn_on-in-NotFormatted.result.0) (happened_one g.M.Medium.takes c.in-NotFormatted.bare.medium c.power_off-in-NotFormatted.result.medium PowerOff c.power_off-in-NotFormatted.ensures.event) c.turn_on-in-NotFormatted.ensures.happened)
