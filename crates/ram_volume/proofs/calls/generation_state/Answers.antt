use Rattle.std.proofs.Common.{ap}
use Rattle.model_medium.proofs.Happening.{happened_none}
use Rattle.ram_record.specs.Record.{record_of}
use Rattle.ram_states.specs.Shown.{shown_off, shown_ready, shown_bare, shown_state}
use Rattle.ram_volume.proofs.RecordCalls.{record_steps_off, record_steps_of, generation_keeps}
use Rattle.ram_volume.proofs.calls.generation_state.Goals as goal

pub returns-in-Off-clause-step : goal.returns-in-Off-clause-step
returns-in-Off-clause-step g c =
    record_steps_off (shown_state c.args.state) (shown_off c.in-Off.off) (ap (λ state. shown_state state) c.in-Off.is) c.in-Off.off.off

pub returns-in-Off-clause-happened : goal.returns-in-Off-clause-happened
returns-in-Off-clause-happened g c = rw c.in-Off.is (happened_none g.M.Medium.takes c.in-Off.off.medium)

pub returns-in-Ready-clause-step : goal.returns-in-Ready-clause-step
returns-in-Ready-clause-step g c =
    record_steps_of (shown_state c.args.state) (shown_ready c.in-Ready.ready) (shown_state c.generation.result.0) (ap (λ state. shown_state state) c.in-Ready.is) (record_of c.generation.new.best)
    c.generation.result.1 c.generation.ensures.step

pub returns-in-Ready-clause-some : goal.returns-in-Ready-clause-some
returns-in-Ready-clause-some g c =
    generation_keeps (shown_state c.args.state) (shown_ready c.in-Ready.ready) (shown_state c.generation.result.0) (ap (λ state. shown_state state) c.in-Ready.is) (record_of c.generation.new.best)
    c.generation.result.1 c.generation.ensures.cause c.generation.ensures.step

pub returns-in-NotFormatted-clause-step : goal.returns-in-NotFormatted-clause-step
returns-in-NotFormatted-clause-step g c =
    record_steps_of (shown_state c.args.state) (shown_bare c.in-NotFormatted.bare) (shown_state c.generation-in-NotFormatted.result.0) (ap (λ state. shown_state state) c.in-NotFormatted.is) (record_of c.generation-in-NotFormatted.new.best)
    c.generation-in-NotFormatted.result.1 c.generation-in-NotFormatted.ensures.step

pub returns-in-NotFormatted-clause-some : goal.returns-in-NotFormatted-clause-some
returns-in-NotFormatted-clause-some g c =
    generation_keeps (shown_state c.args.state) (shown_bare c.in-NotFormatted.bare) (shown_state c.generation-in-NotFormatted.result.0) (ap (λ state. shown_state state) c.in-NotFormatted.is) (record_of c.generation-in-NotFormatted.new.best)
    c.generation-in-NotFormatted.result.1 c.generation-in-NotFormatted.ensures.cause c.generation-in-NotFormatted.ensures.step
