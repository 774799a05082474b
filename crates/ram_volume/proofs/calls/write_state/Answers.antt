use Rattle.std.proofs.Common.{ap}
use Rattle.ram_states.specs.Shown.{shown_off, shown_ready, shown_state}
use Rattle.ram_volume.proofs.CallSteps.{write_steps_off}
use Rattle.ram_volume.proofs.Somes.{write_keeps}
use Rattle.model_medium.proofs.Happening.{happened_none}
use Rattle.ram_volume.proofs.calls.write_state.Goals as goal

pub returns-in-Off-clause-step : goal.returns-in-Off-clause-step
returns-in-Off-clause-step g c = λ s stands.
    write_steps_off (shown_state c.args.state) (shown_off c.in-Off.off) (ap (λ state. shown_state state) c.in-Off.is) c.in-Off.off.off s stands c.args.lba c.args.n c.args.from.now

pub returns-in-Ready-clause-some : goal.returns-in-Ready-clause-some
returns-in-Ready-clause-some g c =
    write_keeps (shown_state c.args.state) (shown_ready c.in-Ready.ready) (shown_state c.write.result.0) (ap (λ state. shown_state state) c.in-Ready.is)
    c.args.lba c.args.n c.args.from.now c.write.result.1 c.write.ensures.cause c.write.ensures.step

pub returns-in-Off-clause-happened : goal.returns-in-Off-clause-happened
returns-in-Off-clause-happened g c =
    rw c.in-Off.is (happened_none g.M.Medium.takes c.in-Off.off.medium)

pub returns-in-NotFormatted-clause-happened : goal.returns-in-NotFormatted-clause-happened
returns-in-NotFormatted-clause-happened g c =
    rw c.in-NotFormatted.is (happened_none g.M.Medium.takes c.in-NotFormatted.bare.medium)
