use Rattle.std.proofs.Common.{ap, sym, subst}
use Rattle.model_drive.specs.Shown.{Shown}
use Rattle.model_drive.specs.Reads.{ReadIsQuiet}
use Rattle.ram_states.specs.Shown.{shown_off, shown_ready, shown_state}
use Rattle.ram_volume.proofs.CallSteps.{read_steps_off}
use Rattle.ram_volume.proofs.Somes.{read_keeps}
use Rattle.model_medium.proofs.Happening.{happened_none}
use Rattle.ram_volume.proofs.calls.read_state.Goals as goal

pub returns-in-Off-clause-step : goal.returns-in-Off-clause-step
returns-in-Off-clause-step g c = λ s stands.
    read_steps_off (shown_state c.args.state) (shown_off c.in-Off.off) (ap (λ state. shown_state state) c.in-Off.is) c.in-Off.off.off s stands c.args.lba c.args.n c.args.into.now

pub returns-in-Ready-clause-quiet : goal.returns-in-Ready-clause-quiet
returns-in-Ready-clause-quiet g c =
    subst (λ (old : Shown). ReadIsQuiet old (shown_state c.read.result.0) c.args.lba c.args.n c.read.result.1)
    (sym (ap (λ state. shown_state state) c.in-Ready.is)) c.read.ensures.quiet

pub returns-in-Ready-clause-some : goal.returns-in-Ready-clause-some
returns-in-Ready-clause-some g c =
    read_keeps (shown_state c.args.state) (shown_ready c.in-Ready.ready) (shown_state c.read.result.0) (ap (λ state. shown_state state) c.in-Ready.is)
    c.args.lba c.args.n c.read.new.into c.read.result.1 c.read.ensures.cause c.read.ensures.step

pub returns-in-Off-clause-happened : goal.returns-in-Off-clause-happened
returns-in-Off-clause-happened g c =
    rw c.in-Off.is (happened_none g.M.Medium.takes c.in-Off.off.medium)

pub returns-in-NotFormatted-clause-happened : goal.returns-in-NotFormatted-clause-happened
returns-in-NotFormatted-clause-happened g c =
    rw c.in-NotFormatted.is (happened_none g.M.Medium.takes c.in-NotFormatted.bare.medium)
