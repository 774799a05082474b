use Rattle.std.proofs.Common.{ap}
use Rattle.model_medium.specs.Exact.{PowerOff}
use Rattle.ram_medium.specs.Laws.{machine_shown}
use Rattle.ram_transfer.specs.Shown.{shown_without}
use Rattle.ram_states.specs.Shown.{shown_ready}
use Rattle.ram_states.proofs.TurningOff.{goes_off}
use Rattle.ram_states.proofs.states.Ready.power_off.Goals as goal

pub returns-clause-stands : goal.returns-clause-stands
returns-clause-stands g c =
    goes_off (shown_ready c.args.self) c.args.self.on (shown_without c.args.self.geometry (machine_shown g.M.Medium.world g.M.MediumControl.arms g.M.MediumControl.armed_cut c.power_off.new.self))
    (ap (shown_without c.args.self.geometry) (g.met.M.MediumControl.control_laws.exactly c.args.self.medium c.power_off.new.self PowerOff c.power_off.ensures.event))

pub returns-clause-shows : goal.returns-clause-shows
returns-clause-shows g c =
    ap (shown_without c.args.self.geometry) (g.met.M.MediumControl.control_laws.exactly c.args.self.medium c.power_off.new.self PowerOff c.power_off.ensures.event)

pub invariant_of-result-clause-kind : goal.invariant_of-result-clause-kind
invariant_of-result-clause-kind g c = c.args.self.laid_out.kind
