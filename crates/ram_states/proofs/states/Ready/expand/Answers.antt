use Rattle.model_drive.proofs.ExpandSteps.{expand_completes}
use Rattle.ram_states.specs.Shown.{shown_ready, shown_state}
use Rattle.ram_states.specs.Sounding.{sound_state}
use Rattle.ram_states.proofs.ExpandCauses.{expand_steps}
use Rattle.ram_states.proofs.states.Ready.expand.Goals as goal

pub returns-clause-step : goal.returns-clause-step
returns-clause-step g c =
    expand_steps (shown_ready c.args.self) (shown_state c.grow_spares.result.0) c.grow_spares.ensures.same_shape
    (sound_state g.met.M.Medium.laws.as_many g.met.M.MediumControl.control_laws.to_come g.met.M.MediumControl.control_laws.arms_to_come c.grow_spares.result.0)
    c.args.capacity c.grow_spares.result.1 c.grow_spares.ensures.cause

pub returns-clause-completes : goal.returns-clause-completes
returns-clause-completes g c =
    expand_completes (shown_ready c.args.self) (shown_state c.grow_spares.result.0) c.args.capacity c.grow_spares.result.1 c.grow_spares.ensures.cause
