use Rattle.ram_states.specs.Sounding.{sound_state}
use Rattle.ram_states.proofs.laws.what_a_state_shows_is_sound.Goals as goal

pub returns : goal.returns
returns g c = sound_state g.met.M.Medium.laws.as_many g.met.M.MediumControl.control_laws.to_come g.met.M.MediumControl.control_laws.arms_to_come c.args.state.now
