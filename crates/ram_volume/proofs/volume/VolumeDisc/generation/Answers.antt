use Rattle.ram_volume.proofs.Held.{holds, some_held, record_held}
use Rattle.ram_volume.proofs.volume.VolumeDisc.generation.Goals as goal

pub invariant_of-self : goal.invariant_of-self
invariant_of-self g c =
    let held = holds c.put_in.new.slot c.generation_state-state.result.0 c.put_in.ensures in
    record {
      held = held;
      some = some_held c.take_out-state.result c.generation_state-state.result.0 c.args.self.now.state c.put_in.new.slot c.args.self.now.held held c.take_out-state.ensures.value c.put_in.ensures
          c.generation_state-state.ensures.some c.args.self.now.some;
    }

pub returns-clause-step : goal.returns-clause-step
returns-clause-step g c =
    record_held c.take_out-state.result c.generation_state-state.result.0 c.args.self.now.state c.put_in.new.slot c.args.self.now.held _ c.take_out-state.ensures.value c.put_in.ensures
    c.generation_state-state.result.1 c.generation_state-state.ensures.step
