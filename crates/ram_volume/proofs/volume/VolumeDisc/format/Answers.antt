use Rattle.ram_volume.proofs.Held.{holds, some_held, format_held}
use Rattle.ram_volume.proofs.volume.VolumeDisc.format.Goals as goal

pub invariant_of-self : goal.invariant_of-self
invariant_of-self g c =
    let held = holds c.put_in.new.slot c.format_state-state.result.0 c.put_in.ensures in
    record {
      held = held;
      some = some_held c.take_out-state.result c.format_state-state.result.0 c.args.self.now.state c.put_in.new.slot c.args.self.now.held held c.take_out-state.ensures.value c.put_in.ensures
          c.format_state-state.ensures.some c.args.self.now.some;
    }

pub returns-clause-step : goal.returns-clause-step
returns-clause-step g c =
    format_held c.take_out-state.result c.format_state-state.result.0 c.args.self.now.state c.put_in.new.slot c.args.self.now.held _ c.take_out-state.ensures.value c.put_in.ensures
    c.args.kind c.format_state-state.result.1 c.format_state-state.ensures.step
