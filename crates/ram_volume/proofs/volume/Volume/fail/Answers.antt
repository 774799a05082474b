use Rattle.ram_states.specs.Shown.{shown_state}
use Rattle.ram_volume.proofs.Held.{holds, some_held, fail_keeps}
use Rattle.ram_volume.proofs.volume.Volume.fail.Goals as goal

pub invariant_of-self : goal.invariant_of-self
invariant_of-self g c =
    let held = holds c.put_in.new.slot c.fail-state.result.0 c.put_in.ensures in
    record {
      held = held;
      some = some_held c.take_out-state.result c.fail-state.result.0 c.args.self.now.state c.put_in.new.slot c.args.self.now.held held c.take_out-state.ensures.value c.put_in.ensures
          (fail_keeps (shown_state c.take_out-state.result) (shown_state c.fail-state.result.0) c.args.block c.fail-state.result.1 c.fail-state.ensures.rule c.fail-state.ensures.stands) c.args.self.now.some;
    }
