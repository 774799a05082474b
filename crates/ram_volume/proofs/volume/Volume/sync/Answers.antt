use Rattle.ram_states.specs.Shown.{shown_state}
use Rattle.ram_volume.proofs.Held.{holds, some_held, sync_keeps}
use Rattle.ram_volume.proofs.volume.Volume.sync.Goals as goal

pub invariant_of-self : goal.invariant_of-self
invariant_of-self g c =
    let held = holds c.put_in.new.slot c.sync-state.result.0 c.put_in.ensures in
    record {
      held = held;
      some = some_held c.take_out-state.result c.sync-state.result.0 c.args.self.now.state c.put_in.new.slot c.args.self.now.held held c.take_out-state.ensures.value c.put_in.ensures
          (sync_keeps (shown_state c.take_out-state.result) (shown_state c.sync-state.result.0) c.sync-state.result.1 c.sync-state.ensures.rule c.sync-state.ensures.stands) c.args.self.now.some;
    }
