use Rattle.std.proofs.Common.{Some, None, [], refl, sym, ◌∙◌, subst}
use Rattle.model_medium.specs.Happened.{Happened}
use Rattle.ram_medium.proofs.Parts.{part_happened, stop_happened}
use Rattle.ram_record.specs.Record.{record_of}
use Rattle.ram_states.specs.Shown.{shown_ready, shown_state}
use Rattle.ram_lists.specs.Lists.{lists_of}
use Rattle.model_drive.proofs.RecordSteps.{settled_kept, lead_step}
use Rattle.ram_states.proofs.RecordCauses.{written, written_only, write_stopped}
use Rattle.ram_states.proofs.states.Ready.lead_from.Goals as goal

pub invariant_of-ready : goal.invariant_of-ready
invariant_of-ready g c = record {
  size = c.put_copies.ensures.as_many ∙ c.args.self.size;
  on = c.in-Ok.ensures.rule.0.continues.is_on;
  valid = c.args.self.valid;
  settled = settled_kept c.args.self.geometry (g.M.Medium.world c.args.self.medium).cells (g.M.Medium.world c.put_copies.new.medium).cells (written_only g.M.Medium.world g.M.Medium.block_count g.M.Medium.reaches g.M.Medium.takes g.M.MediumControl.arms g.M.MediumControl.armed_cut g.met.M.Medium.laws g.met.M.MediumControl.control_laws c.args.self.geometry (Some (lists_of c.args.self.memory.lists)) c.args.self.memory.lists.dds.counter c.args.self.memory.workspace.buffer c.args.self.medium c.put_copies.new.medium (record_of c.args.value.now) c.in-Ok.readable c.in-Ok.ensures.rule) (lists_of c.args.self.memory.lists) c.args.self.settled;
  lawful_dds = c.args.self.lawful_dds;
  lawful_sdl = c.args.self.lawful_sdl;
  laid_out = c.args.self.laid_out;
}

pub returns-in-Ok-clause-cause : goal.returns-in-Ok-clause-cause
returns-in-Ok-clause-cause g c = rw c.out_for.ensures (written g.M.Medium.world g.M.Medium.block_count g.M.Medium.reaches g.M.Medium.takes g.M.MediumControl.arms g.M.MediumControl.armed_cut g.met.M.Medium.laws g.met.M.MediumControl.control_laws c.args.self.geometry (Some (lists_of c.args.self.memory.lists)) c.args.self.memory.lists.dds.counter c.args.self.memory.workspace.buffer c.args.self.medium c.put_copies.new.medium (record_of c.args.value.now) c.in-Ok.readable c.in-Ok.ensures.rule)

pub returns-in-Ok-clause-step : goal.returns-in-Ok-clause-step
returns-in-Ok-clause-step g c = rw c.out_for.ensures (λ s stands. lead_step (shown_ready c.args.self) _ refl (record_of c.args.value.now) s _ (written g.M.Medium.world g.M.Medium.block_count g.M.Medium.reaches g.M.Medium.takes g.M.MediumControl.arms g.M.MediumControl.armed_cut g.met.M.Medium.laws g.met.M.MediumControl.control_laws c.args.self.geometry (Some (lists_of c.args.self.memory.lists)) c.args.self.memory.lists.dds.counter c.args.self.memory.workspace.buffer c.args.self.medium c.put_copies.new.medium (record_of c.args.value.now) c.in-Ok.readable c.in-Ok.ensures.rule) stands)

pub returns-in-Ok-clause-happened : goal.returns-in-Ok-clause-happened
returns-in-Ok-clause-happened g c = part_happened g.M.Medium.world g.M.Medium.reaches g.M.Medium.takes g.met.M.Medium.happened c.args.self.medium c.put_copies.new.medium _ c.in-Ok.ensures.rule.0.continues

pub returns-in-Err-clause-cause : goal.returns-in-Err-clause-cause
returns-in-Err-clause-cause g c = rw (c.stopped.ensures.state, c.stopped.ensures.out) (write_stopped g.M.Medium.world g.M.Medium.block_count g.M.Medium.reaches g.M.Medium.takes g.M.MediumControl.arms g.M.MediumControl.armed_cut g.met.M.Medium.laws g.met.M.MediumControl.control_laws c.args.self.geometry (Some (lists_of c.args.self.memory.lists)) c.args.self.memory.lists.dds.counter c.args.self.memory.workspace.buffer c.args.self.medium c.put_copies.new.medium (record_of c.args.value.now) c.in-Err.stop c.in-Err.ensures.rule)

pub returns-in-Err-clause-step : goal.returns-in-Err-clause-step
returns-in-Err-clause-step g c = rw (c.stopped.ensures.state, c.stopped.ensures.out) (λ s stands. lead_step (shown_ready c.args.self) _ refl (record_of c.args.value.now) s _ (write_stopped g.M.Medium.world g.M.Medium.block_count g.M.Medium.reaches g.M.Medium.takes g.M.MediumControl.arms g.M.MediumControl.armed_cut g.met.M.Medium.laws g.met.M.MediumControl.control_laws c.args.self.geometry (Some (lists_of c.args.self.memory.lists)) c.args.self.memory.lists.dds.counter c.args.self.memory.workspace.buffer c.args.self.medium c.put_copies.new.medium (record_of c.args.value.now) c.in-Err.stop c.in-Err.ensures.rule) stands)

pub returns-in-Err-clause-happened : goal.returns-in-Err-clause-happened
returns-in-Err-clause-happened g c =
    subst (Happened g.M.Medium.takes c.args.self.medium) (sym c.stopped.ensures.medium)
    (stop_happened g.M.Medium.world g.M.Medium.reaches g.M.Medium.takes g.met.M.Medium.happened c.args.self.medium c.put_copies.new.medium _ c.in-Err.stop c.args.self.on c.in-Err.ensures.rule.within.stops)
