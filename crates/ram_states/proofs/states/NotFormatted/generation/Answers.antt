use Rattle.std.proofs.Common.{Some, None, [], refl, sym, ◌∙◌, subst}
use Rattle.model_medium.specs.Happened.{Happened}
use Rattle.ram_medium.proofs.Parts.{part_happened, stop_happened}
use Rattle.ram_record.specs.Record.{record_of}
use Rattle.ram_states.specs.Shown.{shown_bare, shown_state}
use Rattle.model_drive.proofs.RecordSteps.{bare_kept, marked_kept, generation_step}
use Rattle.ram_states.proofs.RecordCauses.{mended, mended_only, mended_continues, mending_stops, mending_stopped}
use Rattle.ram_states.proofs.states.NotFormatted.generation.Goals as goal

pub invariant_of-bare : goal.invariant_of-bare
invariant_of-bare g c = record {
  size = c.mend_record.ensures.as_many ∙ c.args.self.size;
  on = (mended_continues g.M.Medium.world g.M.Medium.block_count g.M.Medium.reaches g.M.Medium.takes g.M.MediumControl.arms g.M.MediumControl.armed_cut g.met.M.Medium.laws g.met.M.MediumControl.control_laws c.args.self.geometry None c.args.self.mark [] c.args.self.medium c.mend_record.new.medium (record_of c.mend_record.new.best) c.in-Ok.readable c.in-Ok.ensures.rule).1.is_on;
  bare = bare_kept c.args.self.geometry (g.M.Medium.world c.args.self.medium).cells (g.M.Medium.world c.mend_record.new.medium).cells (mended_only g.M.Medium.world g.M.Medium.block_count g.M.Medium.reaches g.M.Medium.takes g.M.MediumControl.arms g.M.MediumControl.armed_cut g.met.M.Medium.laws g.met.M.MediumControl.control_laws c.args.self.geometry None c.args.self.mark [] c.args.self.medium c.mend_record.new.medium (record_of c.mend_record.new.best) c.in-Ok.readable c.in-Ok.ensures.rule) c.args.self.bare;
  marked = marked_kept c.args.self.geometry (g.M.Medium.world c.args.self.medium).cells (g.M.Medium.world c.mend_record.new.medium).cells (mended_only g.M.Medium.world g.M.Medium.block_count g.M.Medium.reaches g.M.Medium.takes g.M.MediumControl.arms g.M.MediumControl.armed_cut g.met.M.Medium.laws g.met.M.MediumControl.control_laws c.args.self.geometry None c.args.self.mark [] c.args.self.medium c.mend_record.new.medium (record_of c.mend_record.new.best) c.in-Ok.readable c.in-Ok.ensures.rule) c.args.self.mark c.args.self.marked;
  kind = c.args.self.kind;
}

pub returns-in-Ok-clause-cause : goal.returns-in-Ok-clause-cause
returns-in-Ok-clause-cause g c = rw c.out_for.ensures (mended g.M.Medium.world g.M.Medium.block_count g.M.Medium.reaches g.M.Medium.takes g.M.MediumControl.arms g.M.MediumControl.armed_cut g.met.M.Medium.laws g.met.M.MediumControl.control_laws c.args.self.geometry None c.args.self.mark [] c.args.self.medium c.mend_record.new.medium (record_of c.mend_record.new.best) c.in-Ok.readable c.in-Ok.ensures.rule)

pub returns-in-Ok-clause-step : goal.returns-in-Ok-clause-step
returns-in-Ok-clause-step g c = rw c.out_for.ensures (λ s stands. generation_step (shown_bare c.args.self) _ refl (record_of c.mend_record.new.best) s _ (mended g.M.Medium.world g.M.Medium.block_count g.M.Medium.reaches g.M.Medium.takes g.M.MediumControl.arms g.M.MediumControl.armed_cut g.met.M.Medium.laws g.met.M.MediumControl.control_laws c.args.self.geometry None c.args.self.mark [] c.args.self.medium c.mend_record.new.medium (record_of c.mend_record.new.best) c.in-Ok.readable c.in-Ok.ensures.rule) stands)

pub returns-in-Ok-clause-happened : goal.returns-in-Ok-clause-happened
returns-in-Ok-clause-happened g c = part_happened g.M.Medium.world g.M.Medium.reaches g.M.Medium.takes g.met.M.Medium.happened c.args.self.medium c.mend_record.new.medium _ (mended_continues g.M.Medium.world g.M.Medium.block_count g.M.Medium.reaches g.M.Medium.takes g.M.MediumControl.arms g.M.MediumControl.armed_cut g.met.M.Medium.laws g.met.M.MediumControl.control_laws c.args.self.geometry None c.args.self.mark [] c.args.self.medium c.mend_record.new.medium (record_of c.mend_record.new.best) c.in-Ok.readable c.in-Ok.ensures.rule).1

pub returns-in-Err-clause-cause : goal.returns-in-Err-clause-cause
returns-in-Err-clause-cause g c = rw (c.stopped.ensures.state, c.stopped.ensures.out) (mending_stopped g.M.Medium.world g.M.Medium.block_count g.M.Medium.reaches g.M.Medium.takes g.M.MediumControl.arms g.M.MediumControl.armed_cut g.met.M.Medium.laws g.met.M.MediumControl.control_laws c.args.self.geometry None c.args.self.mark [] c.args.self.medium c.mend_record.new.medium (record_of c.mend_record.new.best) c.in-Err.stop c.in-Err.ensures.rule)

pub returns-in-Err-clause-step : goal.returns-in-Err-clause-step
returns-in-Err-clause-step g c = rw (c.stopped.ensures.state, c.stopped.ensures.out) (λ s stands. generation_step (shown_bare c.args.self) _ refl (record_of c.mend_record.new.best) s _ (mending_stopped g.M.Medium.world g.M.Medium.block_count g.M.Medium.reaches g.M.Medium.takes g.M.MediumControl.arms g.M.MediumControl.armed_cut g.met.M.Medium.laws g.met.M.MediumControl.control_laws c.args.self.geometry None c.args.self.mark [] c.args.self.medium c.mend_record.new.medium (record_of c.mend_record.new.best) c.in-Err.stop c.in-Err.ensures.rule) stands)

pub returns-in-Err-clause-happened : goal.returns-in-Err-clause-happened
returns-in-Err-clause-happened g c =
    subst (Happened g.M.Medium.takes c.args.self.medium) (sym c.stopped.ensures.medium)
    (stop_happened g.M.Medium.world g.M.Medium.reaches g.M.Medium.takes g.met.M.Medium.happened c.args.self.medium c.mend_record.new.medium _ c.in-Err.stop c.args.self.on (mending_stops g.M.Medium.world g.M.Medium.block_count g.M.Medium.reaches g.M.Medium.takes g.M.MediumControl.arms g.M.MediumControl.armed_cut g.met.M.Medium.laws g.met.M.MediumControl.control_laws c.args.self.geometry None c.args.self.mark [] c.args.self.medium c.mend_record.new.medium c.in-Err.stop c.in-Err.ensures.rule))
