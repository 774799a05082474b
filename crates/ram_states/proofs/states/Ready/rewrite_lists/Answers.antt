use Rattle.std.proofs.Common.{sym, subst}
use Rattle.model_drive.specs.declared.FormatOut.TheVariants as outs
use Rattle.model_drive.specs.Shown.{Shown}
use Rattle.model_drive.specs.declared.Kind.TheVariants as kinds
use Rattle.model_drive.specs.Formats.{FormatCause}
use Rattle.ram_lists.specs.Lists.{lists_of}
use Rattle.ram_states.specs.Shown.{shown_ready}
use Rattle.ram_states.specs.Formats.{FormatSteps}
use Rattle.ram_states.proofs.FormatAnswers.{rewritten, rewritten_steps, lacking, lacking_steps, rewrite_stopped}
use Rattle.model_medium.specs.Happened.{Happened}
use Rattle.ram_medium.proofs.Parts.{part_happened, stop_happened}
use Rattle.ram_states.proofs.states.Ready.rewrite_lists.Goals as goal

pub returns-in-Ok-None-clause-cause : goal.returns-in-Ok-None-clause-cause
returns-in-Ok-None-clause-cause g c =
    subst (λ (x : Shown). FormatCause (shown_ready c.args.self) x kinds.Rewrite outs.Good) (sym c.over-ready.ensures.shown)
    (rewritten g.M.Medium.world g.M.Medium.reaches g.M.Medium.takes g.M.MediumControl.arms g.M.MediumControl.armed_cut g.met.M.MediumControl.control_laws c.args.self.geometry c.args.self.medium c.repair_lists.new.medium (lists_of c.args.self.memory.lists) c.args.self.memory.workspace.buffer c.args.self.valid (rw c.in-Ok-None.field-0-is at c.in-Ok-None.ensures.rule))

pub returns-in-Ok-None-clause-step : goal.returns-in-Ok-None-clause-step
returns-in-Ok-None-clause-step g c =
    subst (λ (x : Shown). FormatSteps (shown_ready c.args.self) x kinds.Rewrite outs.Good) (sym c.over-ready.ensures.shown)
    (rewritten_steps g.M.Medium.world g.M.Medium.reaches g.M.Medium.takes g.M.MediumControl.arms g.M.MediumControl.armed_cut g.met.M.MediumControl.control_laws c.args.self.geometry c.args.self.medium c.repair_lists.new.medium (lists_of c.args.self.memory.lists) c.args.self.memory.workspace.buffer c.args.self.valid (rw c.in-Ok-None.field-0-is at c.in-Ok-None.ensures.rule))

pub returns-in-Ok-Some-clause-cause : goal.returns-in-Ok-Some-clause-cause
returns-in-Ok-Some-clause-cause g c =
    subst (λ (x : Shown). FormatCause (shown_ready c.args.self) x kinds.Rewrite (outs.NoUpdate c.in-Ok-Some.counter)) (sym c.over-ready-in-Ok-Some.ensures.shown)
    (lacking g.M.Medium.world g.M.Medium.reaches g.M.Medium.takes g.M.MediumControl.arms g.M.MediumControl.armed_cut g.met.M.MediumControl.control_laws c.args.self.geometry c.args.self.medium c.repair_lists.new.medium (lists_of c.args.self.memory.lists) c.args.self.memory.workspace.buffer c.args.self.valid c.in-Ok-Some.counter (rw c.in-Ok-Some.field-0-is at c.in-Ok-Some.ensures.rule))

pub returns-in-Ok-Some-clause-step : goal.returns-in-Ok-Some-clause-step
returns-in-Ok-Some-clause-step g c =
    subst (λ (x : Shown). FormatSteps (shown_ready c.args.self) x kinds.Rewrite (outs.NoUpdate c.in-Ok-Some.counter)) (sym c.over-ready-in-Ok-Some.ensures.shown)
    (lacking_steps g.M.Medium.world g.M.Medium.reaches g.M.Medium.takes g.M.MediumControl.arms g.M.MediumControl.armed_cut g.met.M.MediumControl.control_laws c.args.self.geometry c.args.self.medium c.repair_lists.new.medium (lists_of c.args.self.memory.lists) c.args.self.memory.workspace.buffer c.args.self.valid c.in-Ok-Some.counter (rw c.in-Ok-Some.field-0-is at c.in-Ok-Some.ensures.rule))

pub returns-in-Ok-None-clause-happened : goal.returns-in-Ok-None-clause-happened
returns-in-Ok-None-clause-happened g c =
    subst (Happened g.M.Medium.takes c.args.self.medium) (sym c.over-ready.ensures.medium)
    (part_happened g.M.Medium.world g.M.Medium.reaches g.M.Medium.takes g.met.M.Medium.happened c.args.self.medium c.repair_lists.new.medium _ (rw c.in-Ok-None.field-0-is at c.in-Ok-None.ensures.rule).both.continues)

pub returns-in-Ok-Some-clause-happened : goal.returns-in-Ok-Some-clause-happened
returns-in-Ok-Some-clause-happened g c =
    subst (Happened g.M.Medium.takes c.args.self.medium) (sym c.over-ready-in-Ok-Some.ensures.medium)
    (part_happened g.M.Medium.world g.M.Medium.reaches g.M.Medium.takes g.met.M.Medium.happened c.args.self.medium c.repair_lists.new.medium _ (rw c.in-Ok-Some.field-0-is at c.in-Ok-Some.ensures.rule).both.continues)

pub returns-in-Err-clause-cause : goal.returns-in-Err-clause-cause
returns-in-Err-clause-cause g c =
    rw (c.stopped.ensures.state, c.stopped.ensures.out) (rewrite_stopped g.M.Medium.world g.M.Medium.reaches g.M.Medium.takes g.M.MediumControl.arms g.M.MediumControl.armed_cut g.met.M.MediumControl.control_laws c.args.self.geometry c.args.self.medium c.repair_lists.new.medium (lists_of c.args.self.memory.lists) c.args.self.memory.workspace.buffer
    c.in-Err.stop c.args.self.on c.in-Err.ensures.rule).0

pub returns-in-Err-clause-step : goal.returns-in-Err-clause-step
returns-in-Err-clause-step g c =
    rw (c.stopped.ensures.state, c.stopped.ensures.out) (rewrite_stopped g.M.Medium.world g.M.Medium.reaches g.M.Medium.takes g.M.MediumControl.arms g.M.MediumControl.armed_cut g.met.M.MediumControl.control_laws c.args.self.geometry c.args.self.medium c.repair_lists.new.medium (lists_of c.args.self.memory.lists) c.args.self.memory.workspace.buffer
    c.in-Err.stop c.args.self.on c.in-Err.ensures.rule).1

pub returns-in-Err-clause-happened : goal.returns-in-Err-clause-happened
returns-in-Err-clause-happened g c =
    subst (Happened g.M.Medium.takes c.args.self.medium) (sym c.stopped.ensures.medium)
    (stop_happened g.M.Medium.world g.M.Medium.reaches g.M.Medium.takes g.met.M.Medium.happened c.args.self.medium c.repair_lists.new.medium _ c.in-Err.stop c.args.self.on c.in-Err.ensures.rule.stops)
