use Rattle.std.proofs.Common.{sym, subst}
use Rattle.model_drive.specs.declared.ExpandOut.TheVariants as outs
use Rattle.model_drive.specs.Shown.{Shown}
use Rattle.model_drive.specs.Expands.{ExpandCause}
use Rattle.ram_lists.specs.Lists.{lists_of}
use Rattle.ram_states.specs.Shown.{shown_ready}
use Rattle.ram_states.proofs.ExpandCauses.{good_cause, vain_cause, grown_stopped}
use Rattle.std.proofs.Common.{inl, inr}
use Rattle.model_medium.specs.Happened.{Happened}
use Rattle.ram_medium.proofs.Parts.{nothing_happened, part_happened, stop_happened}
use Rattle.ram_states.proofs.states.Ready.grow_spares.Goals as goal

pub returns-in-Ok-Good-clause-cause : goal.returns-in-Ok-Good-clause-cause
returns-in-Ok-Good-clause-cause g c =
    subst (λ (x : Shown). ExpandCause (shown_ready c.args.self) x c.args.capacity outs.Good) (sym c.laid_out-ready.ensures.shown)
    (good_cause g.M.Medium.world g.M.Medium.reaches g.M.Medium.takes g.M.MediumControl.arms g.M.MediumControl.armed_cut g.met.M.MediumControl.control_laws c.args.self.geometry (lists_of c.args.self.memory.lists) c.args.self.memory.workspace.buffer c.args.self.medium c.grow.new.medium c.args.capacity (lists_of c.grow.new.lists) (rw c.in-Ok-Good.field-0-is at c.in-Ok-Good.ensures.rule))

pub returns-in-Ok-NoUpdate-clause-cause : goal.returns-in-Ok-NoUpdate-clause-cause
returns-in-Ok-NoUpdate-clause-cause g c =
    subst (λ (x : Shown). ExpandCause (shown_ready c.args.self) x c.args.capacity (outs.NoUpdate c.in-Ok-NoUpdate.counter)) (sym c.over-ready.ensures.shown)
    (vain_cause g.M.Medium.world g.M.Medium.reaches g.M.Medium.takes g.M.MediumControl.arms g.M.MediumControl.armed_cut g.met.M.MediumControl.control_laws c.args.self.geometry (lists_of c.args.self.memory.lists) c.args.self.memory.workspace.buffer c.args.self.medium c.grow.new.medium c.args.capacity (lists_of c.grow.new.lists) c.in-Ok-NoUpdate.counter (rw c.in-Ok-NoUpdate.field-0-is at c.in-Ok-NoUpdate.ensures.rule))

pub returns-in-Ok-Good-clause-happened : goal.returns-in-Ok-Good-clause-happened
returns-in-Ok-Good-clause-happened g c =
    subst (Happened g.M.Medium.takes c.args.self.medium) (sym c.laid_out-ready.ensures.medium)
    (elim (rw c.in-Ok-Good.field-0-is at c.in-Ok-Good.ensures.rule) [
      | inl keeps ↦ part_happened g.M.Medium.world g.M.Medium.reaches g.M.Medium.takes g.met.M.Medium.happened c.args.self.medium c.grow.new.medium _ keeps.ended.continues
      | inr grown ↦ part_happened g.M.Medium.world g.M.Medium.reaches g.M.Medium.takes g.met.M.Medium.happened c.args.self.medium c.grow.new.medium _ grown.ended.continues
    ])

pub returns-in-Ok-Refused-clause-happened : goal.returns-in-Ok-Refused-clause-happened
returns-in-Ok-Refused-clause-happened g c =
    nothing_happened g.M.Medium.world g.M.Medium.reaches g.M.Medium.takes g.met.M.Medium.happened c.args.self.medium c.grow.new.medium (rw c.in-Ok-Refused.field-0-is at c.in-Ok-Refused.ensures.rule).does.nothing

pub returns-in-Ok-NoUpdate-clause-happened : goal.returns-in-Ok-NoUpdate-clause-happened
returns-in-Ok-NoUpdate-clause-happened g c =
    subst (Happened g.M.Medium.takes c.args.self.medium) (sym c.over-ready.ensures.medium)
    (part_happened g.M.Medium.world g.M.Medium.reaches g.M.Medium.takes g.met.M.Medium.happened c.args.self.medium c.grow.new.medium _ (rw c.in-Ok-NoUpdate.field-0-is at c.in-Ok-NoUpdate.ensures.rule).ended.continues)

pub returns-in-Err-clause-cause : goal.returns-in-Err-clause-cause
returns-in-Err-clause-cause g c =
    rw (c.stopped.ensures.state, c.stopped.ensures.out) (grown_stopped g.M.Medium.world g.M.Medium.reaches g.M.Medium.takes g.M.MediumControl.arms g.M.MediumControl.armed_cut g.met.M.MediumControl.control_laws c.args.self.geometry (lists_of c.args.self.memory.lists) c.args.self.memory.workspace.buffer c.args.self.medium c.grow.new.medium c.args.capacity (lists_of c.grow.new.lists)
    c.in-Err.stop c.in-Err.ensures.rule)

pub returns-in-Err-clause-happened : goal.returns-in-Err-clause-happened
returns-in-Err-clause-happened g c =
    subst (Happened g.M.Medium.takes c.args.self.medium) (sym c.stopped.ensures.medium)
    (stop_happened g.M.Medium.world g.M.Medium.reaches g.M.Medium.takes g.met.M.Medium.happened c.args.self.medium c.grow.new.medium _ c.in-Err.stop c.args.self.on c.in-Err.ensures.rule.stopped.stops)
