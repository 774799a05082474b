use Rattle.std.proofs.Common.{sym, subst}
use Rattle.model_medium.specs.Happened.{Happened}
use Rattle.model_sectors.specs.declared.PowerOut.TheVariants as outs
use Rattle.model_drive.specs.Shown.{Shown, capacity}
use Rattle.model_drive.specs.Power.{PowerCause}
use Rattle.ram_lists.specs.Lists.{lists_of}
use Rattle.ram_states.specs.Shown.{shown_off}
use Rattle.ram_states.specs.Powers.{PowerSteps, power_out}
use Rattle.ram_states.proofs.Powering.{mounted, ready_steps, unformatted, was_on, fell, stopped}
use Rattle.ram_states.proofs.Happening.{turned_part, turned_stop}
use Rattle.ram_states.proofs.states.PoweredOff.power_on.Goals as goal

pub returns-in-Ok-Lists-clause-cause : goal.returns-in-Ok-Lists-clause-cause
returns-in-Ok-Lists-clause-cause g c =
    subst (λ (x : Shown). PowerCause (shown_off c.args.self) x (outs.Ready (capacity x))) (sym c.laid_out.ensures.shown)
    (mounted g.M.Medium.world g.M.Medium.reaches g.M.Medium.takes g.M.MediumControl.arms g.M.MediumControl.armed_cut g.met.M.MediumControl.control_laws c.args.self.geometry c.args.self.medium c.power_on.new.self c.power_on.ensures.event c.power_on.ensures.power c.mount_lists.new.medium (lists_of c.mount_lists.new.lists) (rw c.in-Ok-Lists.field-0-is at c.in-Ok-Lists.ensures.rule))

pub returns-in-Ok-Lists-clause-step : goal.returns-in-Ok-Lists-clause-step
returns-in-Ok-Lists-clause-step g c =
    subst (λ (x : Shown). PowerSteps (shown_off c.args.self) x (outs.Ready (capacity x))) (sym c.laid_out.ensures.shown)
    (ready_steps g.M.Medium.world g.M.Medium.reaches g.M.Medium.takes g.M.MediumControl.arms g.M.MediumControl.armed_cut g.met.M.MediumControl.control_laws c.args.self.geometry c.args.self.medium c.power_on.new.self c.power_on.ensures.event c.power_on.ensures.power c.mount_lists.new.medium (lists_of c.mount_lists.new.lists) (rw c.in-Ok-Lists.field-0-is at c.in-Ok-Lists.ensures.rule))

pub returns-in-Ok-Lists-clause-happened : goal.returns-in-Ok-Lists-clause-happened
returns-in-Ok-Lists-clause-happened g c =
    subst (Happened g.M.Medium.takes c.args.self.medium) (sym c.laid_out.ensures.medium)
    (turned_part g.M.Medium.world g.M.Medium.reaches g.M.Medium.takes g.met.M.Medium.happened c.args.self.medium c.power_on.new.self c.power_on.ensures.event c.mount_lists.new.medium _ (rw c.in-Ok-Lists.field-0-is at c.in-Ok-Lists.ensures.rule).ended.continues)

pub returns-in-Ok-Bare-clause-cause : goal.returns-in-Ok-Bare-clause-cause
returns-in-Ok-Bare-clause-cause g c =
    unformatted g.M.Medium.world g.M.Medium.reaches g.M.Medium.takes g.M.MediumControl.arms g.M.MediumControl.armed_cut g.met.M.MediumControl.control_laws c.args.self.geometry c.args.self.medium c.power_on.new.self c.power_on.ensures.event c.power_on.ensures.power c.mount_lists.new.medium c.in-Ok-Bare.mark (rw c.in-Ok-Bare.field-0-is at c.in-Ok-Bare.ensures.rule)

pub returns-in-Ok-Bare-clause-happened : goal.returns-in-Ok-Bare-clause-happened
returns-in-Ok-Bare-clause-happened g c =
    turned_part g.M.Medium.world g.M.Medium.reaches g.M.Medium.takes g.met.M.Medium.happened c.args.self.medium c.power_on.new.self c.power_on.ensures.event c.mount_lists.new.medium _ (rw c.in-Ok-Bare.field-0-is at c.in-Ok-Bare.ensures.rule).ended.continues

pub stopped_mount-requires-clause-off : goal.stopped_mount-requires-clause-off
stopped_mount-requires-clause-off g c =
    fell g.M.Medium.world g.M.Medium.reaches g.M.Medium.takes g.M.MediumControl.arms g.M.MediumControl.armed_cut g.met.M.MediumControl.control_laws c.args.self.geometry c.args.self.medium c.power_on.new.self c.power_on.ensures.event c.power_on.ensures.power c.mount_lists.new.medium c.in-Err.stop c.in-Err.ensures.rule

pub stopped_mount-requires-clause-was_on : goal.stopped_mount-requires-clause-was_on
stopped_mount-requires-clause-was_on g c =
    was_on g.M.Medium.world g.M.Medium.reaches g.M.Medium.takes g.M.MediumControl.arms g.M.MediumControl.armed_cut g.met.M.MediumControl.control_laws c.args.self.geometry c.args.self.medium c.power_on.new.self c.power_on.ensures.event c.power_on.ensures.power c.mount_lists.new.medium c.in-Err.stop c.in-Err.ensures.rule

pub returns-in-Err-clause-cause : goal.returns-in-Err-clause-cause
returns-in-Err-clause-cause g c =
    subst (λ (x : Shown). PowerCause (shown_off c.args.self) x (power_out c.stopped_mount.result)) (sym c.stopped_mount.ensures.shown)
    (stopped g.M.Medium.world g.M.Medium.reaches g.M.Medium.takes g.M.MediumControl.arms g.M.MediumControl.armed_cut g.met.M.MediumControl.control_laws c.args.self.geometry c.args.self.medium c.power_on.new.self c.power_on.ensures.event c.power_on.ensures.power c.mount_lists.new.medium c.in-Err.stop (power_out c.stopped_mount.result) c.stopped_mount.ensures.out c.in-Err.ensures.rule).0

pub returns-in-Err-clause-step : goal.returns-in-Err-clause-step
returns-in-Err-clause-step g c =
    subst (λ (x : Shown). PowerSteps (shown_off c.args.self) x (power_out c.stopped_mount.result)) (sym c.stopped_mount.ensures.shown)
    (stopped g.M.Medium.world g.M.Medium.reaches g.M.Medium.takes g.M.MediumControl.arms g.M.MediumControl.armed_cut g.met.M.MediumControl.control_laws c.args.self.geometry c.args.self.medium c.power_on.new.self c.power_on.ensures.event c.power_on.ensures.power c.mount_lists.new.medium c.in-Err.stop (power_out c.stopped_mount.result) c.stopped_mount.ensures.out c.in-Err.ensures.rule).1

pub returns-in-Err-clause-happened : goal.returns-in-Err-clause-happened
returns-in-Err-clause-happened g c =
    subst (Happened g.M.Medium.takes c.args.self.medium) (sym c.stopped_mount.ensures.medium)
    (turned_stop g.M.Medium.world g.M.Medium.reaches g.M.Medium.takes g.met.M.Medium.happened c.args.self.medium c.power_on.new.self c.power_on.ensures.event c.mount_lists.new.medium 48 c.in-Err.stop c.in-Err.ensures.rule.was_on c.in-Err.ensures.rule.stops)
