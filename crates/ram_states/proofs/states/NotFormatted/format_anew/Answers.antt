use Rattle.std.proofs.Common.{[], sym, subst}
use Rattle.model_lists.specs.declared.dds.PdlKind.TheVariants as pdl_kinds
use Rattle.model_drive.specs.declared.FormatOut.TheVariants as outs
use Rattle.model_drive.specs.Shown.{Shown}
use Rattle.model_drive.specs.Formats.{FormatCause}
use Rattle.model_sectors.specs.Discs.{zeros}
use Rattle.model_volume.specs.Given.{GivesNone}
use Rattle.ram_lists.specs.Lists.{lists_of}
use Rattle.ram_states.specs.Shown.{shown_bare}
use Rattle.ram_states.specs.Formats.{FormatSteps}
use Rattle.ram_states.proofs.FormatAnswers.{bare_good, bare_good_steps, bare_many, bare_lost, lost_leaves, bare_stopped}
use Rattle.model_medium.specs.Happened.{Happened}
use Rattle.std.proofs.Common.{inl, inr}
use Rattle.ram_medium.proofs.Parts.{nothing_happened, part_happened, stop_happened}
use Rattle.ram_states.proofs.states.NotFormatted.format_anew.Goals as goal

pub format_lists-requires-clause-zero : goal.format_lists-requires-clause-zero
unfolding zeros
format_lists-requires-clause-zero g c = c.fill.ensures

pub over-bare-requires-in-Err-NoRoom-clause-bare : goal.over-bare-requires-in-Err-NoRoom-clause-bare
over-bare-requires-in-Err-NoRoom-clause-bare g c =
    subst (λ m. GivesNone c.args.self.geometry (g.M.Medium.world m).cells) (sym (rw c.in-Err-NoRoom.field-0-is at c.in-Err-NoRoom.ensures.rule).nothing) c.args.self.bare

pub over-bare-requires-in-Err-NoCopy-clause-bare : goal.over-bare-requires-in-Err-NoCopy-clause-bare
over-bare-requires-in-Err-NoCopy-clause-bare g c =
    (lost_leaves g.M.Medium.world g.M.Medium.reaches g.M.Medium.takes g.M.MediumControl.arms g.M.MediumControl.armed_cut g.met.M.MediumControl.control_laws c.args.self.geometry c.args.self.medium c.format_lists.new.medium [] pdl_kinds.P c.args.self.mark c.in-Err-NoCopy.counter c.in-Err-NoCopy.mark (rw c.in-Err-NoCopy.field-0-is at c.in-Err-NoCopy.ensures.rule)).gives_none

pub returns-in-Ok-clause-cause : goal.returns-in-Ok-clause-cause
returns-in-Ok-clause-cause g c =
    subst (λ (x : Shown). FormatCause (shown_bare c.args.self) x c.args.kind outs.Good) (sym c.laid_out-ready.ensures.shown)
    (bare_good g.M.Medium.world g.M.Medium.reaches g.M.Medium.takes g.M.MediumControl.arms g.M.MediumControl.armed_cut g.met.M.MediumControl.control_laws c.args.self.geometry c.args.self.medium c.format_lists.new.medium c.args.self.mark c.args.kind (lists_of c.format_lists.new.lists) c.in-Ok.ensures.rule)

pub returns-in-Ok-clause-step : goal.returns-in-Ok-clause-step
returns-in-Ok-clause-step g c =
    subst (λ (x : Shown). FormatSteps (shown_bare c.args.self) x c.args.kind outs.Good) (sym c.laid_out-ready.ensures.shown)
    (bare_good_steps g.M.Medium.world g.M.Medium.reaches g.M.Medium.takes g.M.MediumControl.arms g.M.MediumControl.armed_cut g.met.M.MediumControl.control_laws c.args.self.geometry c.args.self.medium c.format_lists.new.medium c.args.self.mark c.args.kind (lists_of c.format_lists.new.lists) c.in-Ok.ensures.rule)

pub returns-in-Err-TooMany-clause-cause : goal.returns-in-Err-TooMany-clause-cause
returns-in-Err-TooMany-clause-cause g c =
    subst (λ (x : Shown). FormatCause (shown_bare c.args.self) x c.args.kind (outs.TooMany c.in-Err-TooMany.found)) (sym c.over-bare.ensures.shown)
    (bare_many g.M.Medium.world g.M.Medium.reaches g.M.Medium.takes g.M.MediumControl.arms g.M.MediumControl.armed_cut g.met.M.MediumControl.control_laws c.args.self.geometry c.args.self.medium c.format_lists.new.medium c.args.self.mark c.args.kind c.in-Err-TooMany.found c.in-Err-TooMany.mark (rw c.in-Err-TooMany.field-0-is at c.in-Err-TooMany.ensures.rule))

pub returns-in-Err-NoCopy-clause-cause : goal.returns-in-Err-NoCopy-clause-cause
returns-in-Err-NoCopy-clause-cause g c =
    subst (λ (x : Shown). FormatCause (shown_bare c.args.self) x c.args.kind (outs.NoUpdate c.in-Err-NoCopy.counter)) (sym c.over-bare-in-Err-NoCopy.ensures.shown)
    (bare_lost g.M.Medium.world g.M.Medium.reaches g.M.Medium.takes g.M.MediumControl.arms g.M.MediumControl.armed_cut g.met.M.MediumControl.control_laws c.args.self.geometry c.args.self.medium c.format_lists.new.medium c.args.self.mark c.args.kind c.in-Err-NoCopy.counter c.in-Err-NoCopy.mark (rw c.in-Err-NoCopy.field-0-is at c.in-Err-NoCopy.ensures.rule))

pub returns-in-Ok-clause-happened : goal.returns-in-Ok-clause-happened
returns-in-Ok-clause-happened g c =
    subst (Happened g.M.Medium.takes c.args.self.medium) (sym c.laid_out-ready.ensures.medium)
    (part_happened g.M.Medium.world g.M.Medium.reaches g.M.Medium.takes g.met.M.Medium.happened c.args.self.medium c.format_lists.new.medium _ c.in-Ok.ensures.rule.goes.continues)

pub returns-in-Err-TooMany-clause-happened : goal.returns-in-Err-TooMany-clause-happened
returns-in-Err-TooMany-clause-happened g c =
    subst (Happened g.M.Medium.takes c.args.self.medium) (sym c.over-bare.ensures.medium)
    (part_happened g.M.Medium.world g.M.Medium.reaches g.M.Medium.takes g.met.M.Medium.happened c.args.self.medium c.format_lists.new.medium _ (rw c.in-Err-TooMany.field-0-is at c.in-Err-TooMany.ensures.rule).goes.continues)

pub returns-in-Err-NoCopy-clause-happened : goal.returns-in-Err-NoCopy-clause-happened
returns-in-Err-NoCopy-clause-happened g c =
    subst (Happened g.M.Medium.takes c.args.self.medium) (sym c.over-bare-in-Err-NoCopy.ensures.medium)
    (elim (rw c.in-Err-NoCopy.field-0-is at c.in-Err-NoCopy.ensures.rule) [
      | inl one ↦ part_happened g.M.Medium.world g.M.Medium.reaches g.M.Medium.takes g.met.M.Medium.happened c.args.self.medium c.format_lists.new.medium _ one.goes.continues
      | inr later ↦ elim later [
        | inl two ↦ part_happened g.M.Medium.world g.M.Medium.reaches g.M.Medium.takes g.met.M.Medium.happened c.args.self.medium c.format_lists.new.medium _ two.goes.continues
        | inr three ↦ part_happened g.M.Medium.world g.M.Medium.reaches g.M.Medium.takes g.met.M.Medium.happened c.args.self.medium c.format_lists.new.medium _ three.goes.continues
      ]
    ])

pub returns-in-Err-NoRoom-clause-happened : goal.returns-in-Err-NoRoom-clause-happened
returns-in-Err-NoRoom-clause-happened g c =
    subst (Happened g.M.Medium.takes c.args.self.medium) (sym c.over-bare-in-Err-NoRoom.ensures.medium)
    (nothing_happened g.M.Medium.world g.M.Medium.reaches g.M.Medium.takes g.met.M.Medium.happened c.args.self.medium c.format_lists.new.medium (rw c.in-Err-NoRoom.field-0-is at c.in-Err-NoRoom.ensures.rule).nothing)

pub returns-in-Err-Stopped-clause-cause : goal.returns-in-Err-Stopped-clause-cause
returns-in-Err-Stopped-clause-cause g c =
    rw (c.stopped.ensures.state, c.stopped.ensures.out) (bare_stopped g.M.Medium.world g.M.Medium.reaches g.M.Medium.takes g.M.MediumControl.arms g.M.MediumControl.armed_cut g.met.M.MediumControl.control_laws c.args.self.geometry c.args.self.medium c.format_lists.new.medium c.args.self.mark c.args.kind c.in-Err-Stopped.stop c.args.self.on (rw c.in-Err-Stopped.field-0-is at c.in-Err-Stopped.ensures.rule)).0

pub returns-in-Err-Stopped-clause-step : goal.returns-in-Err-Stopped-clause-step
returns-in-Err-Stopped-clause-step g c =
    rw (c.stopped.ensures.state, c.stopped.ensures.out) (bare_stopped g.M.Medium.world g.M.Medium.reaches g.M.Medium.takes g.M.MediumControl.arms g.M.MediumControl.armed_cut g.met.M.MediumControl.control_laws c.args.self.geometry c.args.self.medium c.format_lists.new.medium c.args.self.mark c.args.kind c.in-Err-Stopped.stop c.args.self.on (rw c.in-Err-Stopped.field-0-is at c.in-Err-Stopped.ensures.rule)).1

pub returns-in-Err-Stopped-clause-happened : goal.returns-in-Err-Stopped-clause-happened
returns-in-Err-Stopped-clause-happened g c =
    subst (Happened g.M.Medium.takes c.args.self.medium) (sym c.stopped.ensures.medium)
    (stop_happened g.M.Medium.world g.M.Medium.reaches g.M.Medium.takes g.met.M.Medium.happened c.args.self.medium c.format_lists.new.medium _ c.in-Err-Stopped.stop c.args.self.on (rw c.in-Err-Stopped.field-0-is at c.in-Err-Stopped.ensures.rule).stops)
