use Rattle.std.proofs.Common.{◌∙◌, sym, ap, subst}
use Rattle.model_lists.specs.declared.dds.PdlKind.TheVariants as pdl_kinds
use Rattle.model_drive.specs.declared.FormatOut.TheVariants as outs
use Rattle.model_drive.specs.Shown.{Shown}
use Rattle.model_drive.specs.declared.Kind.TheVariants as kinds
use Rattle.model_sectors.specs.Discs.{zeros}
use Rattle.model_drive.specs.Formats.{FormatCause}
use Rattle.model_volume.proofs.GivenFacts.{settled_within}
use Rattle.ram_medium.specs.Laws.{machine_shown}
use Rattle.ram_lists.specs.Lists.{lists_of}
use Rattle.ram_lists.specs.declared.lists.Lists.{Lists}
use Rattle.ram_format.proofs.Keeps.{are_kept}
use Rattle.ram_transfer.specs.Shown.{shown_under}
use Rattle.ram_states.specs.Shown.{shown_ready}
use Rattle.ram_states.specs.Formats.{FormatSteps}
use Rattle.ram_states.proofs.FormatAnswers.{full_good, full_good_steps, full_many, full_many_steps, full_lost, full_lost_steps, lost_leaves, full_stopped, full_unroomy}
use Rattle.model_medium.specs.Happened.{Happened}
use Rattle.std.proofs.Common.{inl, inr}
use Rattle.ram_medium.proofs.Parts.{nothing_happened, part_happened, stop_happened}
use Rattle.ram_states.proofs.states.Ready.format_keeping.Goals as goal

pub format_lists-requires-clause-zero : goal.format_lists-requires-clause-zero
unfolding zeros
format_lists-requires-clause-zero g c = c.fill.ensures

pub format_lists-requires-clause-kept : goal.format_lists-requires-clause-kept
format_lists-requires-clause-kept g c =
    are_kept c.args.self.geometry (lists_of c.args.self.memory.lists) c.args.self.valid c.args.drop_sdl c.deref.result.now (rw c.deref.ensures.value c.requires)

pub format_lists-requires-clause-marked : goal.format_lists-requires-clause-marked
format_lists-requires-clause-marked g c =
    settled_within c.args.self.geometry (g.M.Medium.world c.args.self.medium).cells (lists_of c.args.self.memory.lists) c.args.self.settled c.args.self.valid.together.same_counter

pub returns-in-Ok-clause-cause : goal.returns-in-Ok-clause-cause
returns-in-Ok-clause-cause g c =
    subst (λ (x : Shown). FormatCause (shown_ready c.args.self) x (kinds.Full c.args.drop_sdl) outs.Good) (sym c.laid_out-ready.ensures.shown)
    (full_good g.M.Medium.world g.M.Medium.reaches g.M.Medium.takes g.M.MediumControl.arms g.M.MediumControl.armed_cut g.met.M.MediumControl.control_laws c.args.self.geometry c.args.self.medium c.format_lists.new.medium (lists_of c.args.self.memory.lists) c.args.self.memory.workspace.buffer c.args.drop_sdl c.deref.result.now (rw c.deref.ensures.value c.requires) (lists_of c.format_lists.new.lists) c.in-Ok.ensures.rule)

pub returns-in-Ok-clause-step : goal.returns-in-Ok-clause-step
returns-in-Ok-clause-step g c =
    subst (λ (x : Shown). FormatSteps (shown_ready c.args.self) x (kinds.Full c.args.drop_sdl) outs.Good) (sym c.laid_out-ready.ensures.shown)
    (full_good_steps g.M.Medium.world g.M.Medium.reaches g.M.Medium.takes g.M.MediumControl.arms g.M.MediumControl.armed_cut g.met.M.MediumControl.control_laws c.args.self.geometry c.args.self.medium c.format_lists.new.medium (lists_of c.args.self.memory.lists) c.args.self.memory.workspace.buffer c.args.drop_sdl c.deref.result.now (rw c.deref.ensures.value c.requires) (lists_of c.format_lists.new.lists) c.in-Ok.ensures.rule)

pub returns-in-Err-TooMany-clause-cause : goal.returns-in-Err-TooMany-clause-cause
returns-in-Err-TooMany-clause-cause g c =
    subst (λ (x : Shown). FormatCause (shown_ready c.args.self) x (kinds.Full c.args.drop_sdl) (outs.TooMany c.in-Err-TooMany.found)) (sym c.over-bare.ensures.shown)
    (full_many g.M.Medium.world g.M.Medium.reaches g.M.Medium.takes g.M.MediumControl.arms g.M.MediumControl.armed_cut g.met.M.MediumControl.control_laws c.args.self.geometry c.args.self.medium c.format_lists.new.medium (lists_of c.args.self.memory.lists) c.args.self.memory.workspace.buffer c.args.drop_sdl c.deref.result.now (rw c.deref.ensures.value c.requires) c.in-Err-TooMany.found c.in-Err-TooMany.mark (rw c.in-Err-TooMany.field-0-is at c.in-Err-TooMany.ensures.rule))

pub returns-in-Err-NoCopy-clause-cause : goal.returns-in-Err-NoCopy-clause-cause
returns-in-Err-NoCopy-clause-cause g c =
    subst (λ (x : Shown). FormatCause (shown_ready c.args.self) x (kinds.Full c.args.drop_sdl) (outs.NoUpdate c.in-Err-NoCopy.counter)) (sym c.over-bare-in-Err-NoCopy.ensures.shown)
    (full_lost g.M.Medium.world g.M.Medium.reaches g.M.Medium.takes g.M.MediumControl.arms g.M.MediumControl.armed_cut g.met.M.MediumControl.control_laws c.args.self.geometry c.args.self.medium c.format_lists.new.medium (lists_of c.args.self.memory.lists) c.args.self.memory.workspace.buffer c.args.drop_sdl c.deref.result.now (rw c.deref.ensures.value c.requires) c.in-Err-NoCopy.counter c.in-Err-NoCopy.mark (rw c.in-Err-NoCopy.field-0-is at c.in-Err-NoCopy.ensures.rule))

pub returns-in-Err-TooMany-clause-step : goal.returns-in-Err-TooMany-clause-step
returns-in-Err-TooMany-clause-step g c =
    subst (λ (x : Shown). FormatSteps (shown_ready c.args.self) x (kinds.Full c.args.drop_sdl) (outs.TooMany c.in-Err-TooMany.found)) (sym c.over-bare.ensures.shown)
    (full_many_steps g.M.Medium.world g.M.Medium.reaches g.M.Medium.takes g.M.MediumControl.arms g.M.MediumControl.armed_cut g.met.M.MediumControl.control_laws c.args.self.geometry c.args.self.medium c.format_lists.new.medium (lists_of c.args.self.memory.lists) c.args.self.memory.workspace.buffer c.args.drop_sdl c.deref.result.now (rw c.deref.ensures.value c.requires) c.in-Err-TooMany.found c.in-Err-TooMany.mark (rw c.in-Err-TooMany.field-0-is at c.in-Err-TooMany.ensures.rule))

pub over-bare-requires-in-Err-NoCopy-clause-bare : goal.over-bare-requires-in-Err-NoCopy-clause-bare
over-bare-requires-in-Err-NoCopy-clause-bare g c =
    (lost_leaves g.M.Medium.world g.M.Medium.reaches g.M.Medium.takes g.M.MediumControl.arms g.M.MediumControl.armed_cut g.met.M.MediumControl.control_laws c.args.self.geometry c.args.self.medium c.format_lists.new.medium c.deref.result.now pdl_kinds.G1 (lists_of c.args.self.memory.lists).dds.counter c.in-Err-NoCopy.counter c.in-Err-NoCopy.mark (rw c.in-Err-NoCopy.field-0-is at c.in-Err-NoCopy.ensures.rule)).gives_none

pub returns-in-Err-NoCopy-clause-step : goal.returns-in-Err-NoCopy-clause-step
returns-in-Err-NoCopy-clause-step g c =
    subst (λ (x : Shown). FormatSteps (shown_ready c.args.self) x (kinds.Full c.args.drop_sdl) (outs.NoUpdate c.in-Err-NoCopy.counter)) (sym c.over-bare-in-Err-NoCopy.ensures.shown)
    (full_lost_steps g.M.Medium.world g.M.Medium.reaches g.M.Medium.takes g.M.MediumControl.arms g.M.MediumControl.armed_cut g.met.M.MediumControl.control_laws c.args.self.geometry c.args.self.medium c.format_lists.new.medium (lists_of c.args.self.memory.lists) c.args.self.memory.workspace.buffer c.args.drop_sdl c.deref.result.now (rw c.deref.ensures.value c.requires) c.in-Err-NoCopy.counter c.in-Err-NoCopy.mark (rw c.in-Err-NoCopy.field-0-is at c.in-Err-NoCopy.ensures.rule))

pub returns-in-Ok-clause-happened : goal.returns-in-Ok-clause-happened
returns-in-Ok-clause-happened g c =
    subst (Happened g.M.Medium.takes c.args.self.medium) (sym c.laid_out-ready.ensures.medium)
    (part_happened g.M.Medium.world g.M.Medium.reaches g.M.Medium.takes g.met.M.Medium.happened c.args.self.medium c.format_lists.new.medium _ c.in-Ok.ensures.rule.goes.continues)

pub returns-in-Err-TooMany-clause-happened : goal.returns-in-Err-TooMany-clause-happened
returns-in-Err-TooMany-clause-happened g c =
    subst (Happened g.M.Medium.takes c.args.self.medium) (sym c.over-bare.ensures.medium)
    (part_happened g.M.Medium.world g.M.Medium.reaches g.M.Medium.takes g.met.M.Medium.happened c.args.self.medium c.format_lists.new.medium _ (rw c.in-Err-TooMany.field-0-is at c.in-Err-TooMany.ensures.rule).goes.continues)

pub returns-in-Err-NoCopy-clause-happened : goal.returns-in-Err-NoCopy-clause-happened
returns-in-Err-NoCopy-clause-happened g c =
    subst (Happened g.M.Medium.takes c.args.self.medium) (sym c.over-bare-in-Err-NoCopy.ensures.medium)
    (elim (rw c.in-Err-NoCopy.field-0-is at c.in-Err-NoCopy.ensures.rule) [
      | inl one ↦ part_happened g.M.Medium.world g.M.Medium.reaches g.M.Medium.takes g.met.M.Medium.happened c.args.self.medium c.format_lists.new.medium _ one.goes.continues
      | inr later ↦ elim later [
        | inl two ↦ part_happened g.M.Medium.world g.M.Medium.reaches g.M.Medium.takes g.met.M.Medium.happened c.args.self.medium c.format_lists.new.medium _ two.goes.continues
        | inr three ↦ part_happened g.M.Medium.world g.M.Medium.reaches g.M.Medium.takes g.met.M.Medium.happened c.args.self.medium c.format_lists.new.medium _ three.goes.continues
      ]
    ])

pub returns-in-Err-NoRoom-clause-happened : goal.returns-in-Err-NoRoom-clause-happened
returns-in-Err-NoRoom-clause-happened g c =
    subst (Happened g.M.Medium.takes c.args.self.medium) (sym c.of_parts-ready.ensures.medium)
    (nothing_happened g.M.Medium.world g.M.Medium.reaches g.M.Medium.takes g.met.M.Medium.happened c.args.self.medium c.format_lists.new.medium (rw c.in-Err-NoRoom.field-0-is at c.in-Err-NoRoom.ensures.rule).nothing)

pub returns-in-Err-Stopped-clause-cause : goal.returns-in-Err-Stopped-clause-cause
returns-in-Err-Stopped-clause-cause g c =
    rw (c.stopped.ensures.state, c.stopped.ensures.out) (full_stopped g.M.Medium.world g.M.Medium.reaches g.M.Medium.takes g.M.MediumControl.arms g.M.MediumControl.armed_cut g.met.M.MediumControl.control_laws c.args.self.geometry c.args.self.medium c.format_lists.new.medium (lists_of c.args.self.memory.lists) c.args.self.memory.workspace.buffer c.args.drop_sdl c.deref.result.now (rw c.deref.ensures.value c.requires) c.in-Err-Stopped.stop c.args.self.on (rw c.in-Err-Stopped.field-0-is at c.in-Err-Stopped.ensures.rule)).0

pub returns-in-Err-Stopped-clause-step : goal.returns-in-Err-Stopped-clause-step
returns-in-Err-Stopped-clause-step g c =
    rw (c.stopped.ensures.state, c.stopped.ensures.out) (full_stopped g.M.Medium.world g.M.Medium.reaches g.M.Medium.takes g.M.MediumControl.arms g.M.MediumControl.armed_cut g.met.M.MediumControl.control_laws c.args.self.geometry c.args.self.medium c.format_lists.new.medium (lists_of c.args.self.memory.lists) c.args.self.memory.workspace.buffer c.args.drop_sdl c.deref.result.now (rw c.deref.ensures.value c.requires) c.in-Err-Stopped.stop c.args.self.on (rw c.in-Err-Stopped.field-0-is at c.in-Err-Stopped.ensures.rule)).1

pub returns-in-Err-Stopped-clause-happened : goal.returns-in-Err-Stopped-clause-happened
returns-in-Err-Stopped-clause-happened g c =
    subst (Happened g.M.Medium.takes c.args.self.medium) (sym c.stopped.ensures.medium)
    (stop_happened g.M.Medium.world g.M.Medium.reaches g.M.Medium.takes g.met.M.Medium.happened c.args.self.medium c.format_lists.new.medium _ c.in-Err-Stopped.stop c.args.self.on (rw c.in-Err-Stopped.field-0-is at c.in-Err-Stopped.ensures.rule).stops)

pub returns-in-Err-NoRoom-clause-cause : goal.returns-in-Err-NoRoom-clause-cause
returns-in-Err-NoRoom-clause-cause g c =
    (full_unroomy g.M.Medium.world g.M.Medium.reaches g.M.Medium.takes g.M.MediumControl.arms g.M.MediumControl.armed_cut g.met.M.MediumControl.control_laws c.args.self.geometry c.args.self.medium c.format_lists.new.medium (lists_of c.args.self.memory.lists) c.args.self.memory.workspace.buffer c.args.drop_sdl c.deref.result.now (rw c.deref.ensures.value c.requires) c.args.self.valid c.args.self.settled (shown_ready c.of_parts-ready.result)
    (c.of_parts-ready.ensures.shown ∙ ap (λ (l : Lists). shown_under c.args.self.geometry (machine_shown g.M.Medium.world g.M.MediumControl.arms g.M.MediumControl.armed_cut c.format_lists.new.medium) (lists_of l) c.args.self.memory.workspace.buffer) (rw c.in-Err-NoRoom.field-0-is at c.in-Err-NoRoom.ensures.stays))
    c.in-Err-NoRoom.mark (rw c.in-Err-NoRoom.field-0-is at c.in-Err-NoRoom.ensures.rule)).0

pub returns-in-Err-NoRoom-clause-step : goal.returns-in-Err-NoRoom-clause-step
returns-in-Err-NoRoom-clause-step g c =
    (full_unroomy g.M.Medium.world g.M.Medium.reaches g.M.Medium.takes g.M.MediumControl.arms g.M.MediumControl.armed_cut g.met.M.MediumControl.control_laws c.args.self.geometry c.args.self.medium c.format_lists.new.medium (lists_of c.args.self.memory.lists) c.args.self.memory.workspace.buffer c.args.drop_sdl c.deref.result.now (rw c.deref.ensures.value c.requires) c.args.self.valid c.args.self.settled (shown_ready c.of_parts-ready.result)
    (c.of_parts-ready.ensures.shown ∙ ap (λ (l : Lists). shown_under c.args.self.geometry (machine_shown g.M.Medium.world g.M.MediumControl.arms g.M.MediumControl.armed_cut c.format_lists.new.medium) (lists_of l) c.args.self.memory.workspace.buffer) (rw c.in-Err-NoRoom.field-0-is at c.in-Err-NoRoom.ensures.stays))
    c.in-Err-NoRoom.mark (rw c.in-Err-NoRoom.field-0-is at c.in-Err-NoRoom.ensures.rule)).1
