use Rattle.std.proofs.Common.{sym, ◌∙◌, subst}
use Rattle.model_medium.specs.Happened.{Happened}
use Rattle.ram_lists.specs.Lists.{lists_of}
use Rattle.ram_states.proofs.ReadShown.{read_cause, read_steps, read_quiet, read_on, read_settled, stopped_cause, stopped_steps, stopped_quiet}
use Rattle.ram_medium.proofs.Parts.{stop_happened}
use Rattle.ram_transfer.proofs.Happening.{read_happened}
use Rattle.ram_states.proofs.states.Ready.read_request.Goals as goal

pub invariant_of-ready : goal.invariant_of-ready
invariant_of-ready g c = record {
  size = c.read_parts.ensures.as_many ∙ c.args.self.size;
  on = read_on g.M.Medium.world g.M.Medium.reaches g.M.Medium.takes g.M.MediumControl.arms g.M.MediumControl.armed_cut g.met.M.MediumControl.control_laws c.args.self.geometry (lists_of c.args.self.memory.lists)
      c.args.self.medium c.read_parts.new.medium c.args.self.memory.workspace.buffer c.args.request.lba c.args.request.n c.args.self.on c.requires.inside c.read_parts.new.buffer c.read_parts.new.into c.in-Ok.met c.in-Ok.ensures.rule;
  valid = c.args.self.valid;
  settled = read_settled g.M.Medium.world g.M.Medium.reaches g.M.Medium.takes g.M.MediumControl.arms g.M.MediumControl.armed_cut g.met.M.MediumControl.control_laws c.args.self.geometry (lists_of c.args.self.memory.lists)
      c.args.self.medium c.read_parts.new.medium c.args.self.memory.workspace.buffer c.args.request.lba c.args.request.n c.args.self.on c.requires.inside c.read_parts.new.buffer c.read_parts.new.into c.in-Ok.met c.in-Ok.ensures.rule c.args.self.settled;
  lawful_dds = c.args.self.lawful_dds;
  lawful_sdl = c.args.self.lawful_sdl;
  laid_out = c.args.self.laid_out;
}

pub returns-in-Ok-clause-cause : goal.returns-in-Ok-clause-cause
returns-in-Ok-clause-cause g c =
    read_cause g.M.Medium.world g.M.Medium.reaches g.M.Medium.takes g.M.MediumControl.arms g.M.MediumControl.armed_cut g.met.M.MediumControl.control_laws c.args.self.geometry (lists_of c.args.self.memory.lists)
    c.args.self.medium c.read_parts.new.medium c.args.self.memory.workspace.buffer c.args.request.lba c.args.request.n c.args.self.on c.requires.inside c.read_parts.new.buffer c.read_parts.new.into c.in-Ok.met c.in-Ok.ensures.rule c.ended_at-out.result c.ended_at-out.ensures

pub returns-in-Ok-clause-step : goal.returns-in-Ok-clause-step
returns-in-Ok-clause-step g c =
    read_steps g.M.Medium.world g.M.Medium.reaches g.M.Medium.takes g.M.MediumControl.arms g.M.MediumControl.armed_cut g.met.M.MediumControl.control_laws c.args.self.geometry (lists_of c.args.self.memory.lists)
    c.args.self.medium c.read_parts.new.medium c.args.self.memory.workspace.buffer c.args.request.lba c.args.request.n c.args.self.on c.requires.inside c.read_parts.new.buffer c.read_parts.new.into c.in-Ok.met c.in-Ok.ensures.rule c.ended_at-out.result c.ended_at-out.ensures

pub returns-in-Ok-clause-quiet : goal.returns-in-Ok-clause-quiet
returns-in-Ok-clause-quiet g c =
    read_quiet g.M.Medium.world g.M.Medium.reaches g.M.Medium.takes g.M.MediumControl.arms g.M.MediumControl.armed_cut g.met.M.MediumControl.control_laws c.args.self.geometry (lists_of c.args.self.memory.lists)
    c.args.self.medium c.read_parts.new.medium c.args.self.memory.workspace.buffer c.args.request.lba c.args.request.n c.args.self.on c.requires.inside c.read_parts.new.buffer c.read_parts.new.into c.in-Ok.met c.in-Ok.ensures.rule c.ended_at-out.result c.ended_at-out.ensures

pub returns-in-Ok-clause-happened : goal.returns-in-Ok-clause-happened
returns-in-Ok-clause-happened g c =
    read_happened g.M.Medium.world g.M.Medium.reaches g.M.Medium.takes g.met.M.Medium.happened c.args.self.medium c.read_parts.new.medium c.args.self.geometry (lists_of c.args.self.memory.lists) c.args.request.lba c.args.request.n c.args.self.memory.workspace.buffer c.read_parts.new.buffer c.read_parts.new.into c.in-Ok.met c.in-Ok.ensures.rule

pub returns-in-Err-clause-cause : goal.returns-in-Err-clause-cause
returns-in-Err-clause-cause g c =
    rw (c.stopped.ensures.state, c.stopped.ensures.out) (stopped_cause g.M.Medium.world g.M.Medium.reaches g.M.Medium.takes g.M.MediumControl.arms g.M.MediumControl.armed_cut g.met.M.MediumControl.control_laws c.args.self.geometry (lists_of c.args.self.memory.lists)
    c.args.self.medium c.read_parts.new.medium c.args.self.memory.workspace.buffer c.args.request.lba c.args.request.n c.args.self.on c.requires.inside c.in-Err.stop c.in-Err.ensures.rule)

pub returns-in-Err-clause-step : goal.returns-in-Err-clause-step
returns-in-Err-clause-step g c =
    rw (c.stopped.ensures.state, c.stopped.ensures.out) (stopped_steps g.M.Medium.world g.M.Medium.reaches g.M.Medium.takes g.M.MediumControl.arms g.M.MediumControl.armed_cut g.met.M.MediumControl.control_laws c.args.self.geometry (lists_of c.args.self.memory.lists)
    c.args.self.medium c.read_parts.new.medium c.args.self.memory.workspace.buffer c.args.request.lba c.args.request.n c.args.self.on c.requires.inside c.read_parts.new.into c.in-Err.stop c.in-Err.ensures.rule)

pub returns-in-Err-clause-quiet : goal.returns-in-Err-clause-quiet
returns-in-Err-clause-quiet g c =
    rw c.stopped.ensures.state (stopped_quiet g.M.Medium.world g.M.Medium.reaches g.M.Medium.takes g.M.MediumControl.arms g.M.MediumControl.armed_cut g.met.M.MediumControl.control_laws c.args.self.geometry (lists_of c.args.self.memory.lists)
    c.args.self.medium c.read_parts.new.medium c.args.self.memory.workspace.buffer c.args.request.lba c.args.request.n c.args.self.on c.requires.inside c.in-Err.stop c.in-Err.ensures.rule c.stopped.result.1)

pub returns-in-Err-clause-happened : goal.returns-in-Err-clause-happened
returns-in-Err-clause-happened g c =
    subst (Happened g.M.Medium.takes c.args.self.medium) (sym c.stopped.ensures.medium)
    (stop_happened g.M.Medium.world g.M.Medium.reaches g.M.Medium.takes g.met.M.Medium.happened c.args.self.medium c.read_parts.new.medium _ c.in-Err.stop c.args.self.on c.in-Err.ensures.rule.stops)
