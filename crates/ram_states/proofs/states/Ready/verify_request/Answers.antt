use Rattle.std.proofs.Common.{sym, ◌∙◌, subst}
use Rattle.model_medium.specs.Happened.{Happened}
use Rattle.ram_lists.specs.Lists.{lists_of}
use Rattle.ram_states.proofs.VerifyShown.{verified_cause, verified_on, verified_settled, verify_stopped}
use Rattle.ram_medium.proofs.Parts.{stop_happened}
use Rattle.ram_transfer.proofs.Happening.{verify_happened}
use Rattle.ram_states.proofs.states.Ready.verify_request.Goals as goal

pub invariant_of-ready : goal.invariant_of-ready
invariant_of-ready g c = record {
  size = c.read_homes.ensures.as_many ∙ c.args.self.size;
  on = verified_on g.M.Medium.world g.M.Medium.reaches g.M.Medium.takes g.M.MediumControl.arms g.M.MediumControl.armed_cut g.met.M.MediumControl.control_laws c.args.self.geometry (lists_of c.args.self.memory.lists) c.args.self.memory.workspace.buffer
      c.args.self.medium c.read_homes.new.medium c.args.request.lba c.args.request.n c.args.self.on c.requires.inside c.in-Ok.met c.in-Ok.ensures.rule;
  valid = c.args.self.valid;
  settled = verified_settled g.M.Medium.world g.M.Medium.reaches g.M.Medium.takes g.M.MediumControl.arms g.M.MediumControl.armed_cut g.met.M.MediumControl.control_laws c.args.self.geometry (lists_of c.args.self.memory.lists) c.args.self.memory.workspace.buffer
      c.args.self.medium c.read_homes.new.medium c.args.request.lba c.args.request.n c.args.self.on c.requires.inside c.in-Ok.met c.in-Ok.ensures.rule c.args.self.settled;
  lawful_dds = c.args.self.lawful_dds;
  lawful_sdl = c.args.self.lawful_sdl;
  laid_out = c.args.self.laid_out;
}

pub returns-in-Ok-clause-cause : goal.returns-in-Ok-clause-cause
returns-in-Ok-clause-cause g c =
    verified_cause g.M.Medium.world g.M.Medium.reaches g.M.Medium.takes g.M.MediumControl.arms g.M.MediumControl.armed_cut g.met.M.MediumControl.control_laws c.args.self.geometry (lists_of c.args.self.memory.lists) c.args.self.memory.workspace.buffer
    c.args.self.medium c.read_homes.new.medium c.args.request.lba c.args.request.n c.args.self.on c.requires.inside c.in-Ok.met c.in-Ok.ensures.rule c.ended_at-out.result c.ended_at-out.ensures

pub returns-in-Ok-clause-happened : goal.returns-in-Ok-clause-happened
returns-in-Ok-clause-happened g c =
    verify_happened g.M.Medium.world g.M.Medium.reaches g.M.Medium.takes g.met.M.Medium.happened c.args.self.medium c.read_homes.new.medium c.args.self.geometry (lists_of c.args.self.memory.lists) c.args.request.lba c.args.request.n c.in-Ok.met c.in-Ok.ensures.rule

pub returns-in-Err-clause-cause : goal.returns-in-Err-clause-cause
returns-in-Err-clause-cause g c =
    rw (c.stopped.ensures.state, c.stopped.ensures.out) (verify_stopped g.M.Medium.world g.M.Medium.reaches g.M.Medium.takes g.M.MediumControl.arms g.M.MediumControl.armed_cut g.met.M.MediumControl.control_laws c.args.self.geometry (lists_of c.args.self.memory.lists) c.args.self.memory.workspace.buffer
    c.args.self.medium c.read_homes.new.medium c.args.request.lba c.args.request.n c.args.self.on c.requires.inside c.in-Err.stop c.in-Err.ensures.rule)

pub returns-in-Err-clause-happened : goal.returns-in-Err-clause-happened
returns-in-Err-clause-happened g c =
    subst (Happened g.M.Medium.takes c.args.self.medium) (sym c.stopped.ensures.medium)
    (stop_happened g.M.Medium.world g.M.Medium.reaches g.M.Medium.takes g.met.M.Medium.happened c.args.self.medium c.read_homes.new.medium _ c.in-Err.stop c.args.self.on c.in-Err.ensures.rule.stops)
