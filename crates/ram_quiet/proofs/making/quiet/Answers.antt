use Rattle.std.proofs.Common.{arith, ◌∙◌}
use Rattle.ram_lists.specs.Lists.{lists_of}
use Rattle.ram_quiet.proofs.Keeping.{alone_on, step_gives, mount_gives, tells_alone, one_more}
use Rattle.ram_quiet.proofs.making.quiet.Goals as goal

pub loop-k-preserved : goal.loop-k-preserved
loop-k-preserved g c = record {
  leads = one_more g.M.Medium.world g.M.Medium.reaches g.M.Medium.takes c.args.geometry.now g.M.MediumControl.arms g.M.MediumControl.armed_cut c.args.steps.now c.loop-k.k c.args.medium.now c.args.room.now
      c.loop-k.medium c.loop-k.room c.take_step.new.medium c.take_step.new.room c.loop-k.invariant.leads c.take_step.ensures.rule;
  alone = alone_on c.args.geometry.now (g.M.Medium.world c.loop-k.medium).cells (g.M.Medium.world c.take_step.new.medium).cells (lists_of c.args.lists.now)
      (step_gives g.M.Medium.world g.M.Medium.reaches g.M.Medium.takes c.args.geometry.now g.M.MediumControl.arms g.M.MediumControl.armed_cut c.loop-k.medium c.take_step.new.medium c.loop-k.room c.take_step.new.room _
      (c.requires.lawful c.loop-k.k (let inside = c.loop-k-test.true in let end = c.loop-k.auto.k-end in omega (arith, inside, end))) c.take_step.ensures.rule) c.loop-k.invariant.alone;
  as_many = c.take_step.ensures.as_many ∙ c.loop-k.invariant.as_many;
}

pub returns-clause-alone : goal.returns-clause-alone
returns-clause-alone g c = alone_on c.args.geometry.now (g.M.Medium.world c.loop-k.medium).cells (g.M.Medium.world c.mount_again.new.medium).cells (lists_of c.args.lists.now)
    (mount_gives g.M.Medium.world g.M.Medium.reaches g.M.Medium.takes c.args.geometry.now c.loop-k.medium c.mount_again.new.medium (lists_of c.mount_again.new.found) c.mount_again.result c.mount_again.ensures.rule) c.loop-k.invariant.alone

pub returns-clause-answer : goal.returns-clause-answer
returns-clause-answer g c = tells_alone g.M.Medium.world g.M.Medium.reaches g.M.Medium.takes c.args.geometry.now c.loop-k.medium c.mount_again.new.medium (lists_of c.args.lists.now) (lists_of c.mount_again.new.found) c.mount_again.result
    c.loop-k.invariant.alone c.mount_again.ensures.rule
