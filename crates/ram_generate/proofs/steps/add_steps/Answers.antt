use Rattle.std.proofs.Common.{◌++◌, arith}
use Rattle.ram_generate.specs.Script.{steps_text}
use Rattle.ram_generate.proofs.Growing.{to_come, grown, whole_script}
use Rattle.ram_generate.proofs.steps.add_steps.Goals as goal

pub loop-init : goal.loop-init
loop-init c = record {
  so_far = to_come c.args.script.now.items c.args.count c.args.words.now;
  room = omega (arith, c.requires.room);
  kept = omega arith;
}

pub loop-preserved : goal.loop-preserved
loop-preserved c = record {
  so_far =
      rw (c.add_step.ensures.step.0, c.add_step.ensures.step.1)
      (grown c.loop.script.items (c.args.script.now.items ++ steps_text c.args.count c.args.words.now) c.args.count c.loop.counter c.loop.words c.loop-test.true c.loop.invariant.so_far);
  room = omega (arith, c.add_step.ensures.len, c.add_step.ensures.room, c.loop.invariant.room, c.loop-test.true);
  kept = omega (arith, c.add_step.ensures.room, c.loop.invariant.kept);
}

pub returns-clause-text : goal.returns-clause-text
returns-clause-text c =
    whole_script c.loop.script.items (c.args.script.now.items ++ steps_text c.args.count c.args.words.now) c.args.count c.loop.counter c.loop.words (omega (arith, c.loop-test.false)) c.loop.invariant.so_far
