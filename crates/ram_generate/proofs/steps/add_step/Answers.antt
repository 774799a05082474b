use Rattle.std.proofs.Common.{arith, refl}
use Rattle.ram_generate.specs.Script.{write_step, read_step, power_step}
use Rattle.ram_generate.proofs.Growing.{step_write, step_read, step_power, grown_by}
use Rattle.ram_generate.proofs.steps.add_step.Goals as goal

pub returns-in-0-to-44-clause-step : goal.returns-in-0-to-44-clause-step
returns-in-0-to-44-clause-step c =
    grown_by c.args.script.now.items c.add_write.new.script.items c.args.words.now c.draw.new.words c.add_write.new.words c.draw.result (write_step c.draw.new.words) (step_write c.draw.result c.draw.new.words (omega (arith, c.in-0-to-44))) c.draw.ensures.value c.draw.ensures.after c.add_write.ensures.step

pub returns-in-45-to-94-clause-step : goal.returns-in-45-to-94-clause-step
returns-in-45-to-94-clause-step c =
    grown_by c.args.script.now.items c.add_read.new.script.items c.args.words.now c.draw.new.words c.add_read.new.words c.draw.result (read_step c.draw.new.words) (step_read c.draw.result c.draw.new.words (omega (arith, c.in-45-to-94)) (omega (arith, c.in-45-to-94))) c.draw.ensures.value c.draw.ensures.after c.add_read.ensures.step

pub returns-in-98-to-4294967295-clause-step : goal.returns-in-98-to-4294967295-clause-step
returns-in-98-to-4294967295-clause-step c =
    grown_by c.args.script.now.items c.add.new.text.items c.args.words.now c.draw.new.words c.draw.new.words c.draw.result (power_step c.draw.new.words) (step_power c.draw.result c.draw.new.words (omega (arith, c.in-98-to-4294967295))) c.draw.ensures.value c.draw.ensures.after (c.add.ensures.items, refl)
