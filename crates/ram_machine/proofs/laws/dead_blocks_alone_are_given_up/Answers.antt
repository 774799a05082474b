use Rattle.ram_machine.proofs.FairRuns.{step_fair, run_fair, pressed_fair, image_fair}
use Rattle.ram_machine.proofs.laws.dead_blocks_alone_are_given_up.Goals as goal

pub returns-clause-step : goal.returns-clause-step
returns-clause-step c = step_fair

pub returns-clause-run : goal.returns-clause-run
returns-clause-run c = run_fair

pub returns-clause-pressed : goal.returns-clause-pressed
returns-clause-pressed c = pressed_fair

pub returns-clause-image : goal.returns-clause-image
returns-clause-image c = image_fair
