use Rattle.ram_machine.proofs.Alone.{first_alone, pressed_alone, step_alone, run_alone, powered_alone, first_plainly, is_plainly, step_plainly, run_plainly}
use Rattle.ram_machine.proofs.laws.without_the_cache_a_run_is_that_of_the_disc.Goals as goal

pub returns-clause-begins : goal.returns-clause-begins
returns-clause-begins c = first_alone

pub returns-clause-pressed : goal.returns-clause-pressed
returns-clause-pressed c = pressed_alone

pub returns-clause-step : goal.returns-clause-step
returns-clause-step c = step_alone

pub returns-clause-run : goal.returns-clause-run
returns-clause-run c = run_alone

pub returns-clause-plain_first : goal.returns-clause-plain_first
returns-clause-plain_first c = first_plainly

pub returns-clause-plain_step : goal.returns-clause-plain_step
returns-clause-plain_step c = step_plainly

pub returns-clause-plain_run : goal.returns-clause-plain_run
returns-clause-plain_run c = run_plainly

pub returns-clause-powered : goal.returns-clause-powered
returns-clause-powered c = powered_alone

pub returns-clause-plain : goal.returns-clause-plain
returns-clause-plain c = is_plainly
