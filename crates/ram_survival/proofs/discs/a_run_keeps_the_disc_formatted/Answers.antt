use Rattle.ram_survival.proofs.LastingRuns.{now_begins, opened_lasts, step_lasts, run_lasts, image_lasts, power_lasts}
use Rattle.ram_survival.proofs.discs.a_run_keeps_the_disc_formatted.Goals as goal

pub returns-clause-begins : goal.returns-clause-begins
returns-clause-begins c = now_begins

pub returns-clause-opened : goal.returns-clause-opened
returns-clause-opened c = opened_lasts

pub returns-clause-step : goal.returns-clause-step
returns-clause-step c = λ s t shape line payload data_in outcome version sizes has step keeps two lasts.
    step_lasts shape s t line payload data_in outcome version sizes has step keeps two lasts

pub returns-clause-run : goal.returns-clause-run
returns-clause-run c = λ s t shape events version sizes has run keeps two lasts. run_lasts shape s t events version sizes has run keeps two lasts

pub returns-clause-image : goal.returns-clause-image
returns-clause-image c = image_lasts

pub returns-clause-power : goal.returns-clause-power
returns-clause-power c = power_lasts
