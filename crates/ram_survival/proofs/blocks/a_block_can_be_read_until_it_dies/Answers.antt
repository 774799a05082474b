use Rattle.ram_survival.proofs.LivingRuns.{safe_lives, step_lives, run_lives, image_lives, read_dies}
use Rattle.ram_survival.proofs.blocks.a_block_can_be_read_until_it_dies.Goals as goal

pub returns-clause-begins : goal.returns-clause-begins
returns-clause-begins c = λ s i safe. safe_lives i s safe

pub returns-clause-step : goal.returns-clause-step
returns-clause-step c = λ s t line payload data_in outcome i step leaves lives. step_lives i s t line payload data_in outcome step leaves lives

pub returns-clause-run : goal.returns-clause-run
returns-clause-run c = λ s t events i lives run leave. run_lives i s t events run leave lives

pub returns-clause-image : goal.returns-clause-image
returns-clause-image c = λ s t bytes i lives left first kind. image_lives i s t bytes lives left first kind

pub returns-clause-read : goal.returns-clause-read
returns-clause-read c = read_dies
