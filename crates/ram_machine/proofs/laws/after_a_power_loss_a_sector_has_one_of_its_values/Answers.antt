use Rattle.ram_machine.proofs.FallenBack.{begins_back, step_back, run_back, found_back}
use Rattle.ram_machine.proofs.laws.after_a_power_loss_a_sector_has_one_of_its_values.Goals as goal

pub returns-clause-begins : goal.returns-clause-begins
returns-clause-begins c = begins_back

pub returns-clause-step : goal.returns-clause-step
returns-clause-step c = step_back

pub returns-clause-run : goal.returns-clause-run
returns-clause-run c = run_back

pub returns-clause-found : goal.returns-clause-found
returns-clause-found c = found_back
