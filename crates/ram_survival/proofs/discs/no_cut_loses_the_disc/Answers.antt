use Rattle.ram_survival.proofs.LastingRuns.{ready_at_the_end, capacity_at_the_end, ready_again, capacity_again}
use Rattle.ram_survival.proofs.discs.no_cut_loses_the_disc.Goals as goal

pub returns-clause-ready : goal.returns-clause-ready
returns-clause-ready c = ready_at_the_end

pub returns-clause-capacity : goal.returns-clause-capacity
returns-clause-capacity c = capacity_at_the_end

pub returns-clause-ready_again : goal.returns-clause-ready_again
returns-clause-ready_again c = ready_again

pub returns-clause-capacity_again : goal.returns-clause-capacity_again
returns-clause-capacity_again c = λ s t u v w shape earlier later last event image version sizes known has lasts run keeps left first kind run' keeps' step is two told.
    capacity_again s t u v w shape earlier later last event image version sizes has lasts run keeps left first kind run' keeps' step is two known told
