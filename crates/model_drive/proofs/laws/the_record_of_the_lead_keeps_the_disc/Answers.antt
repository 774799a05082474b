use Rattle.model_drive.proofs.RecordSteps.{lead_step, generation_step}
use Rattle.model_drive.proofs.laws.the_record_of_the_lead_keeps_the_disc.Goals as goal

pub returns-clause-reads : goal.returns-clause-reads
returns-clause-reads c = generation_step

pub returns-clause-writes : goal.returns-clause-writes
returns-clause-writes c = lead_step
