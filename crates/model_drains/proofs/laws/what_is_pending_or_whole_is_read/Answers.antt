use Rattle.model_drains.proofs.Reading.{read_good}
use Rattle.model_drains.proofs.laws.what_is_pending_or_whole_is_read.Goals as goal

pub returns : goal.returns
returns c old new lba n out inside none can cause = read_good old new lba n inside none can out cause
