-- By the lemmas on readings.
use Rattle.model_nbd.proofs.Readings.{wish_first, request_first, reply_first}
use Rattle.model_nbd.proofs.laws.messages_have_one_reading.Goals as goal

pub returns-clause-options : goal.returns-clause-options
returns-clause-options c = wish_first

pub returns-clause-requests : goal.returns-clause-requests
returns-clause-requests c = request_first

pub returns-clause-replies : goal.returns-clause-replies
returns-clause-replies c = reply_first
