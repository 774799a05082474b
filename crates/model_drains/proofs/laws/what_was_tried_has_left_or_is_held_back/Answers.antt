use Rattle.std.proofs.Common.{arith, length}
use Rattle.model_drains.proofs.Stuck.{all_left_or_held}
use Rattle.model_drains.proofs.Settled.{left_settled}
use Rattle.model_drains.proofs.Synchronised.{synchronised}
use Rattle.model_drains.proofs.Ticking.{ticked}
use Rattle.model_drains.proofs.laws.what_was_tried_has_left_or_is_held_back.Goals as goal

pub returns-clause-drained : goal.returns-clause-drained
returns-clause-drained c due short old new first i sound known tries has = all_left_or_held due (length due) short old new first (omega arith) sound known tries i has

pub returns-clause-synchronised : goal.returns-clause-synchronised
returns-clause-synchronised c old new out i sound known on formatted due cut fault cause = synchronised old new sound known i due out on formatted cut fault cause

pub returns-clause-ticked : goal.returns-clause-ticked
returns-clause-ticked c old new i sound known made due = ticked old new i sound known made due

pub returns-clause-bytes : goal.returns-clause-bytes
returns-clause-bytes c new values i stands left = left_settled new values i stands left
