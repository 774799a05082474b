use Rattle.model_drains.proofs.Living.{tries_living, stopped_living}
use Rattle.model_drains.proofs.laws.a_drain_leaves_blocks_living.Goals as goal

pub returns-clause-done : goal.returns-clause-done
returns-clause-done c due enough short old new first i sound known tries lives =
    (tries_living due enough short old new first i tries (record { sound = sound; known = known; lives = lives })).lives

pub returns-clause-stopped : goal.returns-clause-stopped
returns-clause-stopped c old new due enough out i sound known stops away lives =
    stopped_living old new due enough out i stops away (record { sound = sound; known = known; lives = lives })
