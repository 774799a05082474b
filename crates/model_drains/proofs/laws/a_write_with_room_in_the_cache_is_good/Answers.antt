use Rattle.model_drains.proofs.Room.{into_good}
use Rattle.model_drains.proofs.laws.a_write_with_room_in_the_cache_is_good.Goals as goal

pub returns : goal.returns
returns c old new lba n bytes out inside room whole cause = into_good lba n whole old new bytes out room inside cause
