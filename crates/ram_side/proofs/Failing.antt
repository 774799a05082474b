-- What a block that was made dead leaves of a side.
use Rattle.model_sectors.specs.Discs.{Standing}
use Rattle.model_drive.specs.Shown.{Shown, StandsFor}
use Rattle.ram_medium.specs.declared.control.FailEnd.{FailEnd}
use Rattle.ram_medium.specs.declared.control.FailEnd.TheVariants as fails
use Rattle.ram_states.specs.Control.{FailStands}
use Rattle.ram_side.specs.Side.{standing_after_fail}

-- what it stands for
pub after_fail : (new : Shown) (s : Standing) (end : FailEnd) → FailStands new s end → StandsFor new (standing_after_fail s end)
after_fail new s fails.Done stands = stands
after_fail new s (fails.NoBlock blocks) stands = stands
after_fail new s fails.Failed stands = stands
