use Rattle.ram_volume.specs.Drives.{shown_by}
use Rattle.ram_side.proofs.Failing.{after_fail}
use Rattle.ram_side.proofs.volume.WatchedVolumeImageMediumSide.fail.Goals as goal

pub returns-in-Failed-clause-stands : goal.returns-in-Failed-clause-stands
returns-in-Failed-clause-stands g c = λ s stands. after_fail (shown_by c.fail-end.new.self) s c.fail-end.result (c.fail-end.ensures.stands s stands)
