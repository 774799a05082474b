use Rattle.ram_volume.specs.Drives.{shown_by}
use Rattle.ram_machine.proofs.Volumes.{cached_stays}
use Rattle.ram_machine.proofs.volume.CachedVolumeImageMediumDrive.wear.Goals as goal

pub returns-clause-stands : goal.returns-clause-stands
returns-clause-stands g c = λ s stands. cached_stays (shown_by c.args.self.now.disc) (shown_by c.wear.new.self) _ s c.wear.ensures.stands stands
