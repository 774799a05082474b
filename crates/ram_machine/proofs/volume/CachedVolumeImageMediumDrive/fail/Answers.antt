use Rattle.ram_volume.specs.Drives.{shown_by}
use Rattle.ram_machine.proofs.Volumes.{cached_fails}
use Rattle.ram_machine.proofs.volume.CachedVolumeImageMediumDrive.fail.Goals as goal

pub returns-clause-stands : goal.returns-clause-stands
returns-clause-stands g c = λ s stands. cached_fails (shown_by c.args.self.now.disc) (shown_by c.fail.new.self) _ s c.fail.result c.fail.ensures.stands stands
