use Rattle.ram_volume.specs.Drives.{shown_by}
use Rattle.ram_machine.proofs.Volumes.{cached_stays}
use Rattle.ram_machine.proofs.volume.CachedVolumeImageMediumDrive.arm_cut.Goals as goal

pub returns-clause-stands : goal.returns-clause-stands
returns-clause-stands g c = λ s stands. cached_stays (shown_by c.args.self.now.disc) (shown_by c.arm_cut.new.self) _ s c.arm_cut.ensures.stands stands
