use Rattle.ram_volume.specs.Drives.{shown_by}
use Rattle.ram_machine.proofs.Volumes.{cached_syncs, cached_synced}
use Rattle.ram_machine.proofs.volume.CachedVolumeImageMediumDrive.sync.Goals as goal

pub returns-clause-rule : goal.returns-clause-rule
returns-clause-rule g c = cached_synced (shown_by c.args.self.now.disc) (shown_by c.sync.new.self) _ _ c.sync.result c.sync.ensures.rule

pub returns-clause-stands : goal.returns-clause-stands
returns-clause-stands g c = λ s stands. cached_syncs (shown_by c.args.self.now.disc) (shown_by c.sync.new.self) _ s c.sync.result c.sync.ensures.stands stands
