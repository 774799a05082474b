use Rattle.std.proofs.Common.{ap, ◌∙◌}
use Rattle.ram_volume.specs.Drives.{shown_by, medium_by}
use Rattle.ram_cache.specs.Rooms.{pending_of}
use Rattle.ram_machine.proofs.Opens.{opens}
use Rattle.ram_machine.proofs.Volumes.{fresh_cache}
use Rattle.ram_machine.proofs.volume.CachedVolumeImageMediumDrive.open.Goals as goal

pub returns-in-Ok : goal.returns-in-Ok
returns-in-Ok g c =
    let cached = c.new.result in
    opens c.args.image c.in-Ok.medium c.args.rooms.kind c.in-Ok.geometry c.in-Ok.ensures (shown_by c.new-volume.result) c.new-volume.ensures.shown
    _ (fresh_cache (shown_by cached.disc) (shown_by c.new-volume.result) (pending_of cached.pending) cached.on (ap (λ v. shown_by v) c.new.ensures.disc) c.new.ensures.pending c.new.ensures.off)
    (medium_by cached.disc) (ap (λ v. medium_by v) c.new.ensures.disc ∙ c.new-volume.ensures.medium)
