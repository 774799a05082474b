use Rattle.ram_volume.specs.Drives.{shown_by, medium_by}
use Rattle.ram_side.proofs.Opens.{opens_side}
use Rattle.ram_side.proofs.volume.WatchedVolumeImageMediumSide.open.Goals as goal

pub returns-in-Ok : goal.returns-in-Ok
returns-in-Ok g c = let disc = c.new-disc.result in opens_side c.args.image c.in-Ok.medium c.args.rooms.kind c.in-Ok.geometry c.in-Ok.ensures (shown_by disc) c.new-disc.ensures.shown (medium_by disc) c.new-disc.ensures.medium
