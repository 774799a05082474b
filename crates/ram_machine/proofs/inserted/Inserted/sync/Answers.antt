use Rattle.std.proofs.Common.{refl}
use Rattle.ram_machine.proofs.Syncing.{inserted_synced}
use Rattle.ram_machine.proofs.inserted.Inserted.sync.Goals as goal

pub returns-in-Disc-clause-step : goal.returns-in-Disc-clause-step
returns-in-Disc-clause-step g c = λ s stands.
    inserted_synced g.D.Caching g.D.Drive.lies_in g.D.Image.Image g.met.D.Caching.laws g.met.D.Drive.drive_laws c.in-Disc.target
    (record { disc = c.sync.new.self; host = c.in-Disc.target.host; block = c.in-Disc.target.block }) c.in-Disc.field-2 refl c.sync.ensures.bytes s c.in-Disc.field-1 c.sync.result
    c.sync.ensures.rule c.sync.ensures.stands (rw c.in-Disc.is at stands)
