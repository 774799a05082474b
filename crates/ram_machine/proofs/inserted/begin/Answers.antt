use Rattle.ram_machine.proofs.Opens.{first_opened, first_unopened}
use Rattle.ram_machine.proofs.inserted.begin.Goals as goal

pub returns-in-Ok : goal.returns-in-Ok
returns-in-Ok g c = (first_opened g.D.Caching g.D.Drive.lies_in g.D.Image.Image c.args.rooms.drive.kind c.args.image c.in-Ok.target c.in-Ok.ensures.0.host_is c.in-Ok.ensures.0.opens.opened c.in-Ok.ensures.0.opens.same_bytes c.in-Ok.scrub c.in-Ok.ensures.1, c.in-Ok.ensures.0.opens.count)

pub returns-in-Header : goal.returns-in-Header
returns-in-Header g c = first_unopened g.D.Caching g.D.Drive.lies_in g.D.Image.Image c.args.rooms.drive.kind c.args.image c.in-Err.field-0.image c.in-Err.field-0.rooms c.in-Err.ensures.0 (g.D.Image.Image.faults c.args.image) (g.D.Image.Image.faults c.in-Err.field-0.image) c.in-Err.field-0.fault c.in-Err.ensures.1 c.in-Header.is
