use Rattle.ram_audit.proofs.NoDisc.{no_disc_by_length}
use Rattle.ram_audit.proofs.discs.audit_disc.Goals as goal

pub returns-in-Length : goal.returns-in-Length
returns-in-Length g c =
    let refused = rw c.in-Length.is at c.in-Err.ensures in
    (refused.0, no_disc_by_length c.in-Length.len (g.I.Image.bytes c.args.image) refused.1)
