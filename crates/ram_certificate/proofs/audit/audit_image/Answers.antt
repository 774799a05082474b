use Rattle.ram_certificate.proofs.Answering.{counts_there}
use Rattle.ram_certificate.proofs.audit.audit_image.Goals as goal

pub returns-in-Image-clause-causes : goal.returns-in-Image-clause-causes
returns-in-Image-clause-causes g c heard =
    rw (c.close.ensures.count, c.in-Image.ensures.count)
    (counts_there heard.faults heard.faults (g.K.Sink.faults c.args.report.now) (g.K.Sink.faults c.audit_here-image.new.report) (g.O.Opener.faults c.args.opener.now) (g.O.Image.Image.faults c.audit_here-image.result.0) c.audit_here-image.result.1
    (rw c.in-Image.ensures.unfailed at (c.audit_here-image.ensures.counts heard.faults)))
