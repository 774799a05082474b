use Rattle.ram_run.proofs.Sessions.{session_longer, mirror_longer}
use Rattle.ram_run.proofs.form.longer_form_of.Goals as goal

pub returns-in-Some : goal.returns-in-Some
returns-in-Some c = session_longer _ c.in-Some.form (rw c.in-Some.is at c.session_of.ensures)

pub returns-in-None : goal.returns-in-None
returns-in-None c = mirror_longer _ c.mirror_of.result (rw c.in-None.is at c.session_of.ensures) c.mirror_of.ensures
