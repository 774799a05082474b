use Rattle.ram_machine.specs.States.{Disc}
use Rattle.ram_machine.specs.Inserted.{Stands}
use Rattle.ram_transmission.proofs.Replies.{synced_failed}
use Rattle.ram_transmission.proofs.requests.make_lasting.Goals as goal

pub returns-in-Failed-clause-rule : goal.returns-in-Failed-clause-rule
returns-in-Failed-clause-rule g c = λ s stands. (
  c.in-Good-true.is-1,
  c.in-Good-true.is-0,
  synced_failed s (Stands g.D.Caching g.D.Drive.lies_in g.D.Image.Image c.sync.new.self) (c.in-Failed.ensures.step (Disc s) stands),
)
