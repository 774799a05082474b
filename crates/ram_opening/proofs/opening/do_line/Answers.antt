use Rattle.ram_machine.specs.States.{Disc}
use Rattle.ram_machine.specs.Inserted.{Stands}
use Rattle.ram_opening.proofs.OpeningLines.{line_done}
use Rattle.ram_opening.proofs.opening.do_line.Goals as goal

pub returns-in-Ok-clause-rule : goal.returns-in-Ok-clause-rule
returns-in-Ok-clause-rule g c = λ s stands.
    line_done s c.args.payload.now _ (Stands g.D.Caching g.D.Drive.lies_in g.D.Image.Image c.answer.new.self) c.args.line c.in-Ok.reply c.requires.opens
    (c.in-Ok.ensures.step (Disc s) stands)
