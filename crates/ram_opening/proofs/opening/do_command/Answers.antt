use Rattle.ram_text.specs.declared.script.Line.TheVariants as lines
use Rattle.ram_machine.specs.Inserted.{Stands}
use Rattle.ram_opening.specs.Opens.{IsServedSo}
use Rattle.ram_opening.proofs.OpeningLines.{command_kept}
use Rattle.ram_opening.proofs.Openings.{next_more, line_ended}
use Rattle.ram_opening.proofs.opening.do_command.Goals as goal

pub returns-in-Ok-clause-rule : goal.returns-in-Ok-clause-rule
returns-in-Ok-clause-rule g c = λ first faults export rest far.
    next_more first faults (Stands g.D.Caching g.D.Drive.lies_in g.D.Image.Image c.args.inserted.now) (Stands g.D.Caching g.D.Drive.lies_in g.D.Image.Image c.do_line.new.inserted)
    export (record { line = lines.Command c.args.cdb; payload = c.args.payload.now }) rest far c.in-Ok.field-0
    (λ t u data_in step. command_kept t u c.args.cdb c.args.payload.now data_in c.in-Ok.field-0 step) c.in-Ok.ensures.rule

pub returns-in-Err-clause-rule : goal.returns-in-Err-clause-rule
returns-in-Err-clause-rule g c = λ first faults export rest far.
    line_ended first faults (Stands g.D.Caching g.D.Drive.lies_in g.D.Image.Image c.args.inserted.now) (Stands g.D.Caching g.D.Drive.lies_in g.D.Image.Image c.do_line.new.inserted)
    (IsServedSo export) (record { line = lines.Command c.args.cdb; payload = c.args.payload.now }) rest far (λ (done : Unit {0}). export) rest c.in-Err.status c.in-Err.ensures.rule
