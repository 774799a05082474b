use Rattle.std.specs.Prelude.{[]}
use Rattle.ram_text.specs.declared.script.Line.TheVariants as lines
use Rattle.ram_machine.specs.Inserted.{Stands}
use Rattle.ram_session.specs.Opening.{without_data}
use Rattle.ram_opening.specs.Exports.{told_export}
use Rattle.ram_opening.specs.Opens.{IsNothingYet, IsServedSo}
use Rattle.ram_opening.proofs.OpeningLines.{power_kept}
use Rattle.ram_opening.proofs.Openings.{served_first, line_more, line_ended}
use Rattle.ram_opening.proofs.opening.turn_on.Goals as goal

pub returns-in-Ok-clause-rule : goal.returns-in-Ok-clause-rule
returns-in-Ok-clause-rule g c = λ first faults rest far.
    line_more first faults (Stands g.D.Caching g.D.Drive.lies_in g.D.Image.Image c.args.inserted.now) (Stands g.D.Caching g.D.Drive.lies_in g.D.Image.Image c.do_line.new.inserted)
    IsNothingYet (without_data lines.Power) rest far (IsServedSo (told_export c.served_after.result)) c.in-Ok.reply
    (λ t u data_in step. power_kept t u [] data_in c.in-Ok.reply step)
    (λ step steps same none. served_first (told_export c.served_after.result) c.in-Ok.reply step steps c.served_after.ensures.told same none) c.in-Ok.ensures.rule

pub returns-in-Err-clause-rule : goal.returns-in-Err-clause-rule
returns-in-Err-clause-rule g c = λ first faults rest far.
    line_ended first faults (Stands g.D.Caching g.D.Drive.lies_in g.D.Image.Image c.args.inserted.now) (Stands g.D.Caching g.D.Drive.lies_in g.D.Image.Image c.do_line.new.inserted)
    IsNothingYet (without_data lines.Power) rest far told_export rest c.in-Err.status c.in-Err.ensures.rule
