use Rattle.std.proofs.Common.{Bool, Ok, Err, [], MatchBool, subst}
use Rattle.ram_text.specs.declared.script.Line.{Line}
use Rattle.ram_machine.specs.States.{Served, Disc}
use Rattle.ram_machine.specs.Inserted.{Stands}
use Rattle.ram_session.specs.Opening.{without_data, RefusesFault}
use Rattle.ram_opening.specs.Opens.{OpeningLineRule, IsServedSo}
use Rattle.ram_opening.proofs.Openings.{next_more, line_refused, line_ended}
use Rattle.ram_opening.proofs.opening.make_fault.Goals as goal

pub returns-then-refuses_fault-clause-rule : goal.returns-then-refuses_fault-clause-rule
returns-then-refuses_fault-clause-rule g c = λ first faults export fault rest is far.
    line_refused first faults (Stands g.D.Caching g.D.Drive.lies_in g.D.Image.Image c.args.inserted.now) (Stands g.D.Caching g.D.Drive.lies_in g.D.Image.Image c.do_line.new.inserted)
    (IsServedSo export) (without_data fault) rest far c.in-Ok.reply
    (subst (λ (b : Bool). MatchBool b (RefusesFault c.in-Ok.reply) (¬ RefusesFault c.in-Ok.reply)) c.if-refuses_fault.true c.refuses_fault.ensures)
    (subst (λ (line : Line). (s : Served) → Stands g.D.Caching g.D.Drive.lies_in g.D.Image.Image c.args.inserted.now (Disc s)
    → OpeningLineRule (Stands g.D.Caching g.D.Drive.lies_in g.D.Image.Image c.do_line.new.inserted) s (record { line = line; payload = [] }) (Ok c.in-Ok.reply)) (c.line_of.ensures.only fault is)
    c.in-Ok.ensures.rule)

pub returns-else-refuses_fault-clause-rule : goal.returns-else-refuses_fault-clause-rule
returns-else-refuses_fault-clause-rule g c = λ first faults export fault rest is far.
    next_more first faults (Stands g.D.Caching g.D.Drive.lies_in g.D.Image.Image c.args.inserted.now) (Stands g.D.Caching g.D.Drive.lies_in g.D.Image.Image c.do_line.new.inserted)
    export (without_data fault) rest far c.in-Ok.reply
    (λ t u data_in step. subst (λ (b : Bool). MatchBool b (RefusesFault c.in-Ok.reply) (¬ RefusesFault c.in-Ok.reply)) c.if-refuses_fault.false c.refuses_fault.ensures)
    (subst (λ (line : Line). (s : Served) → Stands g.D.Caching g.D.Drive.lies_in g.D.Image.Image c.args.inserted.now (Disc s)
    → OpeningLineRule (Stands g.D.Caching g.D.Drive.lies_in g.D.Image.Image c.do_line.new.inserted) s (record { line = line; payload = [] }) (Ok c.in-Ok.reply)) (c.line_of.ensures.only fault is)
    c.in-Ok.ensures.rule)

pub returns-in-Err-clause-rule : goal.returns-in-Err-clause-rule
returns-in-Err-clause-rule g c = λ first faults export fault rest is far.
    line_ended first faults (Stands g.D.Caching g.D.Drive.lies_in g.D.Image.Image c.args.inserted.now) (Stands g.D.Caching g.D.Drive.lies_in g.D.Image.Image c.do_line.new.inserted)
    (IsServedSo export) (without_data fault) rest far (λ (done : Unit {0}). export) rest c.in-Err.status
    (subst (λ (line : Line). (s : Served) → Stands g.D.Caching g.D.Drive.lies_in g.D.Image.Image c.args.inserted.now (Disc s)
    → OpeningLineRule (Stands g.D.Caching g.D.Drive.lies_in g.D.Image.Image c.do_line.new.inserted) s (record { line = line; payload = [] }) (Err c.in-Err.status)) (c.line_of.ensures.only fault is)
    c.in-Err.ensures.rule)
