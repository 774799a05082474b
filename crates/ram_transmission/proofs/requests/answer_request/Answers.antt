use Rattle.std.proofs.Common.{sym, subst}
use Rattle.model_nbd.specs.declared.NbdOperation.{NbdOperation}
use Rattle.ram_machine.specs.Inserted.{Stands}
use Rattle.ram_transmission.specs.Requests.{RequestDone, RequestRule}
use Rattle.ram_transmission.proofs.Replies.{refused}
use Rattle.ram_transmission.proofs.requests.answer_request.Goals as goal

pub returns-in-Refused-clause-rule : goal.returns-in-Refused-clause-rule
returns-in-Refused-clause-rule g c = λ s stands.
    subst (λ (asked : NbdOperation). RequestDone (Stands g.D.Caching g.D.Drive.lies_in g.D.Image.Image c.args.inserted.now) s asked c.args.message.now.items
    c.args.cookie c.put_reply.new.reply.items) (sym c.in-Refused.is)
    (refused (Stands g.D.Caching g.D.Drive.lies_in g.D.Image.Image c.args.inserted.now) s c.args.cookie c.in-Refused.error c.args.message.now.items
    c.put_reply.new.reply.items stands c.put_reply.ensures.items)

pub returns-in-Read-clause-rule : goal.returns-in-Read-clause-rule
returns-in-Read-clause-rule g c = λ s stands.
    subst (λ (asked : NbdOperation). RequestRule (Stands g.D.Caching g.D.Drive.lies_in g.D.Image.Image c.answer_read.new.inserted) s asked c.args.message.now.items
    c.args.cookie c.answer_read.new.reply.items c.answer_read.result) (sym c.in-Read.is) (c.answer_read.ensures.rule s stands)

pub returns-in-Write-clause-rule : goal.returns-in-Write-clause-rule
returns-in-Write-clause-rule g c = λ s stands.
    subst (λ (asked : NbdOperation). RequestRule (Stands g.D.Caching g.D.Drive.lies_in g.D.Image.Image c.answer_write.new.inserted) s asked c.args.message.now.items
    c.args.cookie c.answer_write.new.message.items c.answer_write.result) (sym c.in-Write.is) (c.answer_write.ensures.rule s stands)

pub returns-in-WriteZeroes-clause-rule : goal.returns-in-WriteZeroes-clause-rule
returns-in-WriteZeroes-clause-rule g c = λ s stands.
    subst (λ (asked : NbdOperation). RequestRule (Stands g.D.Caching g.D.Drive.lies_in g.D.Image.Image c.answer_zeroes.new.inserted) s asked c.args.message.now.items
    c.args.cookie c.answer_zeroes.new.message.items c.answer_zeroes.result) (sym c.in-WriteZeroes.is) (c.answer_zeroes.ensures.rule s stands)

pub returns-in-Flush-clause-rule : goal.returns-in-Flush-clause-rule
returns-in-Flush-clause-rule g c = λ s stands.
    subst (λ (asked : NbdOperation). RequestRule (Stands g.D.Caching g.D.Drive.lies_in g.D.Image.Image c.answer_flush.new.inserted) s asked c.args.message.now.items
    c.args.cookie c.answer_flush.new.message.items c.answer_flush.result) (sym c.in-Flush.is) (c.answer_flush.ensures.rule s stands)

pub returns-in-Disconnect-clause-rule : goal.returns-in-Disconnect-clause-rule
returns-in-Disconnect-clause-rule g c = λ s stands.
    subst (λ (asked : NbdOperation). RequestRule (Stands g.D.Caching g.D.Drive.lies_in g.D.Image.Image c.disconnect.new.inserted) s asked c.args.message.now.items
    c.args.cookie c.disconnect.new.message.items c.disconnect.result) (sym c.in-Disconnect.is) (c.disconnect.ensures.rule s c.args.cookie stands)
