use Rattle.std.proofs.Common.{ℕ, true, [], refl, ap, ◌∙◌}
use Rattle.model_nbd.specs.declared.NbdOperation.TheVariants as operations
use Rattle.model_nbd.specs.Messages.{reply_bytes}
use Rattle.ram_machine.specs.Inserted.{Stands}
use Rattle.ram_transmission.specs.Chains.{AnyData}
use Rattle.ram_transmission.proofs.Replies.{told_alone, request_failed, then_lasting, lasting_failed}
use Rattle.ram_transmission.proofs.requests.answer_flush.Goals as goal

pub returns-in-Ok-make_lasting-clause-rule : goal.returns-in-Ok-make_lasting-clause-rule
returns-in-Ok-make_lasting-clause-rule g c = λ s stands.
    told_alone (Stands g.D.Caching g.D.Drive.lies_in g.D.Image.Image c.make_lasting.new.inserted) s c.args.cookie operations.Flush c.args.message.now.items
    c.put_reply.new.reply.items c.in-Ok.answer (λ dids. refl) (c.put_reply.ensures.items ∙ ap (λ (error : ℕ). reply_bytes error c.args.cookie []) c.error_of.ensures)
    (then_lasting (Stands g.D.Caching g.D.Drive.lies_in g.D.Image.Image c.synchronize.new.inserted) (Stands g.D.Caching g.D.Drive.lies_in g.D.Image.Image c.make_lasting.new.inserted) s _
    c.in-Ok.answer true (c.in-Ok.ensures.rule s stands) c.in-Ok-make_lasting.ensures.rule)

pub returns-in-Err-make_lasting-clause-rule : goal.returns-in-Err-make_lasting-clause-rule
returns-in-Err-make_lasting-clause-rule g c = λ s stands.
    lasting_failed (Stands g.D.Caching g.D.Drive.lies_in g.D.Image.Image c.synchronize.new.inserted) (Stands g.D.Caching g.D.Drive.lies_in g.D.Image.Image c.make_lasting.new.inserted) s c.args.cookie
    operations.Flush c.args.message.now.items [] c.in-Ok.answer true c.in-Err-make_lasting.stopped (λ asked. tt)
    (c.in-Ok.ensures.rule s stands) c.in-Err-make_lasting.ensures.rule

pub returns-in-Err-clause-rule : goal.returns-in-Err-clause-rule
returns-in-Err-clause-rule g c = λ s stands.
    request_failed (Stands g.D.Caching g.D.Drive.lies_in g.D.Image.Image c.synchronize.new.inserted) s c.args.cookie AnyData operations.Flush c.args.message.now.items
    [] c.in-Err.stopped (c.in-Err.ensures.rule s stands)
