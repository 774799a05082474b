use Rattle.std.proofs.Common.{List, ℕ, Err, [], map, refl, ap, ◌∙◌, subst}
use Rattle.model_nbd.specs.declared.NbdOperation.TheVariants as operations
use Rattle.model_nbd.specs.Messages.{reply_bytes}
use Rattle.model_nbd.specs.Commands.{parts, write_of}
use Rattle.ram_machine.specs.Inserted.{Stands}
use Rattle.ram_transmission.specs.Chains.{AnyData, ChainDone, ChainRule}
use Rattle.ram_transmission.proofs.Replies.{told_alone, request_failed, then_lasting, lasting_failed}
use Rattle.ram_transmission.proofs.requests.answer_write.Goals as goal

pub returns-in-Ok-make_lasting-clause-rule : goal.returns-in-Ok-make_lasting-clause-rule
returns-in-Ok-make_lasting-clause-rule g c = λ s stands.
    told_alone (Stands g.D.Caching g.D.Drive.lies_in g.D.Image.Image c.make_lasting.new.inserted) s c.args.cookie
    (operations.Write c.args.lba c.args.n c.args.fua) c.args.message.now.items c.put_reply.new.reply.items c.in-Ok.answer (λ dids. refl)
    (c.put_reply.ensures.items ∙ ap (λ (error : ℕ). reply_bytes error c.args.cookie []) c.error_of.ensures)
    (then_lasting (Stands g.D.Caching g.D.Drive.lies_in g.D.Image.Image c.write_parts.new.inserted) (Stands g.D.Caching g.D.Drive.lies_in g.D.Image.Image c.make_lasting.new.inserted) s _
    c.in-Ok.answer c.args.fua (subst (λ (bytes : List ℕ). ChainDone AnyData (Stands g.D.Caching g.D.Drive.lies_in g.D.Image.Image c.write_parts.new.inserted) s
    (map (write_of c.args.fua c.args.lba bytes) (parts c.args.lba c.args.n)) c.in-Ok.answer) c.as_slice.ensures.value (c.in-Ok.ensures.rule s stands)) c.in-Ok-make_lasting.ensures.rule)

pub returns-in-Err-make_lasting-clause-rule : goal.returns-in-Err-make_lasting-clause-rule
returns-in-Err-make_lasting-clause-rule g c = λ s stands.
    lasting_failed (Stands g.D.Caching g.D.Drive.lies_in g.D.Image.Image c.write_parts.new.inserted) (Stands g.D.Caching g.D.Drive.lies_in g.D.Image.Image c.make_lasting.new.inserted) s c.args.cookie
    (operations.Write c.args.lba c.args.n c.args.fua) c.args.message.now.items [] c.in-Ok.answer c.args.fua c.in-Err-make_lasting.stopped (λ asked. asked)
    (subst (λ (bytes : List ℕ). ChainDone AnyData (Stands g.D.Caching g.D.Drive.lies_in g.D.Image.Image c.write_parts.new.inserted) s
    (map (write_of c.args.fua c.args.lba bytes) (parts c.args.lba c.args.n)) c.in-Ok.answer) c.as_slice.ensures.value (c.in-Ok.ensures.rule s stands)) c.in-Err-make_lasting.ensures.rule

pub returns-in-Err-clause-rule : goal.returns-in-Err-clause-rule
returns-in-Err-clause-rule g c = λ s stands.
    request_failed (Stands g.D.Caching g.D.Drive.lies_in g.D.Image.Image c.write_parts.new.inserted) s c.args.cookie AnyData
    (operations.Write c.args.lba c.args.n c.args.fua) c.args.message.now.items [] c.in-Err.stopped
    (subst (λ (bytes : List ℕ). ChainRule AnyData (Stands g.D.Caching g.D.Drive.lies_in g.D.Image.Image c.write_parts.new.inserted) s
    (map (write_of c.args.fua c.args.lba bytes) (parts c.args.lba c.args.n)) (Err c.in-Err.stopped)) c.as_slice.ensures.value (c.in-Err.ensures.rule s stands))
