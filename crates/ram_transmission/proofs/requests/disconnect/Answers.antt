use Rattle.std.proofs.Common.{true, []}
use Rattle.model_nbd.specs.declared.NbdOperation.TheVariants as operations
use Rattle.ram_machine.specs.Inserted.{Stands}
use Rattle.ram_transmission.specs.Chains.{AnyData}
use Rattle.ram_transmission.proofs.Replies.{left_alone, request_failed, then_lasting, lasting_failed}
use Rattle.ram_transmission.proofs.requests.disconnect.Goals as goal

pub returns-in-Ok-make_lasting-clause-rule : goal.returns-in-Ok-make_lasting-clause-rule
returns-in-Ok-make_lasting-clause-rule g c = λ s cookie stands.
    left_alone (Stands g.D.Caching g.D.Drive.lies_in g.D.Image.Image c.make_lasting.new.inserted) s cookie c.args.message.now.items
    c.clear.new.self.items c.in-Ok.answer c.clear.ensures.items
    (then_lasting (Stands g.D.Caching g.D.Drive.lies_in g.D.Image.Image c.synchronize.new.inserted) (Stands g.D.Caching g.D.Drive.lies_in g.D.Image.Image c.make_lasting.new.inserted) s _
    c.in-Ok.answer true (c.in-Ok.ensures.rule s stands) c.in-Ok-make_lasting.ensures.rule)

pub returns-in-Err-make_lasting-clause-rule : goal.returns-in-Err-make_lasting-clause-rule
returns-in-Err-make_lasting-clause-rule g c = λ s cookie stands.
    lasting_failed (Stands g.D.Caching g.D.Drive.lies_in g.D.Image.Image c.synchronize.new.inserted) (Stands g.D.Caching g.D.Drive.lies_in g.D.Image.Image c.make_lasting.new.inserted) s cookie
    operations.Disconnect c.args.message.now.items [] c.in-Ok.answer true c.in-Err-make_lasting.stopped (λ asked. tt)
    (c.in-Ok.ensures.rule s stands) c.in-Err-make_lasting.ensures.rule

pub returns-in-Err-clause-rule : goal.returns-in-Err-clause-rule
returns-in-Err-clause-rule g c = λ s cookie stands.
    request_failed (Stands g.D.Caching g.D.Drive.lies_in g.D.Image.Image c.synchronize.new.inserted) s cookie AnyData operations.Disconnect c.args.message.now.items
    [] c.in-Err.stopped (c.in-Err.ensures.rule s stands)
