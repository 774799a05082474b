use Rattle.ram_machine.specs.Inserted.{Stands}
use Rattle.ram_serve.proofs.Served.{answered_so}
use Rattle.ram_serve.proofs.transmission.answer_incoming.Goals as goal

pub returns-in-Ok-clause-rule : goal.returns-in-Ok-clause-rule
returns-in-Ok-clause-rule g c = λ s stands.
    answered_so (Stands g.D.Caching g.D.Drive.lies_in g.D.Image.Image c.answer_request.new.inserted)
    (g.T.Sink.Sink.written (g.T.Conversation.report c.args.talk.now)) (g.T.Sink.Sink.written (g.T.Conversation.report c.tell_reply.new.talk)) s
    c.args.incoming.operation c.args.rooms.now.message.items c.args.incoming.cookie c.answer_request.new.message.items c.as_slice.result.now
    c.as_slice.ensures.value (c.in-Ok.ensures.rule s stands) c.tell_reply.result c.tell_reply.ensures.rule
