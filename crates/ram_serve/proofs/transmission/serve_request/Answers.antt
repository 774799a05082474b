use Rattle.std.proofs.Common.{ap}
use Rattle.ram_machine.specs.Inserted.{Stands}
use Rattle.model_nbd.specs.Handshake.{Serving}
use Rattle.ram_session.specs.Talk.{Transmission}
use Rattle.ram_serve.proofs.Talked.{ends_untaken}
use Rattle.ram_serve.proofs.Served.{request_served}
use Rattle.ram_serve.proofs.transmission.serve_request.Goals as goal

pub returns-in-Ok-clause-turn : goal.returns-in-Ok-clause-turn
returns-in-Ok-clause-turn g c first faults n b =
    request_served first faults c.args.size n (Stands g.D.Caching g.D.Drive.lies_in g.D.Image.Image c.args.inserted.now)
    (Stands g.D.Caching g.D.Drive.lies_in g.D.Image.Image c.answer_incoming.new.inserted)
    (g.T.Conversation.left c.args.talk.now) (g.T.Conversation.left c.take_request.new.talk)
    (g.T.Sink.Sink.written (g.T.Conversation.report c.args.talk.now)) (g.T.Sink.Sink.written (g.T.Conversation.report c.answer_incoming.new.talk)) b
    (g.T.Conversation.faults c.args.talk.now) (g.T.Conversation.faults c.take_request.new.talk) c.take_request.new.room.items c.in-Ok.incoming
    c.in-Ok.ensures.rule (g.T.Sink.Sink.written (g.T.Conversation.report c.take_request.new.talk)) (g.T.Conversation.left c.answer_incoming.new.talk)
    (ap (λ sink. g.T.Sink.Sink.written sink) c.in-Ok.ensures.same) c.answer_incoming.ensures.same_left c.answer_incoming.result
    c.answer_incoming.ensures.rule

pub returns-in-Err-clause-turn : goal.returns-in-Err-clause-turn
returns-in-Err-clause-turn g c first faults n b =
    ends_untaken first faults (Serving c.args.size) Transmission n (Stands g.D.Caching g.D.Drive.lies_in g.D.Image.Image c.args.inserted.now)
    (g.T.Conversation.left c.args.talk.now) (g.T.Conversation.left c.take_request.new.talk)
    (g.T.Sink.Sink.written (g.T.Conversation.report c.args.talk.now)) b.between tt
    (g.T.Conversation.faults c.args.talk.now) (g.T.Conversation.faults c.take_request.new.talk) c.in-Err.status
    (g.T.Sink.Sink.written (g.T.Conversation.report c.take_request.new.talk)) (ap (λ sink. g.T.Sink.Sink.written sink) c.in-Err.ensures.same)
    c.in-Err.ensures.rule
