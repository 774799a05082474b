use Rattle.std.proofs.Common.{ap}
use Rattle.ram_serve.proofs.Requested.{data_asks, data_cut, request_came}
use Rattle.ram_serve.proofs.incoming.take_request.Goals as goal

pub returns-in-Ok-take_data-clause-rule : goal.returns-in-Ok-take_data-clause-rule
returns-in-Ok-take_data-clause-rule g c =
    request_came (g.T.Conversation.left c.args.talk.now) (g.T.Conversation.left c.take_header.new.talk) (g.T.Conversation.left c.take_data.new.talk)
    (g.T.Conversation.faults c.args.talk.now) (g.T.Conversation.faults c.take_header.new.talk) (g.T.Conversation.faults c.take_data.new.talk)
    c.args.size c.in-Ok.header c.request_asks-operation.result c.take_data.new.room.items c.requires.few c.request_asks-operation.ensures
    c.in-Ok.ensures.rule c.in-Ok-take_data.ensures.rule

pub returns-in-Ok-take_data-clause-asks : goal.returns-in-Ok-take_data-clause-asks
returns-in-Ok-take_data-clause-asks g c =
    data_asks (g.T.Conversation.left c.args.talk.now) (g.T.Conversation.left c.take_header.new.talk) (g.T.Sink.Sink.written (g.T.Conversation.report c.args.talk.now)) (g.T.Sink.Sink.written (g.T.Conversation.report c.take_header.new.talk))
    (g.T.Conversation.faults c.args.talk.now) (g.T.Conversation.faults c.take_header.new.talk) c.in-Ok.header (g.T.Conversation.asked c.args.talk.now) (g.T.Conversation.asked c.take_header.new.talk) (g.T.Conversation.asked c.take_data.new.talk)
    c.in-Ok.ensures.rule (ap (λ sink. g.T.Sink.Sink.written sink) c.in-Ok.ensures.same) c.in-Ok.ensures.asks c.take_data.ensures.asks

pub returns-in-Err-take_data-clause-rule : goal.returns-in-Err-take_data-clause-rule
returns-in-Err-take_data-clause-rule g c =
    data_cut (g.T.Conversation.left c.args.talk.now) (g.T.Conversation.left c.take_data.new.talk)
    (g.T.Conversation.faults c.args.talk.now) (g.T.Conversation.faults c.take_data.new.talk)
    (g.T.Conversation.left c.take_header.new.talk) (g.T.Conversation.faults c.take_header.new.talk)
    c.in-Ok.header c.request_asks-operation.result c.take_data.new.room.items c.in-Err-take_data.status
    c.in-Ok.ensures.rule c.in-Err-take_data.ensures.rule

pub returns-in-Err-take_data-clause-asks : goal.returns-in-Err-take_data-clause-asks
returns-in-Err-take_data-clause-asks g c =
    data_asks (g.T.Conversation.left c.args.talk.now) (g.T.Conversation.left c.take_header.new.talk) (g.T.Sink.Sink.written (g.T.Conversation.report c.args.talk.now)) (g.T.Sink.Sink.written (g.T.Conversation.report c.take_header.new.talk))
    (g.T.Conversation.faults c.args.talk.now) (g.T.Conversation.faults c.take_header.new.talk) c.in-Ok.header (g.T.Conversation.asked c.args.talk.now) (g.T.Conversation.asked c.take_header.new.talk) (g.T.Conversation.asked c.take_data.new.talk)
    c.in-Ok.ensures.rule (ap (λ sink. g.T.Sink.Sink.written sink) c.in-Ok.ensures.same) c.in-Ok.ensures.asks c.take_data.ensures.asks
