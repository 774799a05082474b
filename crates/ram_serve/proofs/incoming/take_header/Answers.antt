use Rattle.ram_serve.proofs.Requested.{header_asks, header_cut, header_unread}
use Rattle.ram_serve.proofs.incoming.take_header.Goals as goal

pub returns-in-Err-clause-rule : goal.returns-in-Err-clause-rule
returns-in-Err-clause-rule g c =
    header_cut (g.T.Conversation.left c.args.talk.now) (g.T.Conversation.left c.receive_first.new.talk)
    (g.T.Conversation.faults c.args.talk.now) (g.T.Conversation.faults c.receive_first.new.talk) c.receive_first.new.into c.in-Err.status
    c.receive_first.ensures.length c.in-Err.ensures.rule

pub returns-in-None-clause-rule : goal.returns-in-None-clause-rule
returns-in-None-clause-rule g c =
    header_unread (g.T.Conversation.left c.args.talk.now) (g.T.Conversation.left c.receive_first.new.talk)
    (g.T.Conversation.faults c.args.talk.now) (g.T.Conversation.faults c.receive_first.new.talk) c.receive_first.new.into
    c.receive_first.ensures.length c.in-None.ensures.none c.in-Ok.ensures.rule.0 c.in-Ok.ensures.rule.1

pub returns-in-Err-clause-asks : goal.returns-in-Err-clause-asks
returns-in-Err-clause-asks g c =
    header_asks (g.T.Conversation.left c.args.talk.now) (g.T.Sink.Sink.written (g.T.Conversation.report c.args.talk.now)) (g.T.Conversation.asked c.args.talk.now) (g.T.Conversation.asked c.receive_first.new.talk) c.receive_first.ensures.asks

pub returns-in-None-clause-asks : goal.returns-in-None-clause-asks
returns-in-None-clause-asks g c =
    header_asks (g.T.Conversation.left c.args.talk.now) (g.T.Sink.Sink.written (g.T.Conversation.report c.args.talk.now)) (g.T.Conversation.asked c.args.talk.now) (g.T.Conversation.asked c.receive_first.new.talk) c.receive_first.ensures.asks

pub returns-in-Some-clause-asks : goal.returns-in-Some-clause-asks
returns-in-Some-clause-asks g c =
    header_asks (g.T.Conversation.left c.args.talk.now) (g.T.Sink.Sink.written (g.T.Conversation.report c.args.talk.now)) (g.T.Conversation.asked c.args.talk.now) (g.T.Conversation.asked c.receive_first.new.talk) c.receive_first.ensures.asks
