use Rattle.std.proofs.Common.{ap}
use Rattle.ram_serve.proofs.Wanted.{option_asks, option_came, option_cut}
use Rattle.ram_serve.proofs.options.take_option.Goals as goal

pub returns-in-Ok-take_option_data-clause-rule : goal.returns-in-Ok-take_option_data-clause-rule
returns-in-Ok-take_option_data-clause-rule g c = λ zeros.
    option_came (g.T.Conversation.left c.args.talk.now) (g.T.Conversation.left c.take_option_data.new.talk)
    (g.T.Conversation.faults c.args.talk.now) (g.T.Conversation.faults c.take_option_data.new.talk) (g.T.Conversation.left c.take_option_head.new.talk) (g.T.Conversation.faults c.take_option_head.new.talk)
    c.in-Ok.head c.take_option_data.new.room.items (c.in-Ok.ensures.rule zeros) c.in-Ok-take_option_data.ensures.rule

pub returns-in-Ok-take_option_data-clause-asks : goal.returns-in-Ok-take_option_data-clause-asks
returns-in-Ok-take_option_data-clause-asks g c = λ zeros.
    option_asks zeros (g.T.Conversation.left c.args.talk.now) (g.T.Conversation.left c.take_option_head.new.talk) (g.T.Sink.Sink.written (g.T.Conversation.report c.args.talk.now)) (g.T.Sink.Sink.written (g.T.Conversation.report c.take_option_head.new.talk))
    (g.T.Conversation.faults c.args.talk.now) (g.T.Conversation.faults c.take_option_head.new.talk) c.in-Ok.head (g.T.Conversation.asked c.args.talk.now) (g.T.Conversation.asked c.take_option_head.new.talk) (g.T.Conversation.asked c.take_option_data.new.talk)
    (c.in-Ok.ensures.rule zeros) (ap (λ sink. g.T.Sink.Sink.written sink) c.in-Ok.ensures.same) (c.in-Ok.ensures.asks zeros)
    c.take_option_data.ensures.asks

pub returns-in-Err-take_option_data-clause-rule : goal.returns-in-Err-take_option_data-clause-rule
returns-in-Err-take_option_data-clause-rule g c = λ zeros.
    option_cut (g.T.Conversation.left c.args.talk.now) (g.T.Conversation.left c.take_option_data.new.talk)
    (g.T.Conversation.faults c.args.talk.now) (g.T.Conversation.faults c.take_option_data.new.talk) zeros (g.T.Conversation.left c.take_option_head.new.talk) (g.T.Conversation.faults c.take_option_head.new.talk)
    c.in-Ok.head c.take_option_data.new.room.items c.in-Err-take_option_data.status (c.in-Ok.ensures.rule zeros)
    c.in-Err-take_option_data.ensures.rule

pub returns-in-Err-take_option_data-clause-asks : goal.returns-in-Err-take_option_data-clause-asks
returns-in-Err-take_option_data-clause-asks g c = λ zeros.
    option_asks zeros (g.T.Conversation.left c.args.talk.now) (g.T.Conversation.left c.take_option_head.new.talk) (g.T.Sink.Sink.written (g.T.Conversation.report c.args.talk.now)) (g.T.Sink.Sink.written (g.T.Conversation.report c.take_option_head.new.talk))
    (g.T.Conversation.faults c.args.talk.now) (g.T.Conversation.faults c.take_option_head.new.talk) c.in-Ok.head (g.T.Conversation.asked c.args.talk.now) (g.T.Conversation.asked c.take_option_head.new.talk) (g.T.Conversation.asked c.take_option_data.new.talk)
    (c.in-Ok.ensures.rule zeros) (ap (λ sink. g.T.Sink.Sink.written sink) c.in-Ok.ensures.same) (c.in-Ok.ensures.asks zeros)
    c.take_option_data.ensures.asks
