use Rattle.std.proofs.Common.{ap}
use Rattle.ram_outside.proofs.Additions.{added_none_of}
use Rattle.ram_session.specs.Talk.{Greeted}
use Rattle.ram_session.specs.Session.{IsToldBy}
use Rattle.ram_serve.specs.Handshakes.{IsState}
use Rattle.ram_serve.proofs.Talked.{asks_told}
use Rattle.ram_serve.proofs.Shaken.{greeted, greeting_cut, flags_taken}
use Rattle.ram_serve.proofs.handshake.greet.Goals as goal

pub returns-in-Ok-clause-turn : goal.returns-in-Ok-clause-turn
returns-in-Ok-clause-turn g c = λ first faults export ready u.
    flags_taken first faults export ready (g.T.Conversation.left c.tell.new.talk) (g.T.Conversation.left c.take_flags.new.talk) (g.T.Sink.Sink.written (g.T.Conversation.report c.tell.new.talk)) (g.T.Sink.Sink.written (g.T.Conversation.report c.take_flags.new.talk))
    (g.T.Conversation.faults c.tell.new.talk) (g.T.Conversation.faults c.take_flags.new.talk)
    (greeted first faults export ready (g.T.Conversation.left c.args.talk.now) (g.T.Conversation.left c.tell.new.talk) (g.T.Sink.Sink.written (g.T.Conversation.report c.args.talk.now)) (g.T.Sink.Sink.written (g.T.Conversation.report c.tell.new.talk)) u c.greeting.result c.greeting.ensures c.in-Ok.ensures.same_left c.in-Ok.ensures.rule.0)
    (ap (λ sink. g.T.Sink.Sink.written sink) c.take_flags.ensures.same) c.take_flags.result c.take_flags.ensures.rule

pub returns-in-Ok-clause-asks : goal.returns-in-Ok-clause-asks
returns-in-Ok-clause-asks g c = λ first faults export ready u.
    asks_told first faults export 0 (IsState ready) (g.T.Conversation.left c.tell.new.talk) (g.T.Sink.Sink.written (g.T.Conversation.report c.tell.new.talk)) Greeted
    (greeted first faults export ready (g.T.Conversation.left c.args.talk.now) (g.T.Conversation.left c.tell.new.talk) (g.T.Sink.Sink.written (g.T.Conversation.report c.args.talk.now)) (g.T.Sink.Sink.written (g.T.Conversation.report c.tell.new.talk)) u c.greeting.result c.greeting.ensures c.in-Ok.ensures.same_left c.in-Ok.ensures.rule.0)
    (g.T.Conversation.asked c.args.talk.now) (g.T.Conversation.asked c.tell.new.talk) (g.T.Conversation.asked c.take_flags.new.talk) (added_none_of (IsToldBy first faults) (g.T.Conversation.asked c.args.talk.now) (g.T.Conversation.asked c.tell.new.talk) c.in-Ok.ensures.same_asked) c.take_flags.ensures.asks

pub returns-in-Err-clause-turn : goal.returns-in-Err-clause-turn
returns-in-Err-clause-turn g c = λ first faults export ready u.
    greeting_cut first faults export ready (g.T.Conversation.left c.args.talk.now) (g.T.Conversation.left c.tell.new.talk) (g.T.Sink.Sink.written (g.T.Conversation.report c.args.talk.now)) (g.T.Sink.Sink.written (g.T.Conversation.report c.tell.new.talk)) u c.greeting.result (g.T.Sink.Sink.faults (g.T.Conversation.report c.args.talk.now)) (g.T.Sink.Sink.faults (g.T.Conversation.report c.tell.new.talk))
    c.in-Err.status c.greeting.ensures c.in-Err.ensures.same_left c.in-Err.ensures.rule
