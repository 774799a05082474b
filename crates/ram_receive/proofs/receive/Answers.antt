use Rattle.std.proofs.Common.{◌≡◌, ◌-◌, length, drop, arith, ap, ◌∙◌, length-take, length-drop}
use Rattle.ram_receive.proofs.Came.{came, longer, more_asked}
use Rattle.ram_receive.proofs.receive.Goals as goal

pub loop-at-preserved : goal.loop-at-preserved
loop-at-preserved g c =
    let gives = c.in-Got.ensures.rule in
    let inside = c.loop-at.invariant.within in
    let long : length c.take.new.into ≡ length c.loop-at.into - c.loop-at.at =
    omega (
      arith,
      c.take.auto.into,
      inside,
      length-take (length c.loop-at.into - c.loop-at.at) (drop c.loop-at.at c.loop-at.into),
      length-drop c.loop-at.at c.loop-at.into,
    ) in
    let whole = longer c.loop-at.into c.take.new.into c.loop-at.at inside long in
    record {
      within = omega (arith, whole, gives.within, long, inside);
      as_long = whole ∙ c.loop-at.invariant.as_long;
      went = came _ _ _ c.loop-at.into c.take.new.into c.loop-at.at (length c.loop-at.into - c.loop-at.at) c.in-Got.count _ _ inside c.loop-at.invariant.went gives;
      count = omega (arith, gives.count, c.loop-at.invariant.count);
      same = c.take.ensures.same ∙ c.loop-at.invariant.same;
      asks = more_asked (g.T.Conversation.left c.args.talk.now) (g.T.Conversation.left c.loop-at.talk)
          (g.T.Sink.Sink.written (g.T.Conversation.report c.args.talk.now)) (g.T.Sink.Sink.written (g.T.Conversation.report c.loop-at.talk))
          c.loop-at.into c.loop-at.at (length c.args.into.now)
          (g.T.Conversation.asked c.args.talk.now) (g.T.Conversation.asked c.loop-at.talk) (g.T.Conversation.asked c.take.new.self)
          c.loop-at-test.true c.loop-at.invariant.as_long c.loop-at.invariant.went (ap g.T.Sink.Sink.written c.loop-at.invariant.same)
          c.loop-at.invariant.asks c.take.ensures.asks;
    }

pub returns-in-End-clause-asks : goal.returns-in-End-clause-asks
returns-in-End-clause-asks g c =
    more_asked (g.T.Conversation.left c.args.talk.now) (g.T.Conversation.left c.loop-at.talk)
    (g.T.Sink.Sink.written (g.T.Conversation.report c.args.talk.now)) (g.T.Sink.Sink.written (g.T.Conversation.report c.loop-at.talk))
    c.loop-at.into c.loop-at.at (length c.args.into.now)
    (g.T.Conversation.asked c.args.talk.now) (g.T.Conversation.asked c.loop-at.talk) (g.T.Conversation.asked c.take.new.self)
    c.loop-at-test.true c.loop-at.invariant.as_long c.loop-at.invariant.went (ap g.T.Sink.Sink.written c.loop-at.invariant.same)
    c.loop-at.invariant.asks c.take.ensures.asks

pub returns-in-Failed-clause-asks : goal.returns-in-Failed-clause-asks
returns-in-Failed-clause-asks g c =
    more_asked (g.T.Conversation.left c.args.talk.now) (g.T.Conversation.left c.loop-at.talk)
    (g.T.Sink.Sink.written (g.T.Conversation.report c.args.talk.now)) (g.T.Sink.Sink.written (g.T.Conversation.report c.loop-at.talk))
    c.loop-at.into c.loop-at.at (length c.args.into.now)
    (g.T.Conversation.asked c.args.talk.now) (g.T.Conversation.asked c.loop-at.talk) (g.T.Conversation.asked c.take.new.self)
    c.loop-at-test.true c.loop-at.invariant.as_long c.loop-at.invariant.went (ap g.T.Sink.Sink.written c.loop-at.invariant.same)
    c.loop-at.invariant.asks c.take.ensures.asks
