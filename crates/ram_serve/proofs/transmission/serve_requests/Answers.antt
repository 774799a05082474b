use Rattle.std.proofs.Common.{arith, refl, ◌+◌, ◌∙◌}
use Rattle.ram_outside.proofs.Additions.{added_none}
use Rattle.model_nbd.specs.Handshake.{Serving}
use Rattle.ram_machine.specs.Inserted.{Stands}
use Rattle.ram_session.specs.Talk.{Transmission}
use Rattle.ram_session.specs.Session.{IsToldBy}
use Rattle.ram_serve.specs.declared.messages.TheConstants.{MOST_MESSAGES}
use Rattle.ram_serve.proofs.Talked.{asks_told}
use Rattle.ram_serve.proofs.Served.{between_as}
use Rattle.ram_serve.proofs.transmission.serve_requests.Goals as goal

pub loop-answered-init : goal.loop-answered-init
loop-answered-init g c = record {
  few = omega arith;
  between = λ first faults n b.
      between_as first faults c.args.size n (n + 0) (Stands g.D.Caching g.D.Drive.lies_in g.D.Image.Image c.args.inserted.now)
      (g.T.Conversation.left c.args.talk.now) (g.T.Sink.Sink.written (g.T.Conversation.report c.args.talk.now))
      (omega arith) b;
  counts = record { source = refl; sink = refl; image = refl };
  asks = λ first faults n b. added_none (IsToldBy first faults) (g.T.Conversation.asked c.args.talk.now);
  room = c.requires.room;
}

pub returns-in-Err-clause-turn : goal.returns-in-Err-clause-turn
returns-in-Err-clause-turn g c first faults n b =
    c.in-Err.ensures.turn first faults (n + c.loop-answered.answered) (c.loop-answered.invariant.between first faults n b)

pub returns-in-Err-clause-asks : goal.returns-in-Err-clause-asks
returns-in-Err-clause-asks g c first faults n b =
    asks_told first faults (Serving c.args.size) (n + c.loop-answered.answered) (Stands g.D.Caching g.D.Drive.lies_in g.D.Image.Image c.loop-answered.inserted)
    (g.T.Conversation.left c.loop-answered.talk) (g.T.Sink.Sink.written (g.T.Conversation.report c.loop-answered.talk))
    Transmission (c.loop-answered.invariant.between first faults n b).between (g.T.Conversation.asked c.args.talk.now) (g.T.Conversation.asked c.loop-answered.talk)
    (g.T.Conversation.asked c.serve_request.new.talk) (c.loop-answered.invariant.asks first faults n b) c.serve_request.ensures.asks

pub loop-answered-preserved : goal.loop-answered-preserved
loop-answered-preserved g c = record {
  few = omega (arith, c.loop-answered-test.true);
  between = λ first faults n b.
      between_as first faults c.args.size (n + c.loop-answered.answered + 1) (n + (c.loop-answered.answered + 1)) (Stands g.D.Caching g.D.Drive.lies_in g.D.Image.Image c.serve_request.new.inserted)
      (g.T.Conversation.left c.serve_request.new.talk) (g.T.Sink.Sink.written (g.T.Conversation.report c.serve_request.new.talk))
      (omega arith) (c.in-Ok.ensures.turn first faults (n + c.loop-answered.answered) (c.loop-answered.invariant.between first faults n b));
  counts = record {
    source = c.in-Ok.ensures.counts.source ∙ c.loop-answered.invariant.counts.source;
    sink = c.in-Ok.ensures.counts.sink ∙ c.loop-answered.invariant.counts.sink;
    image = c.in-Ok.ensures.counts.image ∙ c.loop-answered.invariant.counts.image;
  };
  asks = λ first faults n b.
      asks_told first faults (Serving c.args.size) (n + c.loop-answered.answered) (Stands g.D.Caching g.D.Drive.lies_in g.D.Image.Image c.loop-answered.inserted)
      (g.T.Conversation.left c.loop-answered.talk) (g.T.Sink.Sink.written (g.T.Conversation.report c.loop-answered.talk))
      Transmission (c.loop-answered.invariant.between first faults n b).between (g.T.Conversation.asked c.args.talk.now) (g.T.Conversation.asked c.loop-answered.talk)
      (g.T.Conversation.asked c.serve_request.new.talk) (c.loop-answered.invariant.asks first faults n b) c.serve_request.ensures.asks;
  room = c.serve_request.ensures.room;
}

pub returns-clause-turn : goal.returns-clause-turn
returns-clause-turn g c first faults n b =
    between_as first faults c.args.size (n + c.loop-answered.answered) (n + MOST_MESSAGES) (Stands g.D.Caching g.D.Drive.lies_in g.D.Image.Image c.loop-answered.inserted)
    (g.T.Conversation.left c.loop-answered.talk) (g.T.Sink.Sink.written (g.T.Conversation.report c.loop-answered.talk))
    (omega (arith, c.loop-answered-test.false, c.loop-answered.invariant.few)) (c.loop-answered.invariant.between first faults n b)
