use Rattle.std.proofs.Common.{◌-◌, ◌++◌, arith, ap, ◌∙◌}
use Rattle.std.proofs.lemmas.Result.{err_from_is_err_and}
use Rattle.ram_serve.proofs.Came.{over_more, over_stopped}
use Rattle.ram_serve.proofs.Within.{short_further}
use Rattle.ram_serve.proofs.messages.read_over.Goals as goal

pub returns-in_err-receive_data-clause-rule : goal.returns-in_err-receive_data-clause-rule
returns-in_err-receive_data-clause-rule g c =
    let p = err_from_is_err_and c.from_residual.result c.from_residual.ensures.1 in
    rw (p.1, p.2)
    (over_stopped (g.T.Conversation.left c.args.talk.now) (g.T.Conversation.left c.loop-left.talk) (g.T.Conversation.left c.receive_data.new.talk)
    (g.T.Conversation.faults c.args.talk.now) (g.T.Conversation.faults c.loop-left.talk) (g.T.Conversation.faults c.receive_data.new.talk)
    (c.args.count - c.loop-left.left) c.min-part.result c.args.count c.loop-left.invariant.came.0 c.receive_data.new.room.items
    c.in_err-receive_data.field-0.0 (omega (arith, c.min-part.ensures, c.loop-left.invariant.few)) (c.loop-left.invariant.came.1, c.loop-left.invariant.came.2, c.loop-left.invariant.came.3)
    c.in_err-receive_data.ensures.rule)

pub returns-in_err-receive_data-clause-asks : goal.returns-in_err-receive_data-clause-asks
returns-in_err-receive_data-clause-asks g c =
    short_further (g.T.Conversation.left c.args.talk.now) (g.T.Conversation.left c.loop-left.talk) (g.T.Sink.Sink.written (g.T.Conversation.report c.args.talk.now)) (g.T.Sink.Sink.written (g.T.Conversation.report c.loop-left.talk))
    c.loop-left.invariant.came.0 c.min-part.result c.args.count (g.T.Conversation.asked c.args.talk.now) (g.T.Conversation.asked c.loop-left.talk) (g.T.Conversation.asked c.receive_data.new.talk)
    (omega (arith, c.loop-left.invariant.came.1, c.min-part.ensures, c.loop-left.invariant.few)) c.loop-left.invariant.came.2
    (ap (λ sink. g.T.Sink.Sink.written sink) c.loop-left.invariant.same) c.loop-left.invariant.asks c.receive_data.ensures.asks

pub loop-left-preserved : goal.loop-left-preserved
loop-left-preserved g c =
    let before = c.loop-left.invariant.came in
    let both = over_more (g.T.Conversation.left c.args.talk.now) (g.T.Conversation.left c.loop-left.talk) (g.T.Conversation.left c.receive_data.new.talk)
    (g.T.Conversation.faults c.args.talk.now) (g.T.Conversation.faults c.loop-left.talk) (g.T.Conversation.faults c.receive_data.new.talk)
    (c.args.count - c.loop-left.left) c.min-part.result before.0 c.receive_data.new.room.items (before.1, before.2, before.3) c.in_ok-receive_data.ensures.rule in
    record {
      few = omega (arith, c.loop-left.invariant.few);
      came = (
        before.0 ++ c.receive_data.new.room.items,
        omega (arith, both.0, c.min-part.ensures, c.loop-left.invariant.few),
        both.1,
        both.2,
      );
      same = c.receive_data.ensures.same ∙ c.loop-left.invariant.same;
      asks =
          short_further (g.T.Conversation.left c.args.talk.now) (g.T.Conversation.left c.loop-left.talk) (g.T.Sink.Sink.written (g.T.Conversation.report c.args.talk.now)) (g.T.Sink.Sink.written (g.T.Conversation.report c.loop-left.talk))
          c.loop-left.invariant.came.0 c.min-part.result c.args.count (g.T.Conversation.asked c.args.talk.now) (g.T.Conversation.asked c.loop-left.talk) (g.T.Conversation.asked c.receive_data.new.talk)
          (omega (arith, c.loop-left.invariant.came.1, c.min-part.ensures, c.loop-left.invariant.few)) c.loop-left.invariant.came.2
          (ap (λ sink. g.T.Sink.Sink.written sink) c.loop-left.invariant.same) c.loop-left.invariant.asks c.receive_data.ensures.asks;
      room = omega (arith, c.loop-left.invariant.room, c.receive_data.ensures.room);
    }
