use Rattle.std.specs.Prelude.{Err}
use Rattle.std.proofs.Common.{arith, refl, ◌+◌, subst}
use Rattle.model_nbd.specs.declared.NextPhase.{NextPhase}
use Rattle.ram_nbd.specs.Replies.{export_of}
use Rattle.ram_outside.proofs.Additions.{added_none}
use Rattle.ram_session.specs.Talk.{Options, Transmission, phase_after}
use Rattle.ram_session.specs.Session.{IsToldBy}
use Rattle.ram_serve.specs.Handshakes.{IsState, InHandshake}
use Rattle.ram_serve.specs.Turns.{counts_now}
use Rattle.ram_serve.proofs.Talked.{asks_told, many_as, has_left, has_no_answer, has_most}
use Rattle.ram_serve.proofs.Counted.{same_then, turn_then}
use Rattle.ram_serve.proofs.handshake.choose_options.Goals as goal

pub loop-answered-init : goal.loop-answered-init
loop-answered-init g c = record {
  few = omega arith;
  between = λ first faults ready n b.
      many_as first faults (export_of c.args.size c.args.reason.now) n (IsState ready) (g.T.Conversation.left c.args.talk.now) (g.T.Sink.Sink.written (g.T.Conversation.report c.args.talk.now))
      (Options c.args.zeros) (n + 0) (omega arith) b;
  counts = λ image. record { source = refl; sink = refl; image = refl };
  asks = λ first faults ready n b. added_none (IsToldBy first faults) (g.T.Conversation.asked c.args.talk.now);
  room = c.requires.room;
}

pub returns-in-Ok-Transmission-clause-turn : goal.returns-in-Ok-Transmission-clause-turn
returns-in-Ok-Transmission-clause-turn g c = λ first faults ready n b.
    many_as first faults (export_of c.args.size c.args.reason.now) (n + c.loop-answered.answered + 1) (IsState ready) (g.T.Conversation.left c.serve_option.new.talk) (g.T.Sink.Sink.written (g.T.Conversation.report c.serve_option.new.talk)) Transmission (n + 1) (omega arith)
    (subst (λ (p : NextPhase). InHandshake first faults (export_of c.args.size c.args.reason.now) ready (phase_after c.args.zeros p) (n + c.loop-answered.answered + 1)
    (g.T.Conversation.left c.serve_option.new.talk) (g.T.Sink.Sink.written (g.T.Conversation.report c.serve_option.new.talk))) c.in-Ok-Transmission.field-0-is
    (c.in-Ok-Transmission.ensures.turn first faults ready (n + c.loop-answered.answered) (c.loop-answered.invariant.between first faults ready n b)))

pub returns-in-Ok-Transmission-clause-counts : goal.returns-in-Ok-Transmission-clause-counts
returns-in-Ok-Transmission-clause-counts g c = λ image.
    same_then (counts_now g.T.Conversation g.T.Sink.Sink c.args.talk.now image) (counts_now g.T.Conversation g.T.Sink.Sink c.loop-answered.talk image)
    (counts_now g.T.Conversation g.T.Sink.Sink c.serve_option.new.talk image) (c.loop-answered.invariant.counts image) (c.in-Ok-Transmission.ensures.counts image)

pub returns-in-Ok-Transmission-clause-asks : goal.returns-in-Ok-Transmission-clause-asks
returns-in-Ok-Transmission-clause-asks g c = λ first faults ready n b.
    asks_told first faults (export_of c.args.size c.args.reason.now) (n + c.loop-answered.answered) (IsState ready) (g.T.Conversation.left c.loop-answered.talk) (g.T.Sink.Sink.written (g.T.Conversation.report c.loop-answered.talk))
    (Options c.args.zeros) (c.loop-answered.invariant.between first faults ready n b) (g.T.Conversation.asked c.args.talk.now) (g.T.Conversation.asked c.loop-answered.talk) (g.T.Conversation.asked c.serve_option.new.talk)
    (c.loop-answered.invariant.asks first faults ready n b) c.serve_option.ensures.asks

pub returns-in-Ok-Left-clause-turn : goal.returns-in-Ok-Left-clause-turn
returns-in-Ok-Left-clause-turn g c = λ first faults ready n b.
    has_left first faults (export_of c.args.size c.args.reason.now) (n + c.loop-answered.answered + 1) (IsState ready) (g.T.Conversation.left c.serve_option.new.talk) (g.T.Sink.Sink.written (g.T.Conversation.report c.serve_option.new.talk))
    (subst (λ (p : NextPhase). InHandshake first faults (export_of c.args.size c.args.reason.now) ready (phase_after c.args.zeros p) (n + c.loop-answered.answered + 1)
    (g.T.Conversation.left c.serve_option.new.talk) (g.T.Sink.Sink.written (g.T.Conversation.report c.serve_option.new.talk))) c.in-Ok-Left.field-0-is
    (c.in-Ok-Left.ensures.turn first faults ready (n + c.loop-answered.answered) (c.loop-answered.invariant.between first faults ready n b)))

pub returns-in-Ok-Left-clause-counts : goal.returns-in-Ok-Left-clause-counts
returns-in-Ok-Left-clause-counts g c = λ image.
    same_then (counts_now g.T.Conversation g.T.Sink.Sink c.args.talk.now image) (counts_now g.T.Conversation g.T.Sink.Sink c.loop-answered.talk image)
    (counts_now g.T.Conversation g.T.Sink.Sink c.serve_option.new.talk image) (c.loop-answered.invariant.counts image) (c.in-Ok-Left.ensures.counts image)

pub returns-in-Ok-Left-clause-asks : goal.returns-in-Ok-Left-clause-asks
returns-in-Ok-Left-clause-asks g c = λ first faults ready n b.
    asks_told first faults (export_of c.args.size c.args.reason.now) (n + c.loop-answered.answered) (IsState ready) (g.T.Conversation.left c.loop-answered.talk) (g.T.Sink.Sink.written (g.T.Conversation.report c.loop-answered.talk))
    (Options c.args.zeros) (c.loop-answered.invariant.between first faults ready n b) (g.T.Conversation.asked c.args.talk.now) (g.T.Conversation.asked c.loop-answered.talk) (g.T.Conversation.asked c.serve_option.new.talk)
    (c.loop-answered.invariant.asks first faults ready n b) c.serve_option.ensures.asks

pub returns-in-Ok-Violation-clause-turn : goal.returns-in-Ok-Violation-clause-turn
returns-in-Ok-Violation-clause-turn g c = λ first faults ready n b.
    has_no_answer first faults (export_of c.args.size c.args.reason.now) (n + c.loop-answered.answered + 1) (IsState ready) (g.T.Conversation.left c.serve_option.new.talk) (g.T.Sink.Sink.written (g.T.Conversation.report c.serve_option.new.talk))
    (subst (λ (p : NextPhase). InHandshake first faults (export_of c.args.size c.args.reason.now) ready (phase_after c.args.zeros p) (n + c.loop-answered.answered + 1)
    (g.T.Conversation.left c.serve_option.new.talk) (g.T.Sink.Sink.written (g.T.Conversation.report c.serve_option.new.talk))) c.in-Ok-Violation.field-0-is
    (c.in-Ok-Violation.ensures.turn first faults ready (n + c.loop-answered.answered) (c.loop-answered.invariant.between first faults ready n b)))

pub returns-in-Ok-Violation-clause-counts : goal.returns-in-Ok-Violation-clause-counts
returns-in-Ok-Violation-clause-counts g c = λ image.
    same_then (counts_now g.T.Conversation g.T.Sink.Sink c.args.talk.now image) (counts_now g.T.Conversation g.T.Sink.Sink c.loop-answered.talk image)
    (counts_now g.T.Conversation g.T.Sink.Sink c.serve_option.new.talk image) (c.loop-answered.invariant.counts image) (c.in-Ok-Violation.ensures.counts image)

pub returns-in-Ok-Violation-clause-asks : goal.returns-in-Ok-Violation-clause-asks
returns-in-Ok-Violation-clause-asks g c = λ first faults ready n b.
    asks_told first faults (export_of c.args.size c.args.reason.now) (n + c.loop-answered.answered) (IsState ready) (g.T.Conversation.left c.loop-answered.talk) (g.T.Sink.Sink.written (g.T.Conversation.report c.loop-answered.talk))
    (Options c.args.zeros) (c.loop-answered.invariant.between first faults ready n b) (g.T.Conversation.asked c.args.talk.now) (g.T.Conversation.asked c.loop-answered.talk) (g.T.Conversation.asked c.serve_option.new.talk)
    (c.loop-answered.invariant.asks first faults ready n b) c.serve_option.ensures.asks

pub returns-in-Err-clause-turn : goal.returns-in-Err-clause-turn
returns-in-Err-clause-turn g c = λ first faults ready n b. c.in-Err.ensures.turn first faults ready (n + c.loop-answered.answered) (c.loop-answered.invariant.between first faults ready n b)

pub returns-in-Err-clause-counts : goal.returns-in-Err-clause-counts
returns-in-Err-clause-counts g c = λ image.
    turn_then (counts_now g.T.Conversation g.T.Sink.Sink c.args.talk.now image) (counts_now g.T.Conversation g.T.Sink.Sink c.loop-answered.talk image)
    (counts_now g.T.Conversation g.T.Sink.Sink c.serve_option.new.talk image) (c.loop-answered.invariant.counts image) {X = NextPhase} (Err c.in-Err.status)
    (c.in-Err.ensures.counts image)

pub returns-in-Err-clause-asks : goal.returns-in-Err-clause-asks
returns-in-Err-clause-asks g c = λ first faults ready n b.
    asks_told first faults (export_of c.args.size c.args.reason.now) (n + c.loop-answered.answered) (IsState ready) (g.T.Conversation.left c.loop-answered.talk) (g.T.Sink.Sink.written (g.T.Conversation.report c.loop-answered.talk))
    (Options c.args.zeros) (c.loop-answered.invariant.between first faults ready n b) (g.T.Conversation.asked c.args.talk.now) (g.T.Conversation.asked c.loop-answered.talk) (g.T.Conversation.asked c.serve_option.new.talk)
    (c.loop-answered.invariant.asks first faults ready n b) c.serve_option.ensures.asks

pub loop-answered-preserved : goal.loop-answered-preserved
loop-answered-preserved g c = record {
  few = omega (arith, c.loop-answered-test.true);
  between = λ first faults ready n b.
      many_as first faults (export_of c.args.size c.args.reason.now) (n + c.loop-answered.answered + 1) (IsState ready) (g.T.Conversation.left c.serve_option.new.talk) (g.T.Sink.Sink.written (g.T.Conversation.report c.serve_option.new.talk))
      (Options c.args.zeros) (n + (c.loop-answered.answered + 1)) (omega arith)
      (subst (λ (p : NextPhase). InHandshake first faults (export_of c.args.size c.args.reason.now) ready (phase_after c.args.zeros p) (n + c.loop-answered.answered + 1)
      (g.T.Conversation.left c.serve_option.new.talk) (g.T.Sink.Sink.written (g.T.Conversation.report c.serve_option.new.talk))) c.in-Ok-Options.field-0-is
      (c.in-Ok-Options.ensures.turn first faults ready (n + c.loop-answered.answered) (c.loop-answered.invariant.between first faults ready n b)));
  counts = λ image.
      same_then (counts_now g.T.Conversation g.T.Sink.Sink c.args.talk.now image) (counts_now g.T.Conversation g.T.Sink.Sink c.loop-answered.talk image)
      (counts_now g.T.Conversation g.T.Sink.Sink c.serve_option.new.talk image) (c.loop-answered.invariant.counts image) (c.in-Ok-Options.ensures.counts image);
  asks = λ first faults ready n b.
      asks_told first faults (export_of c.args.size c.args.reason.now) (n + c.loop-answered.answered) (IsState ready) (g.T.Conversation.left c.loop-answered.talk) (g.T.Sink.Sink.written (g.T.Conversation.report c.loop-answered.talk))
      (Options c.args.zeros) (c.loop-answered.invariant.between first faults ready n b) (g.T.Conversation.asked c.args.talk.now) (g.T.Conversation.asked c.loop-answered.talk) (g.T.Conversation.asked c.serve_option.new.talk)
      (c.loop-answered.invariant.asks first faults ready n b) c.serve_option.ensures.asks;
  room = c.serve_option.ensures.room;
}

pub returns-clause-turn : goal.returns-clause-turn
returns-clause-turn g c = λ first faults ready n b.
    has_most first faults (export_of c.args.size c.args.reason.now) (n + c.loop-answered.answered) (IsState ready) (g.T.Conversation.left c.loop-answered.talk) (g.T.Sink.Sink.written (g.T.Conversation.report c.loop-answered.talk)) (Options c.args.zeros)
    (omega (arith, c.loop-answered-test.false)) (c.loop-answered.invariant.between first faults ready n b)
