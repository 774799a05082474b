use Rattle.std.proofs.Common.{refl, ap, ◌∙◌}
use Rattle.ram_nbd.specs.Replies.{export_of}
use Rattle.ram_session.specs.Talk.{Options}
use Rattle.ram_serve.specs.Handshakes.{IsState}
use Rattle.ram_serve.proofs.Counted.{untaken_counts, untold_counts}
use Rattle.ram_serve.proofs.Talked.{ends_untaken}
use Rattle.ram_serve.proofs.Shaken.{option_told, option_answer_cut}
use Rattle.ram_serve.proofs.handshake.serve_option.Goals as goal

pub returns-in-Err-clause-turn : goal.returns-in-Err-clause-turn
returns-in-Err-clause-turn g c = λ first faults ready n b.
    ends_untaken first faults (export_of c.args.size c.args.reason.now) (Options c.args.zeros) n (IsState ready)
    (g.T.Conversation.left c.args.talk.now) (g.T.Conversation.left c.take_option.new.talk) (g.T.Sink.Sink.written (g.T.Conversation.report c.args.talk.now)) b tt (g.T.Conversation.faults c.args.talk.now) (g.T.Conversation.faults c.take_option.new.talk) c.in-Err.status (g.T.Sink.Sink.written (g.T.Conversation.report c.take_option.new.talk))
    (ap (λ sink. g.T.Sink.Sink.written sink) c.in-Err.ensures.same) (c.in-Err.ensures.rule c.args.zeros)

pub returns-in-Err-clause-counts : goal.returns-in-Err-clause-counts
returns-in-Err-clause-counts g c = λ image.
    untaken_counts (Options c.args.zeros) (g.T.Conversation.left c.args.talk.now) (g.T.Conversation.left c.take_option.new.talk) (g.T.Conversation.faults c.args.talk.now) (g.T.Conversation.faults c.take_option.new.talk) (g.T.Sink.Sink.faults (g.T.Conversation.report c.args.talk.now)) (g.T.Sink.Sink.faults (g.T.Conversation.report c.take_option.new.talk)) image c.in-Err.status
    (ap (λ sink. g.T.Sink.Sink.faults sink) c.in-Err.ensures.same) (c.in-Err.ensures.rule c.args.zeros)

pub returns-in-Ok-tell-clause-turn : goal.returns-in-Ok-tell-clause-turn
returns-in-Ok-tell-clause-turn g c = λ first faults ready n b.
    option_told first faults (export_of c.args.size c.args.reason.now) ready c.args.zeros n (g.T.Conversation.left c.args.talk.now) (g.T.Conversation.left c.take_option.new.talk) (g.T.Sink.Sink.written (g.T.Conversation.report c.args.talk.now)) (g.T.Sink.Sink.written (g.T.Conversation.report c.tell.new.talk)) b (g.T.Conversation.faults c.args.talk.now) (g.T.Conversation.faults c.take_option.new.talk)
    c.take_option.new.room.items c.in-Ok.head (c.in-Ok.ensures.rule c.args.zeros) c.answer_head-next.new.rooms.answer.items c.answer_head-next.result
    c.answer_head-next.ensures.answer (g.T.Sink.Sink.written (g.T.Conversation.report c.take_option.new.talk)) (g.T.Conversation.left c.tell.new.talk) c.as_slice.result.now (ap (λ sink. g.T.Sink.Sink.written sink) c.in-Ok.ensures.same) c.in-Ok-tell.ensures.same_left c.as_slice.ensures.value c.in-Ok-tell.ensures.rule.0

pub returns-in-Ok-tell-clause-counts : goal.returns-in-Ok-tell-clause-counts
returns-in-Ok-tell-clause-counts g c = λ image. record {
  source = c.in-Ok-tell.ensures.same_faults ∙ (c.in-Ok.ensures.rule c.args.zeros).count;
  sink = c.in-Ok-tell.ensures.rule.1 ∙ ap (λ sink. g.T.Sink.Sink.faults sink) c.in-Ok.ensures.same;
  image = refl;
}

pub returns-in-Err-tell-clause-turn : goal.returns-in-Err-tell-clause-turn
returns-in-Err-tell-clause-turn g c = λ first faults ready n b.
    option_answer_cut first faults (export_of c.args.size c.args.reason.now) ready c.args.zeros n (g.T.Conversation.left c.args.talk.now) (g.T.Conversation.left c.take_option.new.talk) (g.T.Sink.Sink.written (g.T.Conversation.report c.args.talk.now)) (g.T.Sink.Sink.written (g.T.Conversation.report c.tell.new.talk)) b (g.T.Conversation.faults c.args.talk.now) (g.T.Conversation.faults c.take_option.new.talk)
    c.take_option.new.room.items c.in-Ok.head (c.in-Ok.ensures.rule c.args.zeros) c.answer_head-next.new.rooms.answer.items c.answer_head-next.result
    c.answer_head-next.ensures.answer (g.T.Sink.Sink.written (g.T.Conversation.report c.take_option.new.talk)) (g.T.Conversation.left c.tell.new.talk) c.as_slice.result.now (ap (λ sink. g.T.Sink.Sink.written sink) c.in-Ok.ensures.same) c.in-Err-tell.ensures.same_left c.as_slice.ensures.value (g.T.Sink.Sink.faults (g.T.Conversation.report c.take_option.new.talk)) (g.T.Sink.Sink.faults (g.T.Conversation.report c.tell.new.talk)) c.in-Err-tell.status
    c.in-Err-tell.ensures.rule

pub returns-in-Err-tell-clause-counts : goal.returns-in-Err-tell-clause-counts
returns-in-Err-tell-clause-counts g c = λ image.
    untold_counts (g.T.Sink.Sink.written (g.T.Conversation.report c.take_option.new.talk)) (g.T.Sink.Sink.written (g.T.Conversation.report c.tell.new.talk)) c.as_slice.result.now (g.T.Conversation.faults c.args.talk.now) (g.T.Conversation.faults c.tell.new.talk) (g.T.Sink.Sink.faults (g.T.Conversation.report c.args.talk.now)) (g.T.Sink.Sink.faults (g.T.Conversation.report c.take_option.new.talk)) (g.T.Sink.Sink.faults (g.T.Conversation.report c.tell.new.talk)) image c.in-Err-tell.status
    (c.in-Err-tell.ensures.same_faults ∙ (c.in-Ok.ensures.rule c.args.zeros).count) (ap (λ sink. g.T.Sink.Sink.faults sink) c.in-Ok.ensures.same)
    c.in-Err-tell.ensures.rule
