use Rattle.ram_nbd.specs.Replies.{export_of}
use Rattle.ram_outside.proofs.Additions.{added_then}
use Rattle.ram_session.specs.Session.{IsToldBy}
use Rattle.ram_serve.specs.Turns.{counts_now}
use Rattle.ram_serve.proofs.Counted.{turn_then}
use Rattle.ram_serve.proofs.handshake.shake_hands.Goals as goal

pub returns-in-Ok-clause-turn : goal.returns-in-Ok-clause-turn
returns-in-Ok-clause-turn g c = λ first faults ready u.
    c.choose_options.ensures.turn first faults ready 1 (c.in-Ok.ensures.turn first faults (export_of c.args.size c.args.reason.now) ready u)

pub returns-in-Ok-clause-counts : goal.returns-in-Ok-clause-counts
returns-in-Ok-clause-counts g c = λ image.
    turn_then (counts_now g.T.Conversation g.T.Sink.Sink c.args.talk.now image) (counts_now g.T.Conversation g.T.Sink.Sink c.greet.new.talk image)
    (counts_now g.T.Conversation g.T.Sink.Sink c.choose_options.new.talk image) (c.in-Ok.ensures.counts image) c.choose_options.result
    (c.choose_options.ensures.counts image)

pub returns-in-Ok-clause-asks : goal.returns-in-Ok-clause-asks
returns-in-Ok-clause-asks g c = λ first faults ready u.
    added_then (IsToldBy first faults) (g.T.Conversation.asked c.args.talk.now) (g.T.Conversation.asked c.greet.new.talk) (g.T.Conversation.asked c.choose_options.new.talk)
    (c.in-Ok.ensures.asks first faults (export_of c.args.size c.args.reason.now) ready u)
    (c.choose_options.ensures.asks first faults ready 1 (c.in-Ok.ensures.turn first faults (export_of c.args.size c.args.reason.now) ready u))

pub returns-in-Err-clause-turn : goal.returns-in-Err-clause-turn
returns-in-Err-clause-turn g c = λ first faults ready u. c.in-Err.ensures.turn first faults (export_of c.args.size c.args.reason.now) ready u

pub returns-in-Err-clause-asks : goal.returns-in-Err-clause-asks
returns-in-Err-clause-asks g c = λ first faults ready u. c.in-Err.ensures.asks first faults (export_of c.args.size c.args.reason.now) ready u
