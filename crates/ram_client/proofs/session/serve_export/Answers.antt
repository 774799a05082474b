use Rattle.std.proofs.Common.{sym, ◌∙◌}
use Rattle.ram_outside.proofs.Additions.{added_then}
use Rattle.ram_machine.specs.Inserted.{Stands, faults_of}
use Rattle.ram_session.specs.Session.{IsToldBy}
use Rattle.ram_serve.specs.Turns.{counts_now}
use Rattle.ram_client.proofs.Conversing.{session_then, to_be_greeted, requests_follow, ends_shaking}
use Rattle.ram_client.proofs.session.serve_export.Goals as goal

pub returns-in-Some-clause-ends : goal.returns-in-Some-clause-ends
returns-in-Some-clause-ends g c first faults opens before =
    c.serve_disc.ensures.ends first faults 2
    (requests_follow first faults (Stands g.D.Caching g.D.Drive.lies_in g.D.Image.Image c.args.inserted.now)
    (g.T.Conversation.left c.shake_hands.new.talk) (g.T.Sink.Sink.written (g.T.Conversation.report c.shake_hands.new.talk)) c.args.export opens
    c.size.result c.reason.result.now c.size.ensures c.reason.ensures.text c.in-Some.size 2
    (sym c.in-Some.is ∙ c.size-in-Ok.ensures ∙ sym c.size.ensures)
    (c.in-Ok.ensures.turn first faults opens.opened.ready
    (to_be_greeted first faults (Stands g.D.Caching g.D.Drive.lies_in g.D.Image.Image c.args.inserted.now)
    (g.T.Conversation.left c.args.talk.now) (g.T.Sink.Sink.written (g.T.Conversation.report c.args.talk.now)) c.args.export opens
    c.size.result c.reason.result.now c.size.ensures c.reason.ensures.text before)))

pub returns-in-Some-clause-counts : goal.returns-in-Some-clause-counts
returns-in-Some-clause-counts g c =
    session_then (counts_now g.T.Conversation g.T.Sink.Sink c.args.talk.now (faults_of g.D.Caching g.D.Image.Image c.args.inserted.now)) (counts_now g.T.Conversation g.T.Sink.Sink c.shake_hands.new.talk (faults_of g.D.Caching g.D.Image.Image c.args.inserted.now))
    (counts_now g.T.Conversation g.T.Sink.Sink c.serve_disc.new.talk (faults_of g.D.Caching g.D.Image.Image c.serve_disc.new.inserted)) (c.in-Ok.ensures.counts (faults_of g.D.Caching g.D.Image.Image c.args.inserted.now))
    c.serve_disc.result c.serve_disc.ensures.counts

pub returns-in-Some-clause-asks : goal.returns-in-Some-clause-asks
returns-in-Some-clause-asks g c first faults opens before =
    added_then (IsToldBy first faults) (g.T.Conversation.asked c.args.talk.now) (g.T.Conversation.asked c.shake_hands.new.talk) (g.T.Conversation.asked c.serve_disc.new.talk)
    (c.in-Ok.ensures.asks first faults opens.opened.ready
    (to_be_greeted first faults (Stands g.D.Caching g.D.Drive.lies_in g.D.Image.Image c.args.inserted.now)
    (g.T.Conversation.left c.args.talk.now) (g.T.Sink.Sink.written (g.T.Conversation.report c.args.talk.now)) c.args.export opens
    c.size.result c.reason.result.now c.size.ensures c.reason.ensures.text before))
    (c.serve_disc.ensures.asks first faults 2
    (requests_follow first faults (Stands g.D.Caching g.D.Drive.lies_in g.D.Image.Image c.args.inserted.now)
    (g.T.Conversation.left c.shake_hands.new.talk) (g.T.Sink.Sink.written (g.T.Conversation.report c.shake_hands.new.talk)) c.args.export opens
    c.size.result c.reason.result.now c.size.ensures c.reason.ensures.text c.in-Some.size 2
    (sym c.in-Some.is ∙ c.size-in-Ok.ensures ∙ sym c.size.ensures)
    (c.in-Ok.ensures.turn first faults opens.opened.ready
    (to_be_greeted first faults (Stands g.D.Caching g.D.Drive.lies_in g.D.Image.Image c.args.inserted.now)
    (g.T.Conversation.left c.args.talk.now) (g.T.Sink.Sink.written (g.T.Conversation.report c.args.talk.now)) c.args.export opens
    c.size.result c.reason.result.now c.size.ensures c.reason.ensures.text before))))

pub returns-in-Err-clause-ends : goal.returns-in-Err-clause-ends
returns-in-Err-clause-ends g c first faults opens before =
    ends_shaking first faults (Stands g.D.Caching g.D.Drive.lies_in g.D.Image.Image c.args.inserted.now)
    (g.T.Conversation.left c.shake_hands.new.talk) (g.T.Sink.Sink.written (g.T.Conversation.report c.shake_hands.new.talk)) opens.opened.ready opens.stands_ready c.in-Err.status
    (c.in-Err.ensures.turn first faults opens.opened.ready
    (to_be_greeted first faults (Stands g.D.Caching g.D.Drive.lies_in g.D.Image.Image c.args.inserted.now)
    (g.T.Conversation.left c.args.talk.now) (g.T.Sink.Sink.written (g.T.Conversation.report c.args.talk.now)) c.args.export opens
    c.size.result c.reason.result.now c.size.ensures c.reason.ensures.text before))

pub returns-in-Err-clause-counts : goal.returns-in-Err-clause-counts
returns-in-Err-clause-counts g c = c.in-Err.ensures.counts (faults_of g.D.Caching g.D.Image.Image c.args.inserted.now)

pub returns-in-Err-clause-asks : goal.returns-in-Err-clause-asks
returns-in-Err-clause-asks g c first faults opens before =
    c.in-Err.ensures.asks first faults opens.opened.ready
    (to_be_greeted first faults (Stands g.D.Caching g.D.Drive.lies_in g.D.Image.Image c.args.inserted.now)
    (g.T.Conversation.left c.args.talk.now) (g.T.Sink.Sink.written (g.T.Conversation.report c.args.talk.now)) c.args.export opens
    c.size.result c.reason.result.now c.size.ensures c.reason.ensures.text before)
