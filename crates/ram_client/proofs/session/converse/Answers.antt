use Rattle.std.proofs.Common.{refl}
use Rattle.ram_outside.proofs.Additions.{added_none}
use Rattle.ram_machine.specs.Inserted.{Stands, faults_of}
use Rattle.ram_session.specs.Session.{IsToldBy}
use Rattle.ram_serve.specs.Turns.{counts_now}
use Rattle.ram_client.proofs.Conversing.{opening_counts, session_then, ends_ungreeted, ends_greeted}
use Rattle.ram_client.proofs.Statuses.{is_of_session}
use Rattle.ram_client.proofs.session.converse.Goals as goal

pub returns-in-Ok-clause-other : goal.returns-in-Ok-clause-other
returns-in-Ok-clause-other g c =
    is_of_session (counts_now g.T.Conversation g.T.Sink.Sink c.args.talk.now (faults_of g.D.Caching g.D.Image.Image c.open_session.new.inserted)) (counts_now g.T.Conversation g.T.Sink.Sink c.serve_export.new.talk (faults_of g.D.Caching g.D.Image.Image c.serve_export.new.inserted))
    c.serve_export.result c.serve_export.ensures.counts

pub returns-in-Ok-clause-ends : goal.returns-in-Ok-clause-ends
returns-in-Ok-clause-ends g c first faults b =
    ends_greeted first faults (Stands g.D.Caching g.D.Drive.lies_in g.D.Image.Image c.serve_export.new.inserted)
    (g.T.Conversation.left c.serve_export.new.talk) (g.T.Sink.Sink.written (g.T.Conversation.report c.serve_export.new.talk)) c.serve_export.result
    (c.serve_export.ensures.ends first faults (c.in-Ok.ensures.rule first faults b.read b.start b.starts b.kind_is b.stands_start) b.before)

pub returns-in-Ok-clause-counts : goal.returns-in-Ok-clause-counts
returns-in-Ok-clause-counts g c =
    session_then (counts_now g.T.Conversation g.T.Sink.Sink c.args.talk.now (faults_of g.D.Caching g.D.Image.Image c.args.inserted.now)) (counts_now g.T.Conversation g.T.Sink.Sink c.args.talk.now (faults_of g.D.Caching g.D.Image.Image c.open_session.new.inserted))
    (counts_now g.T.Conversation g.T.Sink.Sink c.serve_export.new.talk (faults_of g.D.Caching g.D.Image.Image c.serve_export.new.inserted)) (record { source = refl; sink = refl; image = c.in-Ok.ensures.count })
    c.serve_export.result c.serve_export.ensures.counts

pub returns-in-Ok-clause-asks : goal.returns-in-Ok-clause-asks
returns-in-Ok-clause-asks g c first faults b =
    c.serve_export.ensures.asks first faults (c.in-Ok.ensures.rule first faults b.read b.start b.starts b.kind_is b.stands_start) b.before

pub returns-in-Err-clause-other : goal.returns-in-Err-clause-other
returns-in-Err-clause-other g c =
    is_of_session (counts_now g.T.Conversation g.T.Sink.Sink c.args.talk.now (faults_of g.D.Caching g.D.Image.Image c.args.inserted.now)) (counts_now g.T.Conversation g.T.Sink.Sink c.args.talk.now (faults_of g.D.Caching g.D.Image.Image c.open_session.new.inserted)) c.in-Err.status
    (opening_counts (g.T.Conversation.faults c.args.talk.now) (g.T.Sink.Sink.faults (g.T.Conversation.report c.args.talk.now))
    (faults_of g.D.Caching g.D.Image.Image c.args.inserted.now) (faults_of g.D.Caching g.D.Image.Image c.open_session.new.inserted) c.in-Err.status c.in-Err.ensures.count)

pub returns-in-Err-clause-ends : goal.returns-in-Err-clause-ends
returns-in-Err-clause-ends g c first faults b =
    ends_ungreeted first faults (Stands g.D.Caching g.D.Drive.lies_in g.D.Image.Image c.open_session.new.inserted)
    (g.T.Conversation.left c.args.talk.now) (g.T.Sink.Sink.written (g.T.Conversation.report c.args.talk.now)) b.before c.in-Err.status
    (c.in-Err.ensures.rule first faults b.read b.start b.starts b.kind_is b.stands_start)

pub returns-in-Err-clause-counts : goal.returns-in-Err-clause-counts
returns-in-Err-clause-counts g c =
    opening_counts (g.T.Conversation.faults c.args.talk.now) (g.T.Sink.Sink.faults (g.T.Conversation.report c.args.talk.now))
    (faults_of g.D.Caching g.D.Image.Image c.args.inserted.now) (faults_of g.D.Caching g.D.Image.Image c.open_session.new.inserted) c.in-Err.status c.in-Err.ensures.count

pub returns-in-Err-clause-asks : goal.returns-in-Err-clause-asks
returns-in-Err-clause-asks g c first faults b = added_none (IsToldBy first faults) (g.T.Conversation.asked c.args.talk.now)
