use Rattle.std.proofs.Common.{ℕ, List, map}
use Rattle.std.specs.Borrow.{Bor}
use Rattle.ram_outside.proofs.Additions.{added_none}
use Rattle.ram_machine.specs.Inserted.{Stands}
use Rattle.ram_script.specs.Endings.{aftermath}
use Rattle.ram_session.specs.Session.{IsToldBy}
use Rattle.ram_client.proofs.Conversing.{to_begin, session_left, unopened}
use Rattle.ram_client.proofs.session.serve_client.Goals as goal

pub returns-clause-leaves : goal.returns-clause-leaves
returns-clause-leaves g c first faults is read begins =
    session_left first faults (aftermath (g.T.Conversation.left c.converse-status.new.talk) (g.T.Sink.Sink.written (g.T.Conversation.report c.converse-status.new.talk)) (g.T.Sink.Sink.refused (g.T.Conversation.report c.converse-status.new.talk)) (g.D.Image.Image.bytes c.into_parts-image.result.0))
    (Stands g.D.Caching g.D.Drive.lies_in g.D.Image.Image c.converse-status.new.inserted) c.into_parts-image.ensures.left c.converse-status.result
    (c.converse-status.ensures.ends first faults
    (to_begin first faults (map (λ (word : Bor (List ℕ)). word.now) c.args.words.now) c.args.rooms.target.drive.kind (Stands g.D.Caching g.D.Drive.lies_in g.D.Image.Image c.in-Ok.inserted)
    (g.T.Conversation.left c.args.talk.now) (g.T.Sink.Sink.written (g.T.Conversation.report c.args.talk.now)) (g.D.Image.Image.bytes c.args.image) is read begins
    (c.in-Ok.ensures.0 first.image begins.image_is)))

pub returns-clause-asks : goal.returns-clause-asks
returns-clause-asks g c first faults is read begins =
    c.converse-status.ensures.asks first faults
    (to_begin first faults (map (λ (word : Bor (List ℕ)). word.now) c.args.words.now) c.args.rooms.target.drive.kind (Stands g.D.Caching g.D.Drive.lies_in g.D.Image.Image c.in-Ok.inserted)
    (g.T.Conversation.left c.args.talk.now) (g.T.Sink.Sink.written (g.T.Conversation.report c.args.talk.now)) (g.D.Image.Image.bytes c.args.image) is read begins
    (c.in-Ok.ensures.0 first.image begins.image_is))

pub returns-clause-counts : goal.returns-clause-counts
returns-clause-counts g c = rw c.into_parts-image.ensures.count (rw c.in-Ok.ensures.1 at c.converse-status.ensures.counts)

pub returns-in-Err-clause-leaves : goal.returns-in-Err-clause-leaves
returns-in-Err-clause-leaves g c first faults is read begins =
    unopened first faults (aftermath (g.T.Conversation.left c.args.talk.now) (g.T.Sink.Sink.written (g.T.Conversation.report c.args.talk.now)) (g.T.Sink.Sink.refused (g.T.Conversation.report c.args.talk.now)) (g.D.Image.Image.bytes c.in-Err.image))
    (g.D.Image.Image.bytes c.args.image) begins c.in-Err.ensures.0

pub returns-in-Err-clause-asks : goal.returns-in-Err-clause-asks
returns-in-Err-clause-asks g c first faults is read begins = added_none (IsToldBy first faults) (g.T.Conversation.asked c.args.talk.now)
