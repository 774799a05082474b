use Rattle.std.proofs.Common.{arith, ◌+◌}
use Rattle.model_nbd.specs.Handshake.{Serving}
use Rattle.ram_machine.specs.Inserted.{Stands}
use Rattle.ram_session.specs.Talk.{Transmission}
use Rattle.ram_serve.specs.declared.messages.TheConstants.{MOST_MESSAGES}
use Rattle.ram_serve.proofs.Talked.{has_most}
use Rattle.ram_client.proofs.session.serve_disc.Goals as goal

pub returns-in-Ok-clause-ends : goal.returns-in-Ok-clause-ends
returns-in-Ok-clause-ends g c first faults n b =
    has_most first faults (Serving c.args.size) (n + MOST_MESSAGES) (Stands g.D.Caching g.D.Drive.lies_in g.D.Image.Image c.serve_requests.new.inserted)
    (g.T.Conversation.left c.serve_requests.new.talk) (g.T.Sink.Sink.written (g.T.Conversation.report c.serve_requests.new.talk)) Transmission (omega arith)
    (c.in-Ok.ensures.turn first faults n b).between

pub returns-in-Err-clause-ends : goal.returns-in-Err-clause-ends
returns-in-Err-clause-ends g c first faults n b = c.in-Err.ensures.turn first faults n b
