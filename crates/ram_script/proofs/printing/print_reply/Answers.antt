-- The text of an event does not depend on the bytes of a command.
use Rattle.std.proofs.Common.{subst}
use Rattle.std.specs.Prelude.{ℕ, List}
use Rattle.ram_text.specs.Dialogue.{Tells}
use Rattle.ram_script.proofs.Told.{event_told}
use Rattle.ram_script.proofs.printing.print_reply.Goals as goal

pub returns-in-Event : goal.returns-in-Event
returns-in-Event g c = rw c.in-Event.is
    (subst (λ (text : List ℕ). Tells g.T.Conversation g.T.Sink.Sink c.args.dialogue.now c.print_event.new.self text c.print_event.result)
    (event_told c.args.number c.in-Event.event c.args.data_in.now c.args.found.now) c.print_event.ensures)
