use Rattle.std.proofs.Common.{refl}
use Rattle.ram_text.specs.Dialogue.{due_in, gathered_of, shown_of, sink_of}
use Rattle.ram_script.proofs.Finishes.{failed_at_last, failed_at_flush}
use Rattle.ram_script.proofs.ending.finish.Goals as goal

pub returns-in-Failed-clause-rule : goal.returns-in-Failed-clause-rule
returns-in-Failed-clause-rule g c =
    failed_at_last (due_in g.T.Conversation g.T.Sink.Sink c.args.dialogue.now) (due_in g.T.Conversation g.T.Sink.Sink c.print_ending.new.dialogue)
    (g.T.Sink.Sink.written (sink_of g.T.Conversation c.args.dialogue.now)) (g.T.Sink.Sink.written (sink_of g.T.Conversation c.print_ending.new.dialogue))
    (g.T.Sink.Sink.refused (sink_of g.T.Conversation c.args.dialogue.now)) (g.T.Sink.Sink.refused (sink_of g.T.Conversation c.print_ending.new.dialogue)) (gathered_of c.print_ending.new.dialogue)
    (g.T.Sink.Sink.faults (sink_of g.T.Conversation c.args.dialogue.now)) (g.T.Sink.Sink.faults (sink_of g.T.Conversation c.print_ending.new.dialogue)) c.args.tally refl c.print_ending.new.dialogue.room.now.writer.few c.args.ending c.in-Failed.ensures.rule

pub returns-in-Failed-flush-clause-rule : goal.returns-in-Failed-flush-clause-rule
returns-in-Failed-flush-clause-rule g c =
    let flushes = c.in-Failed-flush.ensures.rule in
    failed_at_flush (due_in g.T.Conversation g.T.Sink.Sink c.args.dialogue.now) (due_in g.T.Conversation g.T.Sink.Sink c.print_ending.new.dialogue)
    (shown_of g.T.Conversation g.T.Sink.Sink c.args.dialogue.now) (shown_of g.T.Conversation g.T.Sink.Sink c.print_ending.new.dialogue) c.args.tally
    (due_in g.T.Conversation g.T.Sink.Sink c.flush.new.self) (shown_of g.T.Conversation g.T.Sink.Sink c.flush.new.self) (gathered_of c.flush.new.self)
    refl c.flush.new.self.room.now.writer.few c.args.ending c.in-Done.ensures.rule flushes.0 flushes.1 flushes.2
