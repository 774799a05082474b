use Rattle.std.proofs.Common.{refl}
use Rattle.ram_text.specs.Dialogue.{reader_of, talk_of}
use Rattle.ram_script.specs.Progress.{run_view}
use Rattle.ram_script.proofs.LinesTaken.{takes_line, stops_unread}
use Rattle.ram_script.proofs.state.take_line.Goals as goal

pub returns-in-Ok-clause-next : goal.returns-in-Ok-clause-next
returns-in-Ok-clause-next g c first far at =
    let looks = rw c.in-Ok-Line.field-0-is at c.in-Ok-Line.ensures.rule in
    takes_line first far (run_view g.T.Conversation g.T.Sink.Sink c.args.dialogue.now c.args.state.now.tally) (run_view g.T.Conversation g.T.Sink.Sink c.next_line.new.self c.args.state.now.tally)
    at looks.due refl
    (reader_of c.next_line.new.self).line (g.T.Conversation.faults (talk_of c.args.dialogue.now)) (g.T.Conversation.faults (talk_of c.next_line.new.self)) looks.rule
    c.in-Ok.line c.parse_line.new.payload.items (rw c.line.ensures at c.in-Ok.ensures.read)

pub returns-in-Err-parse_line-clause-next : goal.returns-in-Err-parse_line-clause-next
returns-in-Err-parse_line-clause-next g c first far at =
    let looks = rw c.in-Ok-Line.field-0-is at c.in-Ok-Line.ensures.rule in (
      stops_unread first far (run_view g.T.Conversation g.T.Sink.Sink c.args.dialogue.now c.args.state.now.tally) (run_view g.T.Conversation g.T.Sink.Sink c.next_line.new.self c.args.state.now.tally)
          at looks.due refl
          (reader_of c.next_line.new.self).line (g.T.Conversation.faults (talk_of c.args.dialogue.now)) (g.T.Conversation.faults (talk_of c.next_line.new.self)) looks.rule
          (rw c.line.ensures at c.in-Err-parse_line.ensures.read.0),
      tt,
    )
