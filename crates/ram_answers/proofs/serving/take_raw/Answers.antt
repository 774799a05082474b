-- The next line follows the lines so far.
use Rattle.std.proofs.Common.{refl}
use Rattle.ram_text.specs.Dialogue.{reader_of, talk_of}
use Rattle.ram_script.specs.Progress.{run_view}
use Rattle.ram_answers.proofs.RawLines.{takes_raw}
use Rattle.ram_answers.proofs.serving.take_raw.Goals as goal

pub returns-in-Ok-Line-clause-next : goal.returns-in-Ok-Line-clause-next
returns-in-Ok-Line-clause-next g c first now far at =
    let looks = rw c.in-Ok-Line.field-0-is at c.in-Ok-Line.ensures.rule in
    takes_raw g.A.Answers first now far (run_view g.T.Conversation g.T.Sink.Sink c.args.dialogue.now c.args.tally) (run_view g.T.Conversation g.T.Sink.Sink c.next_line.new.self c.args.tally)
    at looks.due (reader_of c.next_line.new.self).line (g.T.Conversation.faults (talk_of c.args.dialogue.now)) (g.T.Conversation.faults (talk_of c.next_line.new.self)) refl looks.rule
