-- What one line makes of the lines so far.
use Rattle.std.proofs.Common.{ap}
use Rattle.ram_text.specs.Lines.{Reading}
use Rattle.ram_text.specs.Dialogue.{reader_of}
use Rattle.ram_script.specs.Progress.{run_view}
use Rattle.ram_answers.proofs.OneMore.{goes_on, cut_off, ends_in_line}
use Rattle.ram_answers.proofs.serving.answer_raw.Goals as goal

pub returns-in-Err-clause-turn : goal.returns-in-Err-clause-turn
returns-in-Err-clause-turn g c first far t =
    ends_in_line g.A.Answers first c.args.answers.now c.answer.new.self far (run_view g.T.Conversation g.T.Sink.Sink c.args.dialogue.now c.args.tally.now)
    (reader_of c.args.dialogue.now).line t c.in-Err.stopped _ _ c.in-Err.ensures.count (rw c.line.ensures at c.in-Err.ensures.answered)

pub returns-in-Failed-clause-turn : goal.returns-in-Failed-clause-turn
returns-in-Failed-clause-turn g c first far t =
    cut_off g.A.Answers first c.args.answers.now c.answer.new.self far (run_view g.T.Conversation g.T.Sink.Sink c.args.dialogue.now c.args.tally.now)
    (reader_of c.args.dialogue.now).line t (run_view g.T.Conversation g.T.Sink.Sink c.print.new.dialogue c.args.tally.now) c.in-Ok.reply _ _
    (rw c.line.ensures at c.in-Ok.ensures.answered) c.in-Failed.ensures.prints

pub returns-clause-turn : goal.returns-clause-turn
returns-clause-turn g c first far t =
    goes_on g.A.Answers first c.args.answers.now c.answer.new.self far (run_view g.T.Conversation g.T.Sink.Sink c.args.dialogue.now c.args.tally.now)
    (reader_of c.args.dialogue.now).line t (run_view g.T.Conversation g.T.Sink.Sink c.print.new.dialogue c.count_line.new.tally) c.in-Ok.reply
    (rw c.line.ensures at c.in-Ok.ensures.answered)
    (ap (λ (r : Reading). r.buffered) c.in-Done.ensures.nothing.reading) c.in-Done.ensures.nothing.left (ap (λ (r : Reading). r.taken) c.in-Done.ensures.nothing.reading)
    c.in-Done.ensures.prints.grew c.count_line.ensures.lines (rw c.has_answer.ensures at c.count_line.ensures.answered)
