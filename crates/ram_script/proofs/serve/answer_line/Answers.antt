use Rattle.ram_machine.specs.Inserted.{Stands, faults_of, found_in}
use Rattle.ram_machine.specs.Replies.{data_told}
use Rattle.ram_script.specs.Progress.{run_view}
use Rattle.ram_script.proofs.Turns.{answered_line}
use Rattle.ram_script.proofs.serve.answer_line.Goals as goal

pub returns-clause-turn : goal.returns-clause-turn
returns-clause-turn g c first far stands t =
    answered_line first far (run_view g.T.Conversation g.T.Sink.Sink c.args.dialogue.now c.args.state.now.tally) c.args.line c.args.state.now.payload.items t
    (Stands g.D.Caching g.D.Drive.lies_in g.D.Image.Image c.answer-outcome.new.self)
    (data_told c.answer-outcome.result c.answer-outcome.new.data_in.items (found_in c.answer-outcome.new.self))
    (run_view g.T.Conversation g.T.Sink.Sink c.tell.new.dialogue c.tell.new.state.tally)
    (faults_of g.D.Caching g.D.Image.Image c.args.inserted.now) (faults_of g.D.Caching g.D.Image.Image c.answer-outcome.new.self) c.answer-outcome.result c.tell.result
    (rw c.deref.ensures.value at (c.answer-outcome.ensures.step far.now stands)) c.answer-outcome.ensures.count (rw c.found.ensures at c.tell.ensures.tells)
