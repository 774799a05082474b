use Rattle.std.proofs.Common.{◌∙◌, refl}
use Rattle.ram_outside.proofs.Additions.{added_none}
use Rattle.ram_script.specs.Asking.{IsAnsweredBy}
use Rattle.ram_text.specs.Dialogue.{due_in, gathered_of, shown_of, sink_of, talk_of}
use Rattle.ram_machine.specs.Inserted.{Stands, faults_of}
use Rattle.ram_script.specs.Progress.{run_view}
use Rattle.ram_script.specs.RunCounts.{counts_of, counts_with}
use Rattle.ram_script.proofs.CountsRise.{behind, status_counts}
use Rattle.ram_script.proofs.Finishes.{begins, due_known, left_by, where_known}
use Rattle.ram_script.proofs.serve.serve.Goals as goal

pub returns-clause-leaves : goal.returns-clause-leaves
returns-clause-leaves g c first kind b =
    let ended = shown_of g.T.Conversation g.T.Sink.Sink c.serve_lines-inserted.new.dialogue in
    let finished = shown_of g.T.Conversation g.T.Sink.Sink c.finish-status.new.dialogue in
    rw (c.finish-status.ensures.nothing.left, c.finish-status.ensures.nothing.faults) (left_by first (Stands g.D.Caching g.D.Drive.lies_in g.D.Image.Image c.serve_lines-inserted.result.0) (g.D.Image.Image.bytes c.into_parts-image.result.0) c.into_parts-image.ensures.left
    (run_view g.T.Conversation g.T.Sink.Sink c.serve_lines-inserted.new.dialogue c.serve_lines-inserted.new.state.tally)
    (c.serve_lines-inserted.ensures.known ∙ due_known (g.T.Sink.Sink.written (sink_of g.T.Conversation c.args.dialogue.now)) (gathered_of c.args.dialogue.now) first.report b.written_is)
    ended finished refl
    (counts_with g.T.Conversation g.T.Sink.Sink c.args.dialogue.now (g.D.Image.Image.faults c.args.image)) (counts_of (g.T.Conversation.faults (talk_of c.serve_lines-inserted.new.dialogue)) (g.T.Sink.Sink.faults (sink_of g.T.Conversation c.finish-status.new.dialogue)) (g.D.Image.Image.faults c.into_parts-image.result.0))
    c.serve_lines-inserted.result.1
    (λ cause. rw c.into_parts-image.ensures.count
    (behind (g.T.Conversation.faults (talk_of c.args.dialogue.now)) (g.T.Conversation.faults (talk_of c.serve_lines-inserted.new.dialogue))
    (g.T.Sink.Sink.faults (sink_of g.T.Conversation c.args.dialogue.now)) ended.faults finished.faults
    (g.D.Image.Image.faults c.args.image) (faults_of g.D.Caching g.D.Image.Image c.serve_lines-inserted.result.0)
    (due_in g.T.Conversation g.T.Sink.Sink c.serve_lines-inserted.new.dialogue) ended.written finished.written ended.refused finished.refused
    c.serve_lines-inserted.new.state.tally c.serve_lines-inserted.result.1 (rw c.in-Ok.ensures.1 at c.serve_lines-inserted.ensures.counts) cause))
    c.finish-status.result
    (c.serve_lines-inserted.ensures.ends first
    (begins g.T.Conversation g.T.Sink.Sink first c.args.rooms.drive.kind (Stands g.D.Caching g.D.Drive.lies_in g.D.Image.Image c.in-Ok.inserted) c.args.dialogue.now c.args.state.now kind c.requires.fresh c.requires.empty b.left_is (where_known (g.T.Sink.Sink.written (sink_of g.T.Conversation c.args.dialogue.now)) first.report b.written_is)
    (c.in-Ok.ensures.0 first.image b.image_is)))
    c.finish-status.ensures.rule)

pub returns-clause-counts : goal.returns-clause-counts
returns-clause-counts g c =
    rw (c.into_parts-image.ensures.count, c.finish-status.ensures.nothing.faults)
    (status_counts (g.T.Conversation.faults (talk_of c.args.dialogue.now)) (g.T.Conversation.faults (talk_of c.serve_lines-inserted.new.dialogue))
    (g.T.Sink.Sink.faults (sink_of g.T.Conversation c.args.dialogue.now)) (g.T.Sink.Sink.faults (sink_of g.T.Conversation c.serve_lines-inserted.new.dialogue)) (g.T.Sink.Sink.faults (sink_of g.T.Conversation c.finish-status.new.dialogue))
    (g.D.Image.Image.faults c.args.image) (faults_of g.D.Caching g.D.Image.Image c.serve_lines-inserted.result.0)
    (due_in g.T.Conversation g.T.Sink.Sink c.serve_lines-inserted.new.dialogue) (g.T.Sink.Sink.written (sink_of g.T.Conversation c.serve_lines-inserted.new.dialogue)) (g.T.Sink.Sink.written (sink_of g.T.Conversation c.finish-status.new.dialogue))
    (g.T.Sink.Sink.refused (sink_of g.T.Conversation c.serve_lines-inserted.new.dialogue)) (g.T.Sink.Sink.refused (sink_of g.T.Conversation c.finish-status.new.dialogue))
    c.serve_lines-inserted.new.state.tally c.serve_lines-inserted.result.1 c.finish-status.result (rw c.in-Ok.ensures.1 at c.serve_lines-inserted.ensures.counts) c.finish-status.ensures.rule)

pub returns-clause-asks : goal.returns-clause-asks
returns-clause-asks g c first kind b =
    rw c.finish-status.ensures.nothing.asked
    (c.serve_lines-inserted.ensures.asks first
    (begins g.T.Conversation g.T.Sink.Sink first c.args.rooms.drive.kind (Stands g.D.Caching g.D.Drive.lies_in g.D.Image.Image c.in-Ok.inserted) c.args.dialogue.now c.args.state.now kind c.requires.fresh c.requires.empty b.left_is (where_known (g.T.Sink.Sink.written (sink_of g.T.Conversation c.args.dialogue.now)) first.report b.written_is)
    (c.in-Ok.ensures.0 first.image b.image_is))
    (due_known (g.T.Sink.Sink.written (sink_of g.T.Conversation c.args.dialogue.now)) (gathered_of c.args.dialogue.now) first.report b.written_is))

pub returns-in-Err-clause-asks : goal.returns-in-Err-clause-asks
returns-in-Err-clause-asks g c first kind b = added_none (IsAnsweredBy first) (g.T.Conversation.asked (talk_of c.args.dialogue.now))
