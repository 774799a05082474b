-- The script's lines were answered, and then the report is ended.
use Rattle.std.proofs.Common.{◌∙◌, refl}
use Rattle.ram_text.specs.Dialogue.{due_in, gathered_of, shown_of, sink_of, talk_of}
use Rattle.ram_script.specs.Progress.{run_view}
use Rattle.ram_script.specs.RunCounts.{counts_of, counts_with}
use Rattle.ram_script.proofs.CountsRise.{behind, status_counts}
use Rattle.ram_script.proofs.Finishes.{due_known}
use Rattle.ram_answers.proofs.Finished.{begins_texts, told_by}
use Rattle.ram_answers.proofs.serving.serve_script.Goals as goal

pub returns-clause-told : goal.returns-clause-told
returns-clause-told g c first b =
    let ended = shown_of g.T.Conversation g.T.Sink.Sink c.answer_all-ending.new.dialogue in
    let finished = shown_of g.T.Conversation g.T.Sink.Sink c.finish.new.dialogue in
    rw (c.finish.ensures.nothing.left, c.finish.ensures.nothing.faults) (told_by g.A.Answers first c.answer_all-ending.new.answers
    (run_view g.T.Conversation g.T.Sink.Sink c.answer_all-ending.new.dialogue c.answer_all-ending.new.tally)
    (c.answer_all-ending.ensures.known ∙ due_known (g.T.Sink.Sink.written (sink_of g.T.Conversation c.args.dialogue.now)) (gathered_of c.args.dialogue.now) first.report b.written_is)
    ended finished refl
    (counts_with g.T.Conversation g.T.Sink.Sink c.args.dialogue.now (g.A.Answers.faults c.args.answers.now))
    (counts_of (g.T.Conversation.faults (talk_of c.answer_all-ending.new.dialogue)) (g.T.Sink.Sink.faults (sink_of g.T.Conversation c.finish.new.dialogue)) (g.A.Answers.faults c.answer_all-ending.new.answers))
    c.answer_all-ending.result
    (behind (g.T.Conversation.faults (talk_of c.args.dialogue.now)) (g.T.Conversation.faults (talk_of c.answer_all-ending.new.dialogue))
    (g.T.Sink.Sink.faults (sink_of g.T.Conversation c.args.dialogue.now)) ended.faults finished.faults
    (g.A.Answers.faults c.args.answers.now) (g.A.Answers.faults c.answer_all-ending.new.answers)
    (due_in g.T.Conversation g.T.Sink.Sink c.answer_all-ending.new.dialogue) ended.written finished.written ended.refused finished.refused
    c.answer_all-ending.new.tally c.answer_all-ending.result c.answer_all-ending.ensures.counts)
    c.finish.result
    (c.answer_all-ending.ensures.ends first (begins_texts g.A.Answers g.T.Conversation g.T.Sink.Sink first c.args.answers.now c.args.dialogue.now _ c.requires.empty refl refl b))
    c.finish.ensures.rule)

pub returns-clause-counts : goal.returns-clause-counts
returns-clause-counts g c =
    rw c.finish.ensures.nothing.faults
    (status_counts (g.T.Conversation.faults (talk_of c.args.dialogue.now)) (g.T.Conversation.faults (talk_of c.answer_all-ending.new.dialogue))
    (g.T.Sink.Sink.faults (sink_of g.T.Conversation c.args.dialogue.now)) (g.T.Sink.Sink.faults (sink_of g.T.Conversation c.answer_all-ending.new.dialogue)) (g.T.Sink.Sink.faults (sink_of g.T.Conversation c.finish.new.dialogue))
    (g.A.Answers.faults c.args.answers.now) (g.A.Answers.faults c.answer_all-ending.new.answers)
    (due_in g.T.Conversation g.T.Sink.Sink c.answer_all-ending.new.dialogue) (g.T.Sink.Sink.written (sink_of g.T.Conversation c.answer_all-ending.new.dialogue)) (g.T.Sink.Sink.written (sink_of g.T.Conversation c.finish.new.dialogue))
    (g.T.Sink.Sink.refused (sink_of g.T.Conversation c.answer_all-ending.new.dialogue)) (g.T.Sink.Sink.refused (sink_of g.T.Conversation c.finish.new.dialogue))
    c.answer_all-ending.new.tally c.answer_all-ending.result c.finish.result c.answer_all-ending.ensures.counts c.finish.ensures.rule)

pub returns-clause-asks : goal.returns-clause-asks
returns-clause-asks g c first b =
    rw c.finish.ensures.nothing.asked
    (c.answer_all-ending.ensures.asks first (begins_texts g.A.Answers g.T.Conversation g.T.Sink.Sink first c.args.answers.now c.args.dialogue.now _ c.requires.empty refl refl b)
    (due_known (g.T.Sink.Sink.written (sink_of g.T.Conversation c.args.dialogue.now)) (gathered_of c.args.dialogue.now) first.report b.written_is))
