use Rattle.std.proofs.Common.{◌≡◌, ◌≤◌, ◌-◌, true, is_some}
use Rattle.ram_outside.specs.Conversation.{AsksOnly}
use Rattle.ram_text.specs.Dialogue.{HasSameEnds, due_in, reader_of, talk_of}
use Rattle.ram_script.specs.RunCounts.{SameCounts, counts_with}
use Rattle.ram_script.specs.Progress.{run_view}
use Rattle.ram_answers.specs.TextRuns.{TextBeginning}
use Rattle.ram_answers.specs.TextEnds.{BetweenTexts}
use Rattle.ram_answers.specs.TextAsks.{IsToldBy}
use Rattle.ram_answers.proofs.FewLines.{AreFew}
use Rattle.ram_answers.proofs.serving.answer_all.Given as goal

abbrev pub invariant-loop-stopped : goal.invariant-loop-stopped
invariant-loop-stopped g l = record {
  same : HasSameEnds l.fn.dialogue l.dialogue;
  between : (first : TextBeginning g.row.A.Denot) → BetweenTexts g.A.Answers first l.fn.answers (run_view g.T.Conversation g.T.Sink.Sink l.fn.dialogue l.fn.tally)
      → BetweenTexts g.A.Answers first l.answers (run_view g.T.Conversation g.T.Sink.Sink l.dialogue l.tally);
  counts : SameCounts (counts_with g.T.Conversation g.T.Sink.Sink l.fn.dialogue (g.A.Answers.faults l.fn.answers))
      (counts_with g.T.Conversation g.T.Sink.Sink l.dialogue (g.A.Answers.faults l.answers));
  asks : (first : TextBeginning g.row.A.Denot) → BetweenTexts g.A.Answers first l.fn.answers (run_view g.T.Conversation g.T.Sink.Sink l.fn.dialogue l.fn.tally)
      → is_some (due_in g.T.Conversation g.T.Sink.Sink l.fn.dialogue) ≡ true → AsksOnly (IsToldBy g.A.Answers first) (g.T.Conversation.asked (talk_of l.fn.dialogue)) (g.T.Conversation.asked (talk_of l.dialogue));
  known : is_some (due_in g.T.Conversation g.T.Sink.Sink l.dialogue) ≡ is_some (due_in g.T.Conversation g.T.Sink.Sink l.fn.dialogue);
  few : AreFew l.tally (reader_of l.dialogue).taken;
  within : (reader_of l.dialogue).taken ≤ 67108864;
}

abbrev pub decreases-loop-stopped : goal.decreases-loop-stopped
decreases-loop-stopped g l = 67108864 - (reader_of l.dialogue).taken
