use Rattle.std.proofs.Common.{◌≡◌, ◌≤◌, ◌-◌, true, is_some}
use Rattle.ram_outside.specs.Conversation.{AsksOnly}
use Rattle.ram_script.specs.Asking.{IsAnsweredBy}
use Rattle.ram_text.specs.Dialogue.{HasSameEnds, due_in, reader_of, talk_of}
use Rattle.ram_machine.specs.Inserted.{Stands, faults_of}
use Rattle.ram_script.specs.RunCounts.{SameCounts, counts_with}
use Rattle.ram_script.specs.RunState.{HasRoom}
use Rattle.ram_script.specs.Progress.{Beginning, Between, run_view}
use Rattle.ram_script.proofs.FewLines.{IsFewLines}
use Rattle.ram_script.proofs.serve.serve_lines.Given as goal

abbrev pub invariant-loop-stopped : goal.invariant-loop-stopped
invariant-loop-stopped g l = record {
  same : HasSameEnds l.fn.dialogue l.dialogue;
  between : (first : Beginning) → Between first (Stands g.D.Caching g.D.Drive.lies_in g.D.Image.Image l.fn.inserted) (run_view g.T.Conversation g.T.Sink.Sink l.fn.dialogue l.fn.state.tally)
      → Between first (Stands g.D.Caching g.D.Drive.lies_in g.D.Image.Image l.inserted) (run_view g.T.Conversation g.T.Sink.Sink l.dialogue l.state.tally);
  counts : SameCounts (counts_with g.T.Conversation g.T.Sink.Sink l.fn.dialogue (faults_of g.D.Caching g.D.Image.Image l.fn.inserted))
      (counts_with g.T.Conversation g.T.Sink.Sink l.dialogue (faults_of g.D.Caching g.D.Image.Image l.inserted));
  asks : (first : Beginning) → Between first (Stands g.D.Caching g.D.Drive.lies_in g.D.Image.Image l.fn.inserted) (run_view g.T.Conversation g.T.Sink.Sink l.fn.dialogue l.fn.state.tally)
      → is_some (due_in g.T.Conversation g.T.Sink.Sink l.fn.dialogue) ≡ true → AsksOnly (IsAnsweredBy first) (g.T.Conversation.asked (talk_of l.fn.dialogue)) (g.T.Conversation.asked (talk_of l.dialogue));
  known : is_some (due_in g.T.Conversation g.T.Sink.Sink l.dialogue) ≡ is_some (due_in g.T.Conversation g.T.Sink.Sink l.fn.dialogue);
  room : HasRoom l.state;
  few : IsFewLines l.state.tally (reader_of l.dialogue).taken;
  within : (reader_of l.dialogue).taken ≤ 67108864;
}

abbrev pub decreases-loop-stopped : goal.decreases-loop-stopped
decreases-loop-stopped g l = 67108864 - (reader_of l.dialogue).taken
