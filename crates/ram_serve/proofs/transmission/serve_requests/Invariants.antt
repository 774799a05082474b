use Rattle.std.specs.Prelude.{ℕ, ◌+◌, ◌-◌, ◌≤◌, List}
use Rattle.ram_text.specs.declared.script.Line.{Line}
use Rattle.ram_outside.specs.Conversation.{AsksOnly}
use Rattle.ram_machine.specs.Inserted.{Stands, faults_of}
use Rattle.ram_script.specs.Progress.{Beginning}
use Rattle.ram_script.specs.RunCounts.{SameCounts}
use Rattle.ram_serve.specs.Rooms.{HasMessageRoom}
use Rattle.ram_session.specs.Session.{IsToldBy}
use Rattle.ram_serve.specs.Turns.{BetweenRequests, counts_now}
use Rattle.ram_serve.specs.declared.messages.TheConstants.{MOST_MESSAGES}
use Rattle.ram_serve.proofs.transmission.serve_requests.Given as goal

abbrev pub invariant-loop-answered : goal.invariant-loop-answered
invariant-loop-answered g l = record {
  few : l.answered ≤ MOST_MESSAGES;
  between : (first : Beginning) (faults : List Line) (n : ℕ)
      → BetweenRequests first faults l.fn.size n (Stands g.D.Caching g.D.Drive.lies_in g.D.Image.Image l.fn.inserted)
      (g.T.Conversation.left l.fn.talk) (g.T.Sink.Sink.written (g.T.Conversation.report l.fn.talk))
      → BetweenRequests first faults l.fn.size (n + l.answered) (Stands g.D.Caching g.D.Drive.lies_in g.D.Image.Image l.inserted)
      (g.T.Conversation.left l.talk) (g.T.Sink.Sink.written (g.T.Conversation.report l.talk));
  counts : SameCounts (counts_now g.T.Conversation g.T.Sink.Sink l.fn.talk (faults_of g.D.Caching g.D.Image.Image l.fn.inserted))
      (counts_now g.T.Conversation g.T.Sink.Sink l.talk (faults_of g.D.Caching g.D.Image.Image l.inserted));
  asks : (first : Beginning) (faults : List Line) (n : ℕ)
      → BetweenRequests first faults l.fn.size n (Stands g.D.Caching g.D.Drive.lies_in g.D.Image.Image l.fn.inserted)
      (g.T.Conversation.left l.fn.talk) (g.T.Sink.Sink.written (g.T.Conversation.report l.fn.talk))
      → AsksOnly (IsToldBy first faults) (g.T.Conversation.asked l.fn.talk) (g.T.Conversation.asked l.talk);
  room : HasMessageRoom l.rooms;
}

abbrev pub decreases-loop-answered : goal.decreases-loop-answered
decreases-loop-answered g l = MOST_MESSAGES - l.answered
