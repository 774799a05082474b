use Rattle.std.specs.Prelude.{ℕ, ◌+◌, ◌-◌, ◌≤◌, List}
use Rattle.ram_nbd.specs.Replies.{export_of}
use Rattle.ram_text.specs.declared.script.Line.{Line}
use Rattle.ram_outside.specs.Conversation.{AsksOnly}
use Rattle.ram_machine.specs.States.{State}
use Rattle.ram_script.specs.Progress.{Beginning}
use Rattle.ram_script.specs.RunCounts.{SameCounts}
use Rattle.ram_session.specs.Talk.{Options}
use Rattle.ram_session.specs.Session.{IsToldBy}
use Rattle.ram_serve.specs.Handshakes.{InHandshake}
use Rattle.ram_serve.specs.Rooms.{HasMessageRoom}
use Rattle.ram_serve.specs.Turns.{counts_now}
use Rattle.ram_serve.specs.declared.messages.TheConstants.{MOST_MESSAGES}
use Rattle.ram_serve.proofs.handshake.choose_options.Given as goal

abbrev pub invariant-loop-answered : goal.invariant-loop-answered
invariant-loop-answered g l = record {
  few : l.answered ≤ MOST_MESSAGES;
  between : (first : Beginning) (faults : List Line) (ready : State) (n : ℕ)
      → InHandshake first faults (export_of l.fn.size l.fn.reason) ready (Options l.fn.zeros) n
      (g.T.Conversation.left l.fn.talk) (g.T.Sink.Sink.written (g.T.Conversation.report l.fn.talk))
      → InHandshake first faults (export_of l.fn.size l.fn.reason) ready (Options l.fn.zeros) (n + l.answered)
      (g.T.Conversation.left l.talk) (g.T.Sink.Sink.written (g.T.Conversation.report l.talk));
  counts : (image : ℕ) → SameCounts (counts_now g.T.Conversation g.T.Sink.Sink l.fn.talk image)
      (counts_now g.T.Conversation g.T.Sink.Sink l.talk image);
  asks : (first : Beginning) (faults : List Line) (ready : State) (n : ℕ)
      → InHandshake first faults (export_of l.fn.size l.fn.reason) ready (Options l.fn.zeros) n
      (g.T.Conversation.left l.fn.talk) (g.T.Sink.Sink.written (g.T.Conversation.report l.fn.talk))
      → AsksOnly (IsToldBy first faults) (g.T.Conversation.asked l.fn.talk) (g.T.Conversation.asked l.talk);
  room : HasMessageRoom l.rooms;
}

abbrev pub decreases-loop-answered : goal.decreases-loop-answered
decreases-loop-answered g l = MOST_MESSAGES - l.answered
