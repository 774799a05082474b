use Rattle.std.specs.Prelude.{◌≡◌, ◌-◌, ◌≤◌, List, ℕ, length, vec_capacity}
use Rattle.ram_outside.specs.Conversation.{AsksOnly}
use Rattle.ram_receive.specs.Receiving.{Went, IsShortAsk}
use Rattle.ram_serve.proofs.messages.read_over.Given as goal

-- so many bytes came
abbrev pub invariant-loop-left : goal.invariant-loop-left
invariant-loop-left g l = record {
  few : l.left ≤ l.fn.count;
  came : (bytes : List ℕ) × (length bytes ≡ l.fn.count - l.left) × Went (g.T.Conversation.left l.fn.talk) (g.T.Conversation.left l.talk) bytes
      × (g.T.Conversation.faults l.talk ≡ g.T.Conversation.faults l.fn.talk);
  same : g.T.Conversation.report l.talk ≡ g.T.Conversation.report l.fn.talk;
  asks : AsksOnly (IsShortAsk (g.T.Conversation.left l.fn.talk) (g.T.Sink.Sink.written (g.T.Conversation.report l.fn.talk)) l.fn.count)
      (g.T.Conversation.asked l.fn.talk) (g.T.Conversation.asked l.talk);
  room : vec_capacity l.fn.room ≤ vec_capacity l.room;
}

abbrev pub decreases-loop-left : goal.decreases-loop-left
decreases-loop-left g l = l.left
