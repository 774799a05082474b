use Rattle.std.proofs.Common.{◌≡◌, ◌-◌, ◌≤◌, length, take}
use Rattle.ram_outside.specs.Conversation.{AsksOnly}
use Rattle.ram_receive.specs.Receiving.{Went, IsShortAsk}
use Rattle.ram_receive.proofs.receive.Given as goal

-- the front of the slice came from the conversation
abbrev pub invariant-loop-at : goal.invariant-loop-at
invariant-loop-at g l = record {
  within : l.at ≤ length l.into;
  as_long : length l.into ≡ length l.fn.into;
  went : Went (g.T.Conversation.left l.fn.talk) (g.T.Conversation.left l.talk) (take l.at l.into);
  count : g.T.Conversation.faults l.talk ≡ g.T.Conversation.faults l.fn.talk;
  same : g.T.Conversation.report l.talk ≡ g.T.Conversation.report l.fn.talk;
  asks : AsksOnly (IsShortAsk (g.T.Conversation.left l.fn.talk) (g.T.Sink.Sink.written (g.T.Conversation.report l.fn.talk)) (length l.fn.into))
      (g.T.Conversation.asked l.fn.talk) (g.T.Conversation.asked l.talk);
}

abbrev pub decreases-loop-at : goal.decreases-loop-at
decreases-loop-at g l = length l.into - l.at
