use Rattle.std.proofs.Common.{◌≡◌, ◌-◌, length}
use Rattle.std.specs.Io.KnownBytes.{prepend_known}
use Rattle.ram_outside.specs.Conversation.{AsksOnly}
use Rattle.ram_text.specs.Lines.{HoldsLine, IsOpenAsk, left_of}
use Rattle.ram_text.proofs.lines.LineReader.next_line.Given as goal

-- as much is left as at first, and nothing is taken yet; where a line was buffered, this is the first turn
abbrev pub invariant-loop-answer : goal.invariant-loop-answer
invariant-loop-answer g l = record {
  left : prepend_known l.self.buffered (g.T.Conversation.left l.talk) ≡ prepend_known l.fn.self.buffered (g.T.Conversation.left l.fn.talk);
  stood : l.self.taken ≡ l.fn.self.taken;
  count : g.T.Conversation.faults l.talk ≡ g.T.Conversation.faults l.fn.talk;
  same : g.T.Conversation.report l.talk ≡ g.T.Conversation.report l.fn.talk;
  asks : AsksOnly (IsOpenAsk (left_of g.T.Conversation l.fn.self l.fn.talk) (g.T.Sink.Sink.written (g.T.Conversation.report l.fn.talk))) (g.T.Conversation.asked l.fn.talk) (g.T.Conversation.asked l.talk);
  untouched : HoldsLine l.fn.self → (l.self ≡ l.fn.self) × (l.talk ≡ l.fn.talk);
}

abbrev pub decreases-loop-answer : goal.decreases-loop-answer
decreases-loop-answer g l = 70001 - length l.self.buffered
