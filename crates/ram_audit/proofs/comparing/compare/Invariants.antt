use Rattle.std.proofs.Common.{◌≡◌, ◌≤◌, ◌-◌, ◌<◌, length, take, is_some}
use Rattle.std.specs.Io.KnownBytes.{Consumes}
use Rattle.ram_audit.proofs.comparing.compare.Given as goal

abbrev pub invariant-loop-n : goal.invariant-loop-n
invariant-loop-n g l = record {
  within : l.at ≤ length l.text;
  some : 0 < length l.room;
  taken : Consumes (g.T.Conversation.left l.initial.talk) (g.T.Conversation.left l.talk) (take l.at l.text);
  as_known : is_some (g.T.Conversation.left l.talk) ≡ is_some (g.T.Conversation.left l.initial.talk);
  counts : g.T.Conversation.faults l.talk ≡ g.T.Conversation.faults l.initial.talk;
  same : g.T.Conversation.report l.talk ≡ g.T.Conversation.report l.initial.talk;
}

abbrev pub decreases-loop-n : goal.decreases-loop-n
decreases-loop-n g l = length l.text - l.at
