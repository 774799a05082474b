use Rattle.std.proofs.Common.{◌≡◌, ◌≤◌, ◌+◌, take}
use Rattle.ram_audit.specs.Comparing.{feeds}
use Rattle.ram_audit.proofs.comparing.line_at.Given as goal

abbrev pub invariant-loop-k : goal.invariant-loop-k
invariant-loop-k l = (l.line ≡ feeds (take l.k l.text) + 1) × (l.line ≤ l.k + 1)
