use Rattle.std.proofs.Common.{◌≡◌, ◌≤◌, length, take}
use Rattle.ram_cache.specs.Rooms.{pending_of, due_in}
use Rattle.ram_cache.proofs.pending.PendingBlocks.count_of.Given as goal

abbrev pub invariant-loop-k : goal.invariant-loop-k
invariant-loop-k l = record {
  counted : l.some ≡ length (due_in l.among l.first l.count (take l.k (pending_of l.self)));
  few : l.some ≤ l.k;
}
