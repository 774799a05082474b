use Rattle.std.proofs.Common.{◌≡◌, ◌+◌, ◌*◌, ◌≤◌, vec_len, vec_capacity}
use Rattle.ram_cache.proofs.pending.PendingBlocks.new.Given as goal

-- n rooms were made, of the room that was taken for 32
abbrev pub invariant-loop-k : goal.invariant-loop-k
invariant-loop-k l = record {
  many : vec_len l.rooms ≡ l.k;
  room : 32 ≤ vec_capacity l.rooms;
  left : l.fn.budget ≤ l.budget + 1024 + 32768 * l.k;
}
