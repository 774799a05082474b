use Rattle.std.proofs.Common.{◌≡◌, ℕ, ◌++◌, map, take, drop}
use Rattle.model_cache.specs.Causes.{put_over}
use Rattle.ram_cache.specs.Rooms.{pending_of, staged_of}
use Rattle.ram_cache.proofs.pending.PendingBlocks.take_in.Given as goal

abbrev pub invariant-loop-k : goal.invariant-loop-k
invariant-loop-k l = record {
  covered : pending_of l.self ≡ map (put_over l.request.lba l.request.n l.from) (take l.k (pending_of l.fn.self)) ++ drop l.k (pending_of l.fn.self);
  rest : (staged : ℕ) → staged_of l.self staged ≡ staged_of l.fn.self staged;
}
