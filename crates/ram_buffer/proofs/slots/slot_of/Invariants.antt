use Rattle.std.proofs.Common.{◌≢◌, ℕ, ◌<◌}
use Rattle.ram_buffer.specs.Held.{number_at}
use Rattle.ram_buffer.proofs.slots.slot_of.Given as goal

abbrev pub invariant-loop-k : goal.invariant-loop-k
invariant-loop-k l = (j : ℕ) → j < l.k → number_at l.rooms j ≢ l.i
