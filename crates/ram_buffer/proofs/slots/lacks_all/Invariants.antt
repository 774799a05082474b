use Rattle.std.proofs.Common.{ℕ, ◌<◌}
use Rattle.ram_buffer.specs.Held.{number_at, IsOneFrom}
use Rattle.ram_buffer.proofs.slots.lacks_all.Given as goal

abbrev pub invariant-loop-k : goal.invariant-loop-k
invariant-loop-k l = (j : ℕ) → j < l.k → ¬ IsOneFrom l.first l.blocks (number_at l.rooms j)
