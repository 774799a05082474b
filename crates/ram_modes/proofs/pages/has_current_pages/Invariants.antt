-- The pages so far have the values in force.
use Rattle.std.specs.Prelude.{ℕ, ◌<◌}
use Rattle.model_modes.specs.ParameterLists.{IsCurrentPage, page_at}
use Rattle.ram_modes.proofs.pages.has_current_pages.Given as goal

abbrev pub invariant-loop-k : goal.invariant-loop-k
invariant-loop-k l = (k : ℕ) → k < l.k → IsCurrentPage (page_at l.list k)
