-- The pages so far have been followed.
use Rattle.std.specs.Prelude.{◌≡◌}
use Rattle.model_modes.specs.ParameterLists.{cached_by}
use Rattle.ram_modes.proofs.pages.caches_after.Given as goal

abbrev pub invariant-loop-k : goal.invariant-loop-k
invariant-loop-k l = l.caches ≡ cached_by l.list l.was l.k
