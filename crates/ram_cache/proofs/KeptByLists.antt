-- What is left pending by the lists that are in use.
use Rattle.std.specs.Prelude.{ℕ, Option, Some, None, List, []}
use Rattle.model_places.specs.Places.{Lists}

-- what is left pending by the lists that are in use
abbrev pub kept_by_lists : Option Lists → List (ℕ × List ℕ) → List (ℕ × List ℕ)
kept_by_lists None pending = []
kept_by_lists (Some lists) pending = pending
