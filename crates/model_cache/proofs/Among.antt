-- The values of a block, out of a list of choices.
use Rattle.std.specs.Prelude.{ℕ, List}
use Rattle.std.specs.List.{Contains}
use Rattle.model_cache.specs.Values.{Values}
use Rattle.model_cache.specs.Falling.{EachValue}

-- if the disc has the block, each of the block's values is one of these
abbrev pub AreAmong : List (List ℕ) → ℕ → Values → Type 0
AreAmong choices i v = EachValue (Contains choices) i v
