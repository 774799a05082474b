-- How far a table has been marked: what holds in each turn of the loop.
use Rattle.std.specs.Prelude.{◌≡◌, ℕ, ◌<◌, ◌≤◌, if◌then◌else◌, Bool, List, length}
use Rattle.model_mirror.specs.Table.{is_apart}

-- of the first k blocks the chosen ones have this mark, and all others are as before
pub record MarkedSoFar (chosen : ℕ → Bool) (mark : Bool) (old now : List Bool) (k : ℕ) : Type 0 where
  pub as_long : length now ≡ length old
  pub before : (i : ℕ) → i < k → i < length old → is_apart now i ≡ (if chosen i then mark else is_apart old i)
  pub behind : (i : ℕ) → k ≤ i → is_apart now i ≡ is_apart old i
