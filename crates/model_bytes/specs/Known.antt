-- A relation of bytes before and after that may not be known: for all contracts over an object of the outside.
use Rattle.std.specs.Prelude.{Option, Some, None, List, ℕ}

-- Bytes that are known are known afterwards too, and are then so related; bytes that are not known stay so.
-- (This project's own.)
abbrev pub WhereKnown : Option (List ℕ) → Option (List ℕ) → (List ℕ → List ℕ → Type 0) → Type 0
WhereKnown None None R = Unit {0}
WhereKnown None (Some after) R = ⊥
WhereKnown (Some before) None R = ⊥
WhereKnown (Some before) (Some after) R = R before after
