-- A script that lies in memory. For the source that gives it.
use Rattle.std.specs.Prelude.{ℕ, List}

-- the bytes that are left (this project's own)
pub record KeptState : Type 0 where
  pub left : List ℕ
