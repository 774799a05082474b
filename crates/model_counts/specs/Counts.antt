-- When a count of failures, cuts or uses rose: for all contracts that count.
use Rattle.std.specs.Prelude.{ℕ, ◌+◌, ◌-◌, ◌^◌, ◌≤◌, min, max}

-- A count of 64 bits after more has come: it stands still at its type's end. (This project's own.)
abbrev pub counted : ℕ → ℕ → ℕ
counted before more = max before (min (before + more) (2 ^ 64 - 1))

-- The count rose in between, or stands at its type's end. (This project's own.)
abbrev pub Rose : ℕ → ℕ → Type 0
Rose before now = counted before 1 ≤ now
