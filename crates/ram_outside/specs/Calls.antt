-- The calls of an object in memory, and which of them fail: for the exact clauses of those objects.
use Rattle.std.specs.Prelude.{ℕ, List, Contains}
use Rattle.model_counts.specs.Counts.{counted}

-- the calls of an object in memory: the numbers of those that fail, how many were made, and how many failures were
-- counted (this project's own)
pub record CallLog : Type 0 where
  pub failing : List ℕ
  pub made : ℕ
  pub faults : ℕ

-- no call yet, where the calls of these numbers fail (this project's own)
abbrev pub no_calls : List ℕ → CallLog
no_calls numbers = record { failing = numbers; made = 0; faults = 0 }

-- The next call is one that fails. Calls are numbered from 1 on, and the number stands still at its type's end.
-- (This project's own.)
abbrev pub NextCallFails : CallLog → Type 0
NextCallFails log = Contains log.failing (counted log.made 1)

-- one call more, and no failure (this project's own)
abbrev pub with_call : CallLog → CallLog
with_call log = record log { made = counted log.made 1 }

-- n failures more (this project's own)
abbrev pub with_faults : ℕ → CallLog → CallLog
with_faults more log = record log { faults = counted log.faults more }

-- one call more, which failed (this project's own)
abbrev pub with_failed_call : CallLog → CallLog
with_failed_call log = with_faults 1 (with_call log)
