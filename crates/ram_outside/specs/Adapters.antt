-- What becomes of the outcome of a call of the system: for the adapters over standard streams and files.
use Rattle.std.specs.Prelude.{◌≡◌, ℕ, Option, Some, None, Result, MatchResult}
use Rattle.model_counts.specs.Counts.{counted}
use Rattle.ram_outside.specs.declared.source.Take.{Take}
use Rattle.ram_outside.specs.declared.source.Take.TheVariants as takes
use Rattle.ram_outside.specs.declared.sink.Put.{Put}
use Rattle.ram_outside.specs.declared.sink.Put.TheVariants as puts
use Rattle.ram_outside.specs.declared.image.Length.{Length}
use Rattle.ram_outside.specs.declared.image.Length.TheVariants as lengths
use Rattle.ram_outside.specs.declared.image.Moved.{Moved}
use Rattle.ram_outside.specs.declared.image.Moved.TheVariants as moves
use Rattle.ram_outside.specs.declared.opener.Opened.{Opened}
use Rattle.ram_outside.specs.declared.opener.Opened.TheVariants as openings

-- What becomes of the outcome of a call of the system: its value, or one error more in the count.
-- (This project's own.)
abbrev pub CountsError : {T E : Type 0} → Result T E → Option T → ℕ → ℕ → Type 0
CountsError outcome value faults faults' =
    MatchResult outcome (λ x. (value ≡ Some x) × (faults' ≡ faults)) (λ _. (value ≡ None) × (faults' ≡ counted faults 1))

-- A count of failures after a call of `take`: one more exactly where the call failed. (This project's own.)
abbrev pub count_after_take : Take → ℕ → ℕ
count_after_take (takes.Got n) faults = faults
count_after_take takes.End faults = faults
count_after_take takes.Failed faults = counted faults 1

-- the same after a call of `put` (this project's own)
abbrev pub count_after_put : Put → ℕ → ℕ
count_after_put (puts.Took n) faults = faults
count_after_put puts.Failed faults = counted faults 1

-- the same after a call of `len` (this project's own)
abbrev pub count_after_len : Length → ℕ → ℕ
count_after_len (lengths.Is n) faults = faults
count_after_len lengths.Failed faults = counted faults 1

-- the same after a call that moves bytes or changes their number (this project's own)
abbrev pub count_after_move : Moved → ℕ → ℕ
count_after_move moves.Done faults = faults
count_after_move moves.Failed faults = counted faults 1

-- the same after a call of `open` (this project's own)
abbrev pub count_after_open : {I : Type 0} → Opened I → ℕ → ℕ
count_after_open (openings.Image image) faults = faults
count_after_open openings.Failed faults = counted faults 1
