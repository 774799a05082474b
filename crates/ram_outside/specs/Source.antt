-- What a `take` may do, by its answer: for the trait `Source`, and for the reader of lines above it.
use Rattle.std.specs.Prelude.{◌≡◌, ℕ, ◌<◌, ◌≤◌, Option, is_some, List, length, take}
use Rattle.std.specs.Io.KnownBytes.{Consumes, IsAtEnd}
use Rattle.model_counts.specs.Counts.{Rose}
use Rattle.ram_outside.specs.declared.source.Take.{Take}
use Rattle.ram_outside.specs.declared.source.Take.TheVariants.{Got, End, Failed}

-- n bytes came, at least one: the next of those that were left; nothing was counted (this project's own)
pub record GivesNext (before after : Option (List ℕ)) (faults faults' : ℕ) (into : List ℕ) (n : ℕ) : Type 0 where
  pub some : 0 < n
  pub within : n ≤ length into
  pub next : Consumes before after (take n into)
  pub known : is_some after ≡ is_some before
  pub count : faults' ≡ faults

-- nothing was left, and nothing changed, the count neither (this project's own)
pub record HasEnded (before after : Option (List ℕ)) (faults faults' : ℕ) : Type 0 where
  pub ended : IsAtEnd before
  pub same : after ≡ before
  pub count : faults' ≡ faults

-- the source failed and counted it, and as much is left as before (this project's own)
pub record SourceFails (before after : Option (List ℕ)) (faults faults' : ℕ) : Type 0 where
  pub same : after ≡ before
  pub count : Rose faults faults'

-- What a `take` may do, by its answer: what is left before and after, the counts before and after, and what the
-- slice then holds. (This project's own.)
abbrev pub TakeRule : Option (List ℕ) → Option (List ℕ) → ℕ → ℕ → List ℕ → Take → Type 0
TakeRule before after faults faults' into (Got n) = GivesNext before after faults faults' into n
TakeRule before after faults faults' into End = HasEnded before after faults faults'
TakeRule before after faults faults' into Failed = SourceFails before after faults faults'
