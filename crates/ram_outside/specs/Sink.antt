-- What a `put` may do, by its answer: for the trait `Sink`, and for the writer of reports above it.
use Rattle.std.specs.Prelude.{◌≡◌, ℕ, ◌+◌, ◌<◌, ◌≤◌, Option, None, Some, is_some, List, length, take}
use Rattle.std.specs.Io.KnownBytes.{Appends}
use Rattle.model_counts.specs.Counts.{counted}
use Rattle.ram_outside.specs.declared.sink.Put.{Put}
use Rattle.ram_outside.specs.declared.sink.Put.TheVariants.{Took, Failed}

-- how many bytes there are, where they are known, with n more (this project's own, as all here)
abbrev pub length_with : Option (List ℕ) → ℕ → Option ℕ
length_with None n = None
length_with (Some bytes) n = Some (length bytes + n)

-- one failure was counted, unless the count stands at its type's end
abbrev pub FailsOnce : ℕ → ℕ → Type 0
FailsOnce faults faults' = faults' ≡ counted faults 1

-- What a sink shows: the bytes that were written, how many there would be had the last call that failed taken its whole piece, and how
-- often it has failed.
pub record SinkShown : Type 0 where
  pub written : Option (List ℕ)
  pub refused : Option ℕ
  pub faults : ℕ

-- these
abbrev pub sink_shown : Option (List ℕ) → Option ℕ → ℕ → SinkShown
sink_shown written refused faults = record { written = written; refused = refused; faults = faults }

-- the first n bytes of the piece were written, at least one; nothing failed
pub record Takes (old new : SinkShown) (piece : List ℕ) (n : ℕ) : Type 0 where
  pub some : 0 < n
  pub within : n ≤ length piece
  pub written : Appends old.written new.written (take n piece)
  pub known : is_some new.written ≡ is_some old.written
  pub refused : new.refused ≡ old.refused
  pub count : new.faults ≡ old.faults

-- the sink failed and counted it, and nothing of the piece was written
pub record SinkFails (old new : SinkShown) (piece : List ℕ) : Type 0 where
  pub same : new.written ≡ old.written
  pub refused : new.refused ≡ length_with old.written (length piece)
  pub count : FailsOnce old.faults new.faults

-- What a `put` of this piece may do, by its answer.
abbrev pub PutRule : SinkShown → SinkShown → List ℕ → Put → Type 0
PutRule old new piece (Took n) = Takes old new piece n
PutRule old new piece Failed = SinkFails old new piece
