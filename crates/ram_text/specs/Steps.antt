-- The steps inside a reader of lines, for its own functions.
use Rattle.std.specs.Prelude.{◌≡◌, ℕ, ◌+◌, ◌<◌, ◌≤◌, Option, None, Some, List, [], ◌∷◌, ◌++◌, length}
use Rattle.std.specs.Io.KnownBytes.{prepend_known, IsAtEnd}
use Rattle.model_counts.specs.Counts.{Rose}
use Rattle.ram_outside.specs.declared.source.Take.{Take}
use Rattle.ram_outside.specs.declared.source.Take.TheVariants as takes
use Rattle.ram_text.specs.declared.lines.TheConstants.{LINE_LIMIT, SCRIPT_LIMIT}
use Rattle.ram_text.specs.declared.lines.NextLine.{NextLine}
use Rattle.ram_text.specs.declared.lines.NextLine.TheVariants.{Line, End, LineTooLong, ScriptTooLong, Failed}
use Rattle.ram_text.specs.Lines.{Reading, HasNoFeed, LineIsTooLong, ScriptIsTooLong, line_feed}

-- the reader with no line, and all else as before (this project's own)
abbrev pub without_line : Reading → Reading
without_line r = record { line = []; buffered = r.buffered; taken = r.taken }

-- what is buffered has no line feed, and passes no limit (this project's own)
pub record IsOpen (r : Reading) : Type 0 where
  pub clear : HasNoFeed r.buffered
  pub short : length r.buffered ≤ LINE_LIMIT
  pub within : r.taken + length r.buffered ≤ SCRIPT_LIMIT

-- the buffered bytes were the line, its line feed, and what is buffered now (this project's own)
pub record TookLine (before after : Reading) : Type 0 where
  pub parts : before.buffered ≡ after.line ++ (line_feed ∷ after.buffered)
  pub one : HasNoFeed after.line
  pub short : length after.line ≤ LINE_LIMIT
  pub grew : after.taken ≡ before.taken + length after.line + 1
  pub within : after.taken ≤ SCRIPT_LIMIT

-- what is decided by the bytes that are buffered (this project's own)
abbrev pub CutRule : Reading → Reading → Option NextLine → Type 0
CutRule before after None = IsOpen before × (after ≡ without_line before)
CutRule before after (Some Line) = TookLine before after
CutRule before after (Some LineTooLong) =
    LineIsTooLong (Some before.buffered) before.taken × (after ≡ without_line before)
CutRule before after (Some ScriptTooLong) =
    ScriptIsTooLong (Some before.buffered) before.taken × (after ≡ without_line before)
CutRule before after (Some End) = ⊥
CutRule before after (Some Failed) = ⊥

-- n bytes more are buffered, and as much is left as before (this project's own)
pub record Refilled (before after : Reading) (rest rest' : Option (List ℕ)) (faults faults' n : ℕ) : Type 0 where
  pub some : 0 < n
  pub longer : length after.buffered ≡ length before.buffered + n
  pub same : prepend_known after.buffered rest' ≡ prepend_known before.buffered rest
  pub stood : after.taken ≡ before.taken
  pub count : faults' ≡ faults

-- what one more piece of the source brings (this project's own)
abbrev pub FillsReading : Reading → Reading → Option (List ℕ) → Option (List ℕ) → ℕ → ℕ → Take → Type 0
FillsReading before after rest rest' faults faults' (takes.Got n) = Refilled before after rest rest' faults faults' n
FillsReading before after rest rest' faults faults' takes.End =
    (after ≡ without_line before) × IsAtEnd rest × (rest' ≡ rest) × (faults' ≡ faults)
FillsReading before after rest rest' faults faults' takes.Failed =
    (after ≡ without_line before) × (rest' ≡ rest) × Rose faults faults'

-- what is buffered is the last line, unless nothing is (this project's own)
pub record TookLast (before after : Reading) : Type 0 where
  pub some : 0 < length before.buffered
  pub line : after.line ≡ before.buffered
  pub rest : after.buffered ≡ []
  pub grew : after.taken ≡ before.taken + length before.buffered

-- what the end of the source makes of what is buffered (this project's own)
abbrev pub LastLineBytes : Reading → Reading → NextLine → Type 0
LastLineBytes before after Line = TookLast before after
LastLineBytes before after End = (before.buffered ≡ []) × (after ≡ without_line before)
LastLineBytes before after LineTooLong = ⊥
LastLineBytes before after ScriptTooLong = ⊥
LastLineBytes before after Failed = ⊥

-- which limit is passed first, where a line without an end passes one of them (this project's own)
abbrev pub PassedFirst : ℕ → NextLine → Type 0
PassedFirst taken LineTooLong = taken + LINE_LIMIT < SCRIPT_LIMIT
PassedFirst taken ScriptTooLong = SCRIPT_LIMIT ≤ taken + LINE_LIMIT
PassedFirst taken Line = ⊥
PassedFirst taken End = ⊥
PassedFirst taken Failed = ⊥
