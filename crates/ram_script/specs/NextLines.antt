-- The next line of a script, and the limits that it may pass. For the run of a script.
use Rattle.std.specs.Prelude.{◌≡◌, ℕ, ◌+◌, ◌-◌, ◌<◌, ◌≤◌, ◌⊎◌, List, [], ◌∷◌, ◌++◌, length, take}
use Rattle.ram_text.specs.Lines.{line_feed, HasNoFeed}
use Rattle.ram_text.specs.Script.{Reads}
use Rattle.ram_text.specs.declared.lines.TheConstants.{LINE_LIMIT, SCRIPT_LIMIT}
use Rattle.ram_text.specs.declared.script.Line.{Line}

-- the bytes are one line: none is a line feed, and they are within the limit (this project's own, as all here)
pub record IsLine (raw : List ℕ) : Type 0 where
  pub one : HasNoFeed raw
  pub short : length raw ≤ LINE_LIMIT

-- the next line of what is left: it ends with a line feed, or with the script and is not empty then
pub record IsNextLine (rest raw : List ℕ) : Type 0 where
  pub line : IsLine raw
  pub after : List ℕ
  pub parts : (rest ≡ raw ++ (line_feed ∷ after)) ⊎ ((rest ≡ raw) × (0 < length raw) × (after ≡ []))

-- what comes before this rest of the script is within the script's limit
abbrev pub IsWithinLimit : List ℕ → List ℕ → Type 0
IsWithinLimit script rest = length script - length rest ≤ SCRIPT_LIMIT

-- the next line of what is left, which ends within the script's limit
pub record IsNextWithin (script rest raw : List ℕ) : Type 0 where
  pub next : IsNextLine rest raw
  pub within : IsWithinLimit script next.after

-- the next line of what is left reads as nothing
pub record IsNextUnread (script rest : List ℕ) : Type 0 where
  pub raw : List ℕ
  pub comes : IsNextWithin script rest raw
  pub nothing : (line : Line) (payload : List ℕ) → ¬ Reads raw line payload

-- what is left begins with more bytes than a line may have, and the script's limit is not passed by then
pub record PassesLineLimit (script rest : List ℕ) : Type 0 where
  pub longer : LINE_LIMIT < length rest
  pub open_line : HasNoFeed (take (LINE_LIMIT + 1) rest)
  pub first : (length script - length rest) + LINE_LIMIT < SCRIPT_LIMIT

-- what is left has more bytes than the script may have, of which the first have no line feed, and the line's limit is
-- not passed before
pub record PassesScriptLimit (script rest : List ℕ) : Type 0 where
  pub longer : SCRIPT_LIMIT < length script
  pub open_line : HasNoFeed (take (SCRIPT_LIMIT - (length script - length rest)) rest)
  pub first : SCRIPT_LIMIT ≤ (length script - length rest) + LINE_LIMIT

-- the next line of what is left reads as this, with these data
pub record ComesNext (script rest : List ℕ) (line : Line) (payload : List ℕ) : Type 0 where
  pub raw : List ℕ
  pub comes : IsNextWithin script rest raw
  pub reads : Reads raw line payload
