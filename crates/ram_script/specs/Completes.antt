-- When a run must come to its end. For the main clause of the run.
use Rattle.std.specs.Prelude.{◌≡◌, ℕ, ◌≤◌, ◌⊎◌, List, [], ◌∷◌, ◌++◌, length}
use Rattle.model_counts.specs.Counts.{Rose}
use Rattle.model_geometry.specs.declared.kinds.LayoutKind.{LayoutKind}
use Rattle.model_geometry.specs.Geometry.{Shape, IsLawful, shape_in}
use Rattle.model_image.specs.Image.{IsDiscImage}
use Rattle.ram_text.specs.Lines.{line_feed}
use Rattle.ram_text.specs.Script.{Reads}
use Rattle.ram_text.specs.declared.lines.TheConstants.{SCRIPT_LIMIT}
use Rattle.ram_text.specs.declared.script.Line.{Line}
use Rattle.ram_text.specs.declared.script.Line.TheVariants as lines
use Rattle.ram_machine.specs.declared.status.Status.{Status}
use Rattle.ram_machine.specs.declared.status.Status.TheVariants as statuses
use Rattle.ram_script.specs.NextLines.{IsLine, IsNextLine}
use Rattle.ram_script.specs.Progress.{Beginning}
use Rattle.ram_script.specs.RunCounts.{Counts}

-- a line begins after these bytes of a script: there are none, or the last is a line feed (this project's own, as all
-- here)
abbrev pub BeginsLine : List ℕ → Type 0
BeginsLine before = (before ≡ []) ⊎ ((lines : List ℕ) × (before ≡ lines ++ line_feed ∷ []))

-- nothing is left, or a line within the limit; and whatever is the next line reads as something
pub record ReadsOn (rest : List ℕ) : Type 0 where
  pub more : (rest ≡ []) ⊎ ((raw : List ℕ) × IsNextLine rest raw)
  pub reads : (raw : List ℕ) → IsNextLine rest raw → (line : Line) × (payload : List ℕ) × Reads raw line payload

-- The script is in the language and within its limits: wherever a line begins, it goes on so.
pub record IsInLanguage (script : List ℕ) : Type 0 where
  pub short : length script ≤ SCRIPT_LIMIT
  pub lines : (before rest : List ℕ) → script ≡ before ++ rest → BeginsLine before → ReadsOn rest

-- the bytes of these lines, the newest of which comes first here, each with its line feed
abbrev pub lines_text : List (List ℕ) → List ℕ
lines_text [] = []
lines_text (raw ∷ raws) = lines_text raws ++ (raw ++ line_feed ∷ [])

-- each of these is a line, and none has an answer
abbrev pub AreSilent : List (List ℕ) → Type 0
AreSilent [] = Unit {0}
AreSilent (raw ∷ raws) = AreSilent raws × IsLine raw × Reads raw lines.Empty []

-- the line presses a disc with a layout of this kind, and lawfully
abbrev pub IsLawfulPress : LayoutKind → Line → Type 0
IsLawfulPress kind (lines.Press zones scale psa) = IsLawful (shape_in kind zones scale psa)
IsLawfulPress kind _ = ⊥

-- the first line that has an answer presses a disc, and lawfully
abbrev pub BeginsWithPress : LayoutKind → List ℕ → Type 0
BeginsWithPress kind script = (raws : List (List ℕ)) (rest raw : List ℕ) (line : Line) (payload : List ℕ) → AreSilent raws
    → script ≡ lines_text raws ++ rest
    → IsNextLine rest raw → Reads raw line payload → (line ≡ lines.Empty) ⊎ IsLawfulPress kind line

-- the image is that of a disc, or the first line that has an answer makes one
abbrev pub BeginsWithDisc : Beginning → Type 0
BeginsWithDisc first =
    ((shape : Shape) × (shape.layout ≡ first.kind) × IsDiscImage shape first.image) ⊎ BeginsWithPress first.kind first.script

-- source, sink and image did not fail
pub record NoneRose (before after : Counts) : Type 0 where
  pub source : ¬ Rose before.source after.source
  pub sink : ¬ Rose before.sink after.sink
  pub image : ¬ Rose before.image after.image

-- the whole script was answered
abbrev pub IsComplete : Status → Type 0
IsComplete status = status ≡ statuses.Done
