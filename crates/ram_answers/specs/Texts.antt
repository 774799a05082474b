-- The lines of a script that were answered, by their bytes and the text of their answers. (This project's own, as all here.)
use Rattle.std.specs.Prelude.{◌≡◌, ℕ, ◌+◌, ◌<◌, ◌⊎◌, List, [], ◌∷◌, ◌++◌, length}
use Rattle.ram_text.specs.Lines.{line_feed}

-- One line that was answered: its bytes, how many answers it has, one or none, and their text.
pub record AnsweredText : Type 0 where
  pub raw : List ℕ
  pub answers : ℕ
  pub text : List ℕ

-- the bytes of the script that the lines took, each with its line feed
abbrev pub taken_text : List AnsweredText → List ℕ
taken_text [] = []
taken_text (event ∷ events) = taken_text events ++ (event.raw ++ line_feed ∷ [])

-- the text of all answers
abbrev pub told_text : List AnsweredText → List ℕ
told_text [] = []
told_text (event ∷ events) = told_text events ++ event.text

-- how many lines have an answer
abbrev pub told_in : List AnsweredText → ℕ
told_in [] = 0
told_in (event ∷ events) = told_in events + event.answers

-- the text of the newest line's answer
abbrev pub newest_told : List AnsweredText → List ℕ
newest_told [] = []
newest_told (event ∷ events) = event.text

-- the lines but the newest
abbrev pub told_before : List AnsweredText → List AnsweredText
told_before [] = []
told_before (event ∷ events) = events

-- the newest of the lines took some bytes beside a line feed
abbrev pub TookBytes : List AnsweredText → Type 0
TookBytes [] = ⊥
TookBytes (event ∷ events) = 0 < length event.raw

-- The lines took the beginning of the script, and rest is what follows. A last line that is not empty may lack its line feed.
abbrev pub TakesUpTo : List ℕ → List AnsweredText → List ℕ → Type 0
TakesUpTo script events rest =
    (script ≡ taken_text events ++ rest)
    ⊎ ((rest ≡ []) × TookBytes events × (script ++ line_feed ∷ [] ≡ taken_text events))
