-- A run of lines over states, for those who say what it is that answers them stands for. (This project's own, as all here.)
use Rattle.std.specs.Prelude.{◌≡◌, ℕ, ◌+◌, List, [], ◌∷◌, length}
use Rattle.ram_answers.specs.Texts.{AnsweredText}

-- The lines, the newest first, lead from the first state to the last; `Steps before number event after` tells what the line of a number does.
abbrev pub StateRun : {S : Type 0} → (S → ℕ → AnsweredText → S → Type 0) → S → List AnsweredText → S → Type 0
StateRun Steps first [] last = last ≡ first
StateRun {S} Steps first (event ∷ events) last =
    (before : S) × StateRun Steps first events before × Steps before (length events + 1) event last
