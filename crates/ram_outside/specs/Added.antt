-- A list that grows with the calls of an object, the newest first, where it is known. (This project's own, as all here.)
use Rattle.std.specs.Prelude.{◌≡◌, Option, IfSome, MatchOption, List, ◌∷◌, ◌++◌, All}

-- this is added now, in front of all that was there before
abbrev pub AddsNow : {A : Type 0} → A → Option (List A) → Option (List A) → Type 0
AddsNow now before after = IfSome after (λ all. MatchOption before ⊥ (λ earlier. all ≡ now ∷ earlier))

-- whatever was added between the two is like this
abbrev pub AddsOnly : {A : Type 0} → (A → Type 0) → Option (List A) → Option (List A) → Type 0
AddsOnly {A} stood before after =
    IfSome after (λ all. MatchOption before ⊥ (λ earlier. (since : List A) × (all ≡ since ++ earlier) × All stood since))
