-- A run of what answers the lines is a run of the states that it stands for, where each line is a step of them.
use Rattle.std.specs.Prelude.{ℕ, ◌+◌, List, [], ◌∷◌, length}
use Rattle.std.proofs.Common.{refl, sym, subst}
use Rattle.ram_answers.specs.declared.answers.Answers.{Ghosts as Answerers}
use Rattle.ram_answers.specs.Texts.{AnsweredText}
use Rattle.ram_answers.specs.TextRuns.{IsTextStep, TextRun}
use Rattle.ram_answers.specs.StateRuns.{StateRun}

module _ {A R S : Type 0} (these : Answerers A R) (Stands : A → S → Type 0) (Steps : S → ℕ → AnsweredText → S → Type 0)
    (each : (a b : A) (s : S) (number : ℕ) (event : AnsweredText) → Stands a s → IsTextStep these a number event b → (t : S) × Steps s number event t × Stands b t) where
  pub followed : (a b : A) (s : S) (events : List AnsweredText) → Stands a s → TextRun these a events b → (t : S) × StateRun Steps s events t × Stands b t
  followed a b s [] stands run = (s, refl, subst (λ x. Stands x s) (sym run) stands)
  followed a b s (event ∷ events) stands run =
      let before = followed a run.0 s events stands run.1 in
      let step = each run.0 b before.0 (length events + 1) event before.2 run.2 in
      (step.0, (before.0, before.1, step.1), step.2)
