-- The copies of the worked example with a mixed pair.
use Rattle.std.specs.Prelude.{◌≡◌, ℕ, ◌+◌, ◌∷◌, [], List}
use Rattle.std.proofs.Common.{refl, sym, ap, inl, inr, subst, arith}
use Rattle.model_medium.specs.Cells.{Cell, Blank, Good, Dead, cell_at}
use Rattle.model_copies.specs.Copies.{Holds}
use Rattle.model_copies.specs.Parts.{HasParts, HasWhole}
use Rattle.model_copies.proofs.CopyFacts.{area_cases}

abbrev Spelled : ℕ → List ℕ → Type 0
Spelled v b = b ≡ v ∷ []

abbrev Always : ℕ → Type 0
Always v = Unit {0}

abbrev cells : List Cell
cells = Blank ∷ Good (0 ∷ []) ∷ Good (1 ∷ []) ∷ Dead ∷ Dead ∷ Good (0 ∷ []) ∷ Dead ∷ Good (1 ∷ []) ∷ Dead ∷ []

first_of : List ℕ → ℕ
first_of [] = 0
first_of (x ∷ xs) = x

pub alone : (v area : ℕ) → HasWhole Always Spelled Spelled (λ (k : ℕ). k) (λ (k : ℕ). k + 4) cells v area → v ≡ 0
unfolding first_of
alone v area copy = elim (area_cases area copy.is_area) [
  | inl e ↦ (let h : (0 ∷ []) ≡ v ∷ [] = subst (λ (k : ℕ). Holds Spelled (cell_at cells k) v) e copy.holds in let n : 0 ≡ v = ap first_of h in sym n)
  | inr (inl e) ↦ absurd (subst (λ (k : ℕ). Holds Spelled (cell_at cells (k + 4)) v) e (copy.holds' tt))
  | inr (inr (inl e)) ↦ absurd (subst (λ (k : ℕ). Holds Spelled (cell_at cells k) v) e copy.holds)
  | inr (inr (inr e)) ↦ absurd (subst (λ (k : ℕ). Holds Spelled (cell_at cells k) v) e copy.holds)
]

pub crossed : HasParts Always Spelled Spelled (λ (k : ℕ). k) (λ (k : ℕ). k + 4) cells 1 2 3
crossed = record { is_area = (omega arith, omega arith); is_area' = (omega arith, omega arith); holds = refl; holds' = λ _. refl }
