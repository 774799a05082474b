-- The lines of copies: one state for each cell, one list of lines for all, and each cell told.
use Rattle.std.proofs.Common.{◌≡◌, ℕ, zero, suc, List, [], ◌∷◌, refl, sym, ap, ap₂, ◌∙◌, inl, inr, ◌⊎◌, arith, subst}
use Rattle.std.specs.List.{Contains}
use Rattle.model_medium.specs.Cells.{Cell, Blank, Good, Torn, Dead, IsGood, cell_at}
use Rattle.model_places.specs.Places.{Lists}
use Rattle.model_pools.proofs.Replacements.{Contains-first, Contains-later}
use Rattle.model_audit.specs.declared.lines.CopyState.{CopyState}
use Rattle.model_audit.specs.declared.lines.CopyState.TheVariants.{Exact, Other, Unread}
use Rattle.model_audit.specs.declared.lines.CopyState.TheVariants as states
use Rattle.model_audit.specs.declared.lines.CertificateLine.{CertificateLine}
use Rattle.model_audit.specs.declared.lines.CertificateLine.TheVariants as lines
use Rattle.model_audit.specs.Certificate.{ListPart, HoldsPart, CellSays, AreCopyLines}

-- a cell that holds its part is good
holds_good : (lists : Lists) (part : ListPart) (cell : Cell) → HoldsPart lists part cell → IsGood cell
holds_good lists part Blank h = h
holds_good lists part (Good bytes) h = tt
holds_good lists part Torn h = h
holds_good lists part Dead h = h

-- what a cell without whole bytes is, excludes the others
unread_no_good : (cell : Cell) → (cell ≡ Blank) ⊎ (cell ≡ Torn) → ¬ IsGood cell
unread_no_good cell (inl blank) good = subst IsGood blank good
unread_no_good cell (inr torn) good = subst IsGood torn good

dead_no_good : (cell : Cell) → cell ≡ Dead → ¬ IsGood cell
dead_no_good cell dead good = subst IsGood dead good

unread_no_dead : (cell : Cell) → (cell ≡ Blank) ⊎ (cell ≡ Torn) → cell ≡ Dead → ⊥
unread_no_dead cell (inl blank) dead = cc
unread_no_dead cell (inr torn) dead = cc

-- a cell has one state
one_state : (lists : Lists) (part : ListPart) (cell : Cell) (s t : CopyState) → CellSays lists part cell s → CellSays lists part cell t → s ≡ t
one_state lists part cell Exact Exact p q = refl
one_state lists part cell Exact Other p q = absurd (q.1 p)
one_state lists part cell Exact Unread p q = absurd (unread_no_good cell q (holds_good lists part cell p))
one_state lists part cell Exact states.Dead p q = absurd (dead_no_good cell q (holds_good lists part cell p))
one_state lists part cell Other Exact p q = absurd (p.1 q)
one_state lists part cell Other Other p q = refl
one_state lists part cell Other Unread p q = absurd (unread_no_good cell q p.0)
one_state lists part cell Other states.Dead p q = absurd (dead_no_good cell q p.0)
one_state lists part cell Unread Exact p q = absurd (unread_no_good cell p (holds_good lists part cell q))
one_state lists part cell Unread Other p q = absurd (unread_no_good cell p q.0)
one_state lists part cell Unread Unread p q = refl
one_state lists part cell Unread states.Dead p q = absurd (unread_no_dead cell p q)
one_state lists part cell states.Dead Exact p q = absurd (dead_no_good cell p (holds_good lists part cell q))
one_state lists part cell states.Dead Other p q = absurd (dead_no_good cell p q.0)
one_state lists part cell states.Dead Unread p q = absurd (unread_no_dead cell q p)
one_state lists part cell states.Dead states.Dead p q = refl

module _ (cells : List Cell) (lists : Lists) where
  -- the lines of cells are one list
  pub one_copies : (places : List (ℕ × ListPart)) (a b : List CertificateLine) → AreCopyLines cells lists places a → AreCopyLines cells lists places b → a ≡ b
  one_copies [] a b p q = p ∙ sym q
  one_copies (place ∷ places) a b (s, others, is, says, rest) (t, others', is', says', rest') =
      is
      ∙ ap₂ (λ (u : CopyState) (xs : List CertificateLine). lines.Copy place.0 u ∷ xs)
      (one_state lists place.1 (cell_at cells place.0) s t says says') (one_copies places others others' rest rest')
      ∙ sym is'

  -- each cell is told
  pub cell_told : (places : List (ℕ × ListPart)) (told : List CertificateLine) → AreCopyLines cells lists places told
      → (block : ℕ) (part : ListPart) → Contains places (block, part)
      → (state : CopyState) × Contains told (lines.Copy block state) × CellSays lists part (cell_at cells block) state
  cell_told [] told p block part (k, within, is) = absurd (omega (arith, within))
  cell_told (place ∷ places) told (s, others, is, says, rest) block part (zero, within, here) = (
    s,
    subst (λ (xs : List CertificateLine). Contains xs (lines.Copy block s)) (sym is)
        (subst (λ (b : ℕ). Contains (lines.Copy place.0 s ∷ others) (lines.Copy b s)) (ap (λ (p : ℕ × ListPart). p.0) here) (Contains-first (lines.Copy place.0 s) others)),
    subst (λ (p : ℕ × ListPart). CellSays lists p.1 (cell_at cells p.0) s) here says,
  )
  cell_told (place ∷ places) told (s, others, is, says, rest) block part (suc k, within, later) =
      let found = cell_told places others rest block part (k, omega (arith, within), later) in (
        found.0,
        subst (λ (xs : List CertificateLine). Contains xs (lines.Copy block found.0)) (sym is)
            (Contains-later (lines.Copy place.0 s) others (lines.Copy block found.0) found.1),
        found.2,
      )
