-- That lines can be counted: no more of them came than bytes.
use Rattle.std.specs.Prelude.{◌≡◌, ℕ, ◌+◌, ◌^◌, ◌<◌, ◌≤◌}
use Rattle.std.proofs.Common.{arith, ap}
use Rattle.ram_script.specs.declared.state.Tally.{Tally}

-- no more lines came than bytes, and no more answers than lines
pub record AreFew (tally : Tally) (taken : ℕ) : Type 0 where
  pub lines : tally.lines ≤ taken
  pub answered : tally.answered ≤ tally.lines

-- one line more
pub few_more : (old new : Tally) (n m k : ℕ) → AreFew old n → n < m → k ≡ m → (new.lines ≡ old.lines + 1) × (new.answered ≤ old.answered + 1) → AreFew new k
few_more old new n m k few more reader one = record { lines = omega (arith, few.lines, more, reader, one.0); answered = omega (arith, few.answered, one.0, one.1) }

-- no line more
pub few_still : (old new : Tally) (n : ℕ) → AreFew old n → n ≤ 67108864 → new ≡ old → new.lines < 2 ^ 63
few_still old new n few within still = omega (arith, few.lines, within, ap (λ (t : Tally). t.lines) still)
