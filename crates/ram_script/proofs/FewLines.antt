-- That lines can be counted: no more of them came than bytes.
use Rattle.std.specs.Prelude.{◌≡◌, ℕ, ◌+◌, ◌^◌, ◌<◌, ◌≤◌}
use Rattle.std.proofs.Common.{arith, ap}
use Rattle.ram_script.specs.declared.state.Tally.{Tally}
use Rattle.ram_script.specs.Counting.{AreAtMost}

-- no more lines came than bytes, and no more answers than lines, of any kind
pub record IsFewLines (tally : Tally) (taken : ℕ) : Type 0 where
  pub lines : tally.lines ≤ taken
  pub answered : tally.answered ≤ tally.lines
  pub counts : AreAtMost tally.counts tally.lines

-- one line more
pub few_more : (a b c : Tally) (n m k : ℕ) → IsFewLines a n → n < m → k ≡ m → b ≡ a → (c.lines ≡ b.lines + 1) × (c.answered ≤ b.answered + 1) × AreAtMost c.counts c.lines → IsFewLines c k
few_more a b c n m k few more reader same one =
    let lines = ap (λ (t : Tally). t.lines) same in
    let answered = ap (λ (t : Tally). t.answered) same in
    record { lines = omega (arith, few.lines, more, reader, lines, one.0); answered = omega (arith, few.answered, lines, answered, one.0, one.1); counts = one.2 }

-- no line more
pub few_still : (a b c : Tally) (n : ℕ) → IsFewLines a n → n ≤ 67108864 → b ≡ a → c ≡ b → c.lines < 2 ^ 63
few_still a b c n few within same still = omega (arith, few.lines, within, ap (λ (t : Tally). t.lines) same, ap (λ (t : Tally). t.lines) still)
