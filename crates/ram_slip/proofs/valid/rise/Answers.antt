use Rattle.ram_slip.proofs.Validity.{not_rising, rising_more}
use Rattle.ram_slip.proofs.valid.rise.Goals as goal

pub returns-then-entries-k : goal.returns-then-entries-k
returns-then-entries-k c =
    (λ t. absurd (let f = t in cc), λ up. absurd (not_rising _ _ _ c.loop-k.auto.k c.loop-k-test.true c.if-entries-k.true up))

pub loop-k-preserved : goal.loop-k-preserved
loop-k-preserved c = rising_more _ _ _ c.loop-k.auto.k c.loop-k-test.true c.loop-k.invariant c.if-entries-k.false
