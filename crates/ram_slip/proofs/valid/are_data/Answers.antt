use Rattle.std.proofs.Common.{refl}
use Rattle.ram_slip.proofs.Validity.{not_data, data_more, data_all}
use Rattle.ram_slip.proofs.valid.are_data.Goals as goal

pub returns-in-None : goal.returns-in-None
returns-in-None c =
    (λ t. absurd (let f = t in cc), λ all. absurd (not_data _ _ _ _ c.loop-entry-test.true c.in-None.ensures all))

pub loop-entry-preserved : goal.loop-entry-preserved
loop-entry-preserved c = data_more _ _ _ _ _ c.loop-entry-test.true c.loop-entry.invariant c.in-Some.ensures

pub returns : goal.returns
returns c = (λ _. data_all _ _ _ c.loop-entry-test.false c.loop-entry.invariant, λ _. refl)
