use Rattle.std.proofs.Common.{true≢false, sym, ◌∙◌}
use Rattle.ram_spare.proofs.Naming.{replaced_here, replaced_later, replaced_nowhere}
use Rattle.ram_spare.proofs.spare.is_replacement.Goals as goal

pub returns-then-is_replaced_by : goal.returns-then-is_replaced_by
returns-then-is_replaced_by c = replaced_here _ _ c.args.block _ c.loop-entry-test.true _ c.loop-entry.invariant (c.is_replaced_by.ensures.0 c.if-is_replaced_by.true)

pub loop-entry-preserved : goal.loop-entry-preserved
loop-entry-preserved c = replaced_later _ _ c.args.block _ c.loop-entry-test.true _ c.loop-entry.invariant (λ is. true≢false (sym (c.is_replaced_by.ensures.1 is) ∙ c.if-is_replaced_by.false))

pub returns : goal.returns
returns c = replaced_nowhere _ _ c.args.block _ c.loop-entry-test.false c.loop-entry.invariant
