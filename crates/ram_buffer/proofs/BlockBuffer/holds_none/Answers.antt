use Rattle.ram_buffer.proofs.Steps.{lacks_tells}
use Rattle.ram_buffer.proofs.BlockBuffer.holds_none.Goals as goal

pub returns-clause-none : goal.returns-clause-none
returns-clause-none c =
    lacks_tells c.self.inside c.self.invariant c.as_slice.result.now c.as_slice.ensures.value c.args.self.now c.self.view_is c.args.first c.args.count c.lacks_all.result c.lacks_all.ensures
