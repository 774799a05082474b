-- No entry names a block that has a gap.
use Rattle.ram_sdl.proofs.Gaps.{none_there}
use Rattle.ram_sdl.proofs.search.entry_of.Goals as goal

pub returns-in-Err : goal.returns-in-Err
returns-in-Err c = none_there c.args.entries.now c.args.defective c.in-Err.field-0 c.in-Err.ensures
