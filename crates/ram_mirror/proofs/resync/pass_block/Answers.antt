use Rattle.std.proofs.Common.{arith}
use Rattle.ram_mirror.proofs.resync.pass_block.Goals as goal

pub copy_block-requires-clause-small : goal.copy_block-requires-clause-small
copy_block-requires-clause-small g c = let small = c.requires.small in omega (arith, small)
