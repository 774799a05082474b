use Rattle.std.specs.Prelude.{length}
use Rattle.ram_spare.proofs.FirstFree.{AreSet}
use Rattle.ram_spare.proofs.cursors.Cursors.set_to_first_free.Given as goal

abbrev pub invariant-loop-pool : goal.invariant-loop-pool
invariant-loop-pool g l = AreSet (g.L.Layout.pools l.layout) l.sdl.entries (length (g.L.Layout.pools l.layout)) l.pool l.self
