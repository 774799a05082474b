use Rattle.ram_spare.specs.Spares.{both_lists}
use Rattle.ram_spare.proofs.UsedUp.{AreLeft}
use Rattle.ram_spare.proofs.count.counts.Given as goal

abbrev pub invariant-loop-entry : goal.invariant-loop-entry
invariant-loop-entry l = AreLeft l.geometry (both_lists l.dds l.sdl) l.entry-index l.free.free_primary l.free.free_supplementary
