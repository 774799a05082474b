use Rattle.std.specs.Prelude.{◌≤◌}
use Rattle.ram_format.proofs.ZoneCounts.{CountsBlocks}
use Rattle.ram_format.proofs.too_many.found_in.Given as goal

abbrev pub invariant-loop-k : goal.invariant-loop-k
invariant-loop-k l = CountsBlocks l.geometry l.found l.zone l.k l.count × (l.count ≤ l.k)
