use Rattle.std.specs.Prelude.{◌≤◌}
use Rattle.ram_slip.proofs.Counted.{CountsUpTo}
use Rattle.ram_slip.proofs.few.slipped_in.Given as goal

abbrev pub invariant-loop-k : goal.invariant-loop-k
invariant-loop-k l = CountsUpTo l.geometry l.entries l.zone l.k l.count × (l.count ≤ l.k)
