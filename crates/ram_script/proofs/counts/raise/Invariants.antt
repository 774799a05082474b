-- The rows so far are raised.
use Rattle.std.proofs.Common.{◌≡◌}
use Rattle.ram_script.specs.Counting.{raised_by}
use Rattle.ram_script.proofs.Counted.{mapped_to}
use Rattle.ram_script.proofs.counts.raise.Given as goal

abbrev pub invariant-loop-row : goal.invariant-loop-row
invariant-loop-row l = l.rows ≡ mapped_to (raised_by l.sense) l.row-index l.fn.rows
