use Rattle.std.specs.Prelude.{ℕ, ◌<◌, ◌≤◌}
use Rattle.ram_format.specs.TooMany.{both_in}
use Rattle.ram_format.proofs.too_many.first_zone_over.Given as goal

abbrev pub invariant-loop-zone : goal.invariant-loop-zone
invariant-loop-zone l = (zone : ℕ) → zone < l.zone → both_in l.geometry l.kept l.found zone ≤ l.geometry.psa
