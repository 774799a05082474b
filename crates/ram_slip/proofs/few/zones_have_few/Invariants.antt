use Rattle.std.specs.Prelude.{ℕ, ◌<◌, ◌≤◌}
use Rattle.model_lists.specs.Values.{pdl_blocks}
use Rattle.model_places.specs.Valid.{slipped_in}
use Rattle.ram_slip.proofs.few.zones_have_few.Given as goal

abbrev pub invariant-loop-zone : goal.invariant-loop-zone
invariant-loop-zone l = (z : ℕ) → z < l.zone → slipped_in l.geometry (pdl_blocks l.entries) z ≤ l.most
