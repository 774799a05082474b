-- Where the free spares of a pool stand in its order, and how many there are.
use Rattle.std.specs.Prelude.{ℕ, ◌≤◌, Bool, List, length}
use Rattle.std.specs.List.{filter}
use Rattle.std.proofs.Common.{sym}
use Rattle.model_sectors.proofs.Covering.{length-filter-le}
use Rattle.ram_spare.specs.declared.spare.FreeSpare.{FreeSpare}
use Rattle.ram_spare.specs.Turns.{IsNextFree, ArePassed}
use Rattle.ram_spare.proofs.Passed.{next_within, next_is_there}
use Rattle.ram_replace.specs.Spares.{StandsAt}

module _ (is_free : ℕ → Bool) (spares : List ℕ) where
  -- what is found next stands behind the free ones that were passed
  pub next_stands : (k turn : ℕ) → ArePassed is_free spares k turn → (free : FreeSpare) → IsNextFree is_free spares turn free
      → StandsAt (filter is_free spares) (record { tried = k; turn = free.turn; spare = free.block })
  next_stands k turn passed free is = record {
    inside = next_within is_free spares k turn passed free is;
    spare_is = sym (next_is_there is_free spares k turn passed free is);
  }

  pub free_few : length (filter is_free spares) ≤ length spares
  free_few = length-filter-le is_free spares
