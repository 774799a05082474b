-- What a verification does with the homes of the blocks of its request. (This project's own, as all here.)
use Rattle.std.specs.Prelude.{◌≡◌, ℕ, ◌+◌, ◌<◌, true, Option, Some, None, Result, Ok, Err}
use Rattle.model_geometry.specs.Geometry.{Shape}
use Rattle.model_medium.specs.Cells.{IsGood, cell_at}
use Rattle.model_medium.specs.World.{World, Span}
use Rattle.model_sectors.specs.Requests.{block_with, blocks_covered}
use Rattle.model_stops.specs.Stops.{Continues, Stops}
use Rattle.model_stops.specs.declared.Stop.{Stop}
use Rattle.model_places.specs.Places.{Lists, home_of}
use Rattle.ram_transfer.specs.Blocks.{DiesAtMost}

module _ {M : Type 0} (world : M → World) (reaches : M → M → Span
    → Type 0) (old new : M) (shape : Shape) (lists : Lists)
    (lba : ℕ) where
  -- the home of the block after n
  abbrev pub home_after : ℕ → ℕ
  home_after before = home_of shape lists (block_with lba + before)

  -- each of the first n homes has whole bytes
  abbrev pub HaveWholeHomes : ℕ → Type 0
  HaveWholeHomes count = (world old).known ≡ true
      → (k : ℕ) → k < count → IsGood (cell_at (world new).cells (home_after k))

  -- the homes of the first k blocks of the request were read
  pub record HasVerifiedUpTo (k : ℕ) : Type 0 where
    pub continues : Continues world reaches old new k
    pub same_cells : (world new).cells ≡ (world old).cells
    pub good : HaveWholeHomes k

  module _ (n : ℕ) where
    -- the home of the block after n has no whole bytes
    pub record MeetsBadHome (before : ℕ) : Type 0 where
      pub covered : before < blocks_covered lba n
      pub continues : Continues world reaches old new (before + 1)
      pub good : HaveWholeHomes before
      pub not_good : ¬ IsGood (cell_at (world new).cells (home_after before))
      pub dies : DiesAtMost (world old).cells (world new).cells (home_after before)

    -- the verification was stopped in some block
    pub record StopsAtHome (stop : Stop) : Type 0 where
      pub before : ℕ
      pub covered : before < blocks_covered lba n
      pub stops : Stops world reaches old new (blocks_covered lba n) stop
      pub dies : DiesAtMost (world old).cells (world new).cells (home_after before)

    -- How the reading of all homes ends: all have whole bytes, or that of the block after n has none, or it was
    -- stopped.
    abbrev pub HomesEnd : Result (Option ℕ) Stop → Type 0
    HomesEnd (Ok None) = HasVerifiedUpTo (blocks_covered lba n)
    HomesEnd (Ok (Some before)) = MeetsBadHome before
    HomesEnd (Err stop) = StopsAtHome stop
