-- What is left where the free spares are tried one after another: for `find_spare`, `retire_tried` and `draft_moved`.
use Rattle.std.specs.Prelude.{◌≡◌, ℕ, ◌+◌, ◌*◌, ◌<◌, ◌≤◌, ◌⊎◌, Bool, true, Option, Some, None, List, length, slice_get, slice_index}
use Rattle.std.specs.List.{Contains}
use Rattle.model_medium.specs.Cells.{Good, Dead, cell_at}
use Rattle.model_medium.specs.World.{World, Span}
use Rattle.model_stops.specs.Stops.{Continues, Stops}
use Rattle.model_stops.specs.declared.Stop.{Stop}
use Rattle.model_drive.specs.Course.{AreDead}
use Rattle.ram_spare.specs.Turns.{ArePassed}
use Rattle.ram_replace.specs.declared.spares.Found.{Found}

-- The spare is the free one that comes after n in their order. (This project's own, as all here.)
pub record StandsAt (free : List ℕ) (found : Found) : Type 0 where
  pub inside : found.tried < length free
  pub spare_is : found.spare ≡ slice_index free found.tried

-- The spare stands at its turn in the order of its pool, and of those up to it just the free ones were tried.
pub record StandsAtTurn (is_free : ℕ → Bool) (spares : List ℕ) (found : Found) : Type 0 where
  pub here : slice_get spares found.turn ≡ Some found.spare
  pub passed : ArePassed is_free spares (found.tried + 1) (found.turn + 1)

module _ {M : Type 0} (world : M → World) (reaches : M → M → Span → Type 0) (old new : M) (free bytes : List ℕ) where
  -- no cell changed but those of the free spares
  abbrev pub ChangesSparesAlone : Type 0
  ChangesSparesAlone = (block : ℕ) → ¬ Contains free block
      → cell_at (world new).cells block ≡ cell_at (world old).cells block

  -- The first n free spares were written and read back, and are dead.
  pub record HaveFailed (tried : ℕ) : Type 0 where
    pub few : tried ≤ length free
    pub continues : Continues world reaches old new (2 * tried)
    pub as_known : (world new).known ≡ (world old).known
    pub alone : ChangesSparesAlone
    pub dead : AreDead (world new).cells free tried

  -- So many free spares failed, and the next one was written and reads back: it has the bytes, where cells are known.
  pub record IsFound (found : Found) : Type 0 where
    pub stands : StandsAt free found
    pub continues : Continues world reaches old new (2 * found.tried + 2)
    pub as_known : (world new).known ≡ (world old).known
    pub alone : ChangesSparesAlone
    pub dead : AreDead (world new).cells free found.tried
    pub left : (cell_at (world new).cells found.spare ≡ Good bytes) ⊎ (cell_at (world new).cells found.spare ≡ Dead)
    pub has : (world old).known ≡ true → cell_at (world new).cells found.spare ≡ Good bytes

  -- what trying them finds: the first that has the bytes, or none
  abbrev pub FindsSpare : Option Found → Type 0
  FindsSpare (Some found) = IsFound found
  FindsSpare None = HaveFailed (length free)

  -- the trying of spares was stopped
  pub record StopsTrying (stop : Stop) : Type 0 where
    pub stops : Stops world reaches old new (2 * length free) stop
    pub as_known : (world new).known ≡ (world old).known
    pub alone : ChangesSparesAlone
