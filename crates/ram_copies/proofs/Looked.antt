-- How far the copies of a list were looked at: what holds in each turn of the loop, and where it stops.
use Rattle.std.specs.Prelude.{◌≡◌, ◌≢◌, ℕ, ◌+◌, ◌≤◌, true, Option, List}
use Rattle.model_copies.specs.Copies.{IsArea}
use Rattle.model_medium.specs.Cells.{Cell, IsSameOrDead, cell_at}
use Rattle.model_geometry.specs.Geometry.{Shape}
use Rattle.model_medium.specs.World.{World, Span}
use Rattle.model_stops.specs.Stops.{Continues, Stops}
use Rattle.ram_zones.specs.declared.list_kind.ListKind.{ListKind}
use Rattle.ram_copies.specs.Values.{ListValue}
use Rattle.model_stops.specs.declared.Stop.{Stop}
use Rattle.ram_copies.specs.Calls.{first_block, second_block}
use Rattle.ram_copies.specs.Choices.{MayHaveTwo, most_mores, CountFollowing, IsGreatestMarkUpTo, BestUpTo}

-- all that the copies of the first k areas say
pub record CopiesSay (kind : ListKind) (shape : Shape) (cells : List Cell) (accepted : ListValue → Type 0) (k mores : ℕ)
    (best : Option (ListValue × ℕ)) (mark : ℕ) : Type 0 where
  pub counted : CountFollowing kind shape cells k mores
  pub best_is : BestUpTo kind shape cells accepted k best
  pub mark_is : IsGreatestMarkUpTo kind shape cells k mark

module _ {M : Type 0} (world : M → World) (reaches : M → M → Span → Type 0) (kind : ListKind) (old new : M) (shape : Shape) where
  -- no cell changed but those of the list, which are as they were or dead
  pub record OnlyLooks : Type 0 where
    pub as_known : (world new).known ≡ (world old).known
    pub others : (block : ℕ) → ((area : ℕ) → IsArea area → block ≢ first_block kind shape area)
        → (MayHaveTwo kind → (area : ℕ) → IsArea area → block ≢ second_block shape area)
        → cell_at (world new).cells block ≡ cell_at (world old).cells block
    pub left : (block : ℕ) → IsSameOrDead (cell_at (world old).cells block) (cell_at (world new).cells block)

  -- the copies of the first k areas were looked at: one use for each, and one more where a second part follows
  pub record HasLooked (accepted : ListValue → Type 0) (k : ℕ) (best : Option (ListValue × ℕ)) (mark : ℕ) : Type 0 where
    pub mores : ℕ
    pub few : mores ≤ most_mores kind k
    pub continues : Continues world reaches old new (k + mores)
    pub only : OnlyLooks
    pub says : (world old).known ≡ true → CopiesSay kind shape (world new).cells accepted k mores best mark

  -- the looks were stopped
  pub record StopsLookingAt (stop : Stop) : Type 0 where
    pub stops : Stops world reaches old new (4 + most_mores kind 4) stop
    pub only : OnlyLooks
