-- What a stopped update, repair or mount leaves of the copies of both lists, from below: which cells are done, which are as they
-- were, and which area it was at. For the answers of stopped calls. (This project's own, as all here.)
use Rattle.std.specs.Prelude.{◌≡◌, ℕ, ◌⊎◌, List}
use Rattle.model_geometry.specs.Geometry.{Shape, dds_block, sdl_block, sdl_second_block}
use Rattle.model_lists.specs.Values.{Dds, Sdl}
use Rattle.model_lists.specs.Texts.{IsDdsText, IsTwo, IsSdlText, IsSdlSecond}
use Rattle.model_medium.specs.Cells.{Cell, Dead, IsSameOrDead, cell_at}
use Rattle.model_copies.specs.Copies.{IsArea, MayHold}
use Rattle.model_copies.specs.Parts.{MayLeaveParts, StayDead}
use Rattle.model_copies.specs.Stops.{StopsAt, SparesExact, StopsInArea, SpareExactParts}
use Rattle.model_places.specs.Places.{Lists}
use Rattle.model_volume.specs.Given.{LosesListCells, AreSeen, IsChosenDds, AreChosen}

module _ (shape : Shape) (old new : List Cell) where
  -- What an update of the structure that was stopped leaves of its copies: each is as it was, exactly the text, torn or dead,
  -- and a dead one stays dead; the areas before one are done, and those after it are as they were or dead.
  pub record LeavesDds (dds : Dds) : Type 0 where
    pub may : (area : ℕ) → IsArea area
        → MayHold IsDdsText (cell_at old (dds_block shape area)) dds (cell_at new (dds_block shape area))
    pub stays_dead : (area : ℕ) → IsArea area → cell_at old (dds_block shape area) ≡ Dead
        → cell_at new (dds_block shape area) ≡ Dead
    pub at : ℕ
    pub stops : StopsAt IsDdsText (dds_block shape) old new dds at

  -- The same of the cells of the secondary list's copies: each is as it was, exactly its part of the text, torn or dead.
  pub record LeavesSdl (sdl : Sdl) : Type 0 where
    pub may : MayLeaveParts IsTwo IsSdlText IsSdlSecond (sdl_block shape) (sdl_second_block shape) old new sdl
    pub stays_dead : StayDead IsTwo IsSdlText IsSdlSecond (sdl_block shape) (sdl_second_block shape) old new
    pub stops : StopsInArea IsTwo IsSdlText IsSdlSecond (sdl_block shape) (sdl_second_block shape) old new sdl

  -- A repair of the structure leaves what an update does, and no copy that was exactly the text was written.
  pub record MendsDds (dds : Dds) : Type 0 where
    pub left : LeavesDds dds
    pub spares : SparesExact IsDdsText (dds_block shape) old new dds

  -- and so does one of the secondary list
  pub record MendsSdl (sdl : Sdl) : Type 0 where
    pub left : LeavesSdl sdl
    pub spares : SpareExactParts IsTwo IsSdlText IsSdlSecond (sdl_block shape) (sdl_second_block shape) old new sdl

  -- Both lists of these were repaired, up to where that was stopped: a list that it did not come to has an area 0.
  pub record MendsLists (lists : Lists) : Type 0 where
    pub dds : MendsDds lists.dds
    pub sdl : MendsSdl lists.sdl

  -- the cells of the secondary list's copies are as they were, or dead
  pub record SdlCellsDie : Type 0 where
    pub firsts : (area : ℕ) → IsArea area
        → IsSameOrDead (cell_at old (sdl_block shape area)) (cell_at new (sdl_block shape area))
    pub seconds : (area : ℕ) → IsArea area
        → IsSameOrDead (cell_at old (sdl_second_block shape area)) (cell_at new (sdl_second_block shape area))

  -- the structure alone was repaired, up to where that was stopped: it was chosen in this area
  pub record MendsOne (dds : Dds) (area : ℕ) : Type 0 where
    pub chosen : IsChosenDds shape old dds area
    pub mends : MendsDds dds
    pub dies : SdlCellsDie

  -- both lists were, which were chosen
  pub record MendsBoth (lists : Lists) : Type 0 where
    pub chosen : AreChosen shape old lists
    pub mends : MendsLists lists

  -- What a mount repaired, by what it chose of the cells that it saw: nothing, and some list cells died; the structure
  -- alone, where that is all that it chose or it was stopped there; or both lists.
  abbrev pub MendsChosen : Type 0
  MendsChosen = LosesListCells shape old new
      ⊎ ((dds : Dds) × (area : ℕ) × MendsOne dds area)
      ⊎ ((lists : Lists) × MendsBoth lists)

-- What a stopped mount leaves of the lists: what it saw, and what it repaired of that.
pub record StopsMounting (shape : Shape) (old new : List Cell) : Type 0 where
  pub seen : List Cell
  pub are_seen : AreSeen shape old seen new
  pub mends : MendsChosen shape seen new
