-- What a stopped update or repair leaves of the copies of a list, from below: which are done, which are as they were, and which one
-- it was at. For the answers of updates and repairs. (This project's own.)
use Rattle.std.specs.Prelude.{ℕ, ◌<◌, ◌⊎◌, List}
use Rattle.model_medium.specs.Cells.{Cell, IsSameOrDead, cell_at}
use Rattle.model_copies.specs.Copies.{IsArea, Holds, HoldsOrDead}

module _ {V : Type 0} (text : V → List ℕ → Type 0) (place : ℕ → ℕ) (old new : List Cell) (value : V) where
  -- A writing of the value's text, area after area, was stopped in this one: in the areas before it each cell is exactly the text
  -- or dead, and in those after it each is as it was or dead.
  pub record StopsAt (at : ℕ) : Type 0 where
    pub done : (area : ℕ) → IsArea area → area < at → HoldsOrDead text (cell_at new (place area)) value
    pub to_come : (area : ℕ) → IsArea area → at < area
        → IsSameOrDead (cell_at old (place area)) (cell_at new (place area))

  -- a cell that was exactly the text is not written: it is as it was, or dead
  abbrev pub SparesExact : Type 0
  SparesExact = (area : ℕ) → IsArea area → Holds text (cell_at old (place area)) value
      → IsSameOrDead (cell_at old (place area)) (cell_at new (place area))

module _ {V : Type 0} (two : V → Type 0) (first second : V → List ℕ → Type 0) (place place' : ℕ → ℕ)
    (old new : List Cell) (value : V) where
  -- The writing of a text of one part or of two was stopped in one area: both parts are so, and in that area the second comes after
  -- the first. So one cell is torn at most.
  pub record StopsInArea : Type 0 where
    pub at : ℕ
    pub firsts : StopsAt first place old new value at
    pub seconds : two value → StopsAt second place' old new value at
    pub second_later : two value → IsSameOrDead (cell_at old (place' at)) (cell_at new (place' at))
        ⊎ HoldsOrDead first (cell_at new (place at)) value

  -- no cell that was exactly its part of the text is written
  pub record SpareExactParts : Type 0 where
    pub firsts : SparesExact first place old new value
    pub seconds : two value → SparesExact second place' old new value
