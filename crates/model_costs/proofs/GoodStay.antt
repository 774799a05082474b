-- That no cell with whole bytes is lost but by its death.
use Rattle.std.specs.Prelude.{ℕ, List}
use Rattle.model_medium.specs.Cells.{Cell, IsGood, IsGoodOrDead, cell_at}

-- Each cell that had whole bytes has whole bytes, or is dead.
abbrev pub GoodStay : List Cell → List Cell → Type 0
GoodStay old new = (block : ℕ) → IsGood (cell_at old block) → IsGoodOrDead (cell_at new block)
