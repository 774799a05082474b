-- The cell of a block, and what writes and cuts make of it: for every contract about a medium.
use Rattle.std.specs.Prelude.{◌≡◌, ℕ, ◌⊎◌, List, get_or, length}
use Rattle.model_medium.specs.declared.Fate.{Fate}
use Rattle.model_medium.specs.declared.Fate.TheVariants as fates

-- What one block of a medium holds: nothing yet, whole bytes, the rest of a write that was cut short, or nothing
-- ever again. (This project's own.)
pub data Cell : Type 0 where
  Blank : Cell
  Good : List ℕ → Cell
  Torn : Cell
  Dead : Cell

-- the cell of a block; there is none past the end, as if it were dead (this project's own)
abbrev pub cell_at : List Cell → ℕ → Cell
cell_at cells block = get_or cells block Dead

-- What a write that was stopped may leave of a cell: it is as it was, has the new bytes, or is torn or dead.
-- (This project's own.)
abbrev pub MayLeave : Cell → List ℕ → Cell → Type 0
MayLeave old bytes cell = (cell ≡ old) ⊎ (cell ≡ Good bytes) ⊎ (cell ≡ Torn) ⊎ (cell ≡ Dead)

-- What any other use may leave of a cell that it does not write: it is as it was, or dead. (This project's own.)
abbrev pub IsSameOrDead : Cell → Cell → Type 0
IsSameOrDead old cell = (cell ≡ old) ⊎ (cell ≡ Dead)

-- the cell has whole bytes
abbrev pub IsGood : Cell → Type 0
IsGood Blank = ⊥
IsGood (Good bytes) = Unit {0}
IsGood Torn = ⊥
IsGood Dead = ⊥

-- each cell with whole bytes has those of a block (this project's own)
abbrev pub AreWhole : List Cell → Type 0
AreWhole cells = (block : ℕ) (bytes : List ℕ) → cell_at cells block ≡ Good bytes → length bytes ≡ 32768

-- the cell has whole bytes, or is dead
abbrev pub IsGoodOrDead : Cell → Type 0
IsGoodOrDead Blank = ⊥
IsGoodOrDead (Good bytes) = Unit {0}
IsGoodOrDead Torn = ⊥
IsGoodOrDead Dead = Unit {0}

-- what becomes of a cell that is to be this one: a dead cell stays dead (this project's own)
abbrev pub unless_dead : Cell → Cell → Cell
unless_dead Blank cell = cell
unless_dead (Good bytes) cell = cell
unless_dead Torn cell = cell
unless_dead Dead cell = Dead

-- what a write that is done makes of a cell (this project's own)
abbrev pub written : List ℕ → Cell → Cell
written bytes old = unless_dead old (Good bytes)

-- What a write in which the power was cut makes of a cell, by its fate. (This project's own.)
abbrev pub cut_short : Fate → List ℕ → Cell → Cell
cut_short fates.Old bytes old = old
cut_short fates.New bytes old = unless_dead old (Good bytes)
cut_short fates.Torn bytes old = unless_dead old Torn
