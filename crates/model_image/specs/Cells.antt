-- Where the cells of a disc stand in an image's bytes, and what a change of one does to all: for `ram_image` and a run.
use Rattle.std.specs.Prelude.{◌≡◌, ℕ, ◌+◌, ◌*◌, ◌⊎◌, ◌==◌, if◌then◌else◌, Option, Some, None, List, [], length, take, drop, map, set, slice_index}
use Rattle.std.specs.List.{range_with_len}
use Rattle.model_medium.specs.Cells.{Cell, Blank, Good, Torn, Dead, cell_at, MayLeave}

-- where the state byte of a block stands, behind a header of 16 bytes (this project's own, as all of the image)
abbrev pub state_offset : ℕ → ℕ
state_offset block = 16 + block

-- where the data of a block begin, behind the state bytes of all blocks
abbrev pub data_offset : ℕ → ℕ → ℕ
data_offset total block = 16 + total + 32768 * block

-- the cell that a state byte and a block's data give
abbrev pub cell_of : ℕ → List ℕ → Cell
cell_of state block_data =
    if state == 0 then Blank else (if state == 1 then Good block_data else (if state == 3 then Dead else Torn))

-- the data of a block in an image of n blocks
abbrev pub data_in : ℕ → List ℕ → ℕ → List ℕ
data_in total bytes block = take 32768 (drop (data_offset total block) bytes)

-- the cell of a block in an image of n blocks
abbrev pub cell_in : ℕ → List ℕ → ℕ → Cell
cell_in total bytes block = cell_of (slice_index bytes (state_offset block)) (data_in total bytes block)

-- the cells of an image of n blocks
abbrev pub cells_of : ℕ → List ℕ → List Cell
cells_of total bytes = map (cell_in total bytes) (range_with_len 0 total)

-- how many bytes an image of n blocks has
abbrev pub image_len : ℕ → ℕ
image_len total = 16 + total + 32768 * total

-- The image is as long, has the same header, and the same cells but for this block's, which is now this one.
pub record SetsCell (total block : ℕ) (cell : Cell) (before after : List ℕ) : Type 0 where
  pub as_long : length after ≡ length before
  pub header : take 16 after ≡ take 16 before
  pub cells : cells_of total after ≡ set (cells_of total before) block cell

-- A write of these bytes to a block was stopped: its cell is as it was, has the bytes, or is torn or dead.
pub record StopsInCell (total block : ℕ) (bytes : List ℕ) (before after : List ℕ) : Type 0 where
  pub cell : Cell
  pub may : MayLeave (cell_at (cells_of total before) block) bytes cell
  pub sets : SetsCell total block cell before after

-- A write of a block's state byte was stopped: its cell is as it was, or the one that the whole write makes.
pub record StopsInState (total block : ℕ) (cell : Cell) (before after : List ℕ) : Type 0 where
  pub left : Cell
  pub may : (left ≡ cell_at (cells_of total before) block) ⊎ (left ≡ cell)
  pub sets : SetsCell total block left before after

-- the cells of an image of n blocks where its bytes are known, and none where they are not
abbrev pub cells_known : ℕ → Option (List ℕ) → List Cell
cells_known total None = []
cells_known total (Some bytes) = cells_of total bytes
