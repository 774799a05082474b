-- What a drive stands for: discs as lists of bytes. For all clauses about drives.
use Rattle.std.specs.Prelude.{◌≡◌, ℕ, ◌-◌, ◌*◌, List, [], ◌∷◌, take, drop, replicate, flat_map}
use Rattle.model_bytes.specs.Bytes.{put_at}
use Rattle.model_medium.specs.Cells.{Cell, Blank, Good, Torn, Dead, cell_at}

-- What a drive stands for. With the power on it is a disc: the bytes of its sectors of 2,048 bytes, one after another.
-- With the power off it is some discs, one of which is found when the power goes on. A disc that is not formatted has
-- no sectors. (This project's own, as all here.)
pub data Standing : Type 0 where
  On : List ℕ → Standing
  Off : List (List ℕ) → Standing

-- the bytes of sectors of a disc, n from this one on
unfoldable pub sectors_of : List ℕ → ℕ → ℕ → List ℕ
sectors_of disc lba n = take (2048 * n) (drop (2048 * lba) disc)

-- the bytes of a logical block of a disc, sixteen sectors
unfoldable pub block_of : List ℕ → ℕ → List ℕ
block_of disc i = take 32768 (drop (32768 * i) disc)

-- The disc with these bytes in place of the sectors from this one on, as far as they lie before this logical block.
unfoldable pub replaced : List ℕ → ℕ → List ℕ → ℕ → List ℕ
replaced disc lba bytes block = put_at (2048 * lba) (take (2048 * (16 * block - lba)) bytes) disc

-- a cell with whole bytes has these
abbrev pub Agrees : Cell → List ℕ → Type 0
Agrees Blank bytes = Unit {0}
Agrees (Good held) bytes = held ≡ bytes
Agrees Torn bytes = Unit {0}
Agrees Dead bytes = Unit {0}

-- the discs of which one is found when the power goes off and on again
abbrev pub candidates : Standing → List (List ℕ)
candidates (On disc) = disc ∷ []
candidates (Off discs) = discs

-- n zeros
unfoldable pub zeros : ℕ → List ℕ
zeros n = replicate n 0

-- the whole bytes of a cell, or as many zeros
abbrev pub bytes_or_zeros : Cell → List ℕ
bytes_or_zeros Blank = zeros 32768
bytes_or_zeros (Good bytes) = bytes
bytes_or_zeros Torn = zeros 32768
bytes_or_zeros Dead = zeros 32768

-- The disc that a drive begins with: the bytes of the homes that have whole ones, and zeros for the others. (This
-- project's own.)
unfoldable pub first_disc : List ℕ → List Cell → List ℕ
first_disc homes cells = flat_map (λ block. bytes_or_zeros (cell_at cells block)) homes
