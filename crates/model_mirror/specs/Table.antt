-- Which logical blocks of a mirror are apart: a table with an entry for each block of the lead's disc. (This project's own, as
-- all here.)
use Rattle.std.specs.Prelude.{◌≡◌, ℕ, ◌+◌, ◌-◌, ◌<◌, ◌&&◌, ◌||◌, not, if◌then◌else◌, Bool, true, false, List, [], ◌∷◌, length, get_or}
use Rattle.model_sectors.specs.Requests.{block_with, blocks_covered, is_partly}
use Rattle.model_cache.specs.Values.{is_among}

-- whether a block is apart; one without an entry is
abbrev pub is_apart : List Bool → ℕ → Bool
is_apart table i = get_or table i true

-- whether some block is
abbrev pub some_apart : List Bool → Bool
some_apart [] = false
some_apart (apart ∷ table) = apart || some_apart table

-- 1 for a block that is apart, else 0
abbrev pub one_if : Bool → ℕ
one_if apart = if apart then 1 else 0

-- how many are
abbrev pub count_apart : List Bool → ℕ
count_apart [] = 0
count_apart (apart ∷ table) = one_if apart + count_apart table

-- The chosen blocks have this mark now, and the others are as before.
pub record AreMarked (chosen : ℕ → Bool) (mark : Bool) (old new : List Bool) : Type 0 where
  pub as_long : length new ≡ length old
  pub each : (i : ℕ) → i < length old → is_apart new i ≡ (if chosen i then mark else is_apart old i)

-- the blocks that a request covers
abbrev pub is_covered : (lba n i : ℕ) → Bool
is_covered lba n i = is_among (block_with lba) (blocks_covered lba n) i

-- those that it covers wholly
abbrev pub is_wholly_covered : (lba n i : ℕ) → Bool
is_wholly_covered lba n i = is_covered lba n i && not (is_partly lba n i)

-- those before the one of this sector
abbrev pub is_covered_before : (lba n named i : ℕ) → Bool
is_covered_before lba n named i = is_among (block_with lba) (block_with named - block_with lba) i

-- those from the one of this sector on
abbrev pub is_covered_from : (lba n named i : ℕ) → Bool
is_covered_from lba n named i = is_among (block_with named) (block_with lba + blocks_covered lba n - block_with named) i

-- just one block
abbrev pub is_block : ℕ → ℕ → Bool
is_block block i = is_among block 1 i
