-- To which of its values a block may fall back: what an acknowledgement promises of it when the power is lost. (This
-- project's own, as all here.)
use Rattle.std.specs.Prelude.{◌≡◌, ℕ, ◌+◌, ◌*◌, ◌≤◌, ◌⊎◌, List, length}
use Rattle.std.specs.List.{All, Contains}
use Rattle.model_sectors.specs.Discs.{block_of, replaced}
use Rattle.model_cache.specs.Values.{Values, Contents, Has, HasBlock, HasValue, candidates_of, settled_values}

-- if the disc has the block, this is so of each of the block's values
abbrev pub EachValue : (List ℕ → Type 0) → ℕ → Values → Type 0
EachValue so i v = HasBlock v.disc i → (bytes : List ℕ) → HasValue v i bytes → so bytes

-- Whichever disc is found when the power goes off and on again, this is so of the block's value, or it has no block of this
-- number.
abbrev pub FallsTo : (List ℕ → Type 0) → ℕ → Contents → Type 0
FallsTo so i s = All (EachValue so i) (candidates_of s)

-- whichever disc is found, it has one of these as the block's value, or has no block of this number
abbrev pub FallsWithin : List (List ℕ) → ℕ → Contents → Type 0
FallsWithin choices i s = FallsTo (Contains choices) i s

-- the value that a write of these bytes gives a block
abbrev pub value_written : Values → (lba : ℕ) → List ℕ → ℕ → List ℕ
value_written v lba bytes i = block_of (replaced v.disc lba bytes (i + 1)) i

-- the disc has n logical blocks, and the sectors of a request are its own
pub record LiesIn (disc : List ℕ) (lba n : ℕ) (bytes : List ℕ) : Type 0 where
  pub blocks : ℕ
  pub as_long : length disc ≡ 32768 * blocks
  pub inside : lba + n ≤ 16 * blocks
  pub whole : length bytes ≡ 2048 * n

-- no sector of the request lies in the block
abbrev pub Misses : (lba n i : ℕ) → Type 0
Misses lba n i = (16 * i + 16 ≤ lba) ⊎ (lba + n ≤ 16 * i)

-- The power is on, each block has one value, and this block has one of these, if the disc has it.
pub record HasOneOf (choices : List (List ℕ)) (i : ℕ) (s : Contents) : Type 0 where
  pub disc : List ℕ
  pub is : s ≡ Has (settled_values disc)
  pub one : HasBlock disc i → Contains choices (block_of disc i)
