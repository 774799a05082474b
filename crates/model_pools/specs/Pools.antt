-- Where logical blocks and spares lie, as data, for every kind of layout: a pool has logical blocks, and the spares that these
-- may go to. (This project's own, as all here; linear replacement is ECMA-330's.)
use Rattle.std.specs.Prelude.{◌≡◌, ℕ, zero, suc, ◌-◌, ◌<◌, ◌==◌, ◌||◌, not, Bool, false, IsTrue, IsSome, IsNone, nat_eq, nat_lt, if◌then◌else◌, Option, Some, None, unwrap_or, List, [], ◌∷◌, ◌++◌, length, slice_get, slice_index}
use Rattle.std.specs.List.{All, Contains, IsDistinct, filter, find, after_first}
use Rattle.std.specs.List.Sorted.{IsStrictlyIncreasing}
use Rattle.model_lists.specs.declared.sdl.SdlEntry.{SdlEntry}
use Rattle.model_lists.specs.Values.{defectives}
use Rattle.model_pools.specs.Listed.{AreListed, is_listed, replacements, replacement_of}

-- A pool: its logical blocks in their order, and its spares in the order in which they are taken.
pub record Pool : Type 0 where
  pub blocks : List ℕ
  pub spares : List ℕ

-- ---- blocks, spares and homes

-- all logical blocks: those of one pool after those of another
abbrev pub logical_in : List Pool → List ℕ
logical_in [] = []
logical_in (pool ∷ pools) = pool.blocks ++ logical_in pools

-- all spares, those of one pool after those of another
abbrev pub spares_in : List Pool → List ℕ
spares_in [] = []
spares_in (pool ∷ pools) = pool.spares ++ spares_in pools

-- the pool of a logical block
abbrev pub pool_of : List Pool → (i : ℕ) → ℕ
pool_of [] i = 0
pool_of (pool ∷ pools) i = if nat_lt i (length pool.blocks) then 0 else suc (pool_of pools (i - length pool.blocks))

-- the spares of a pool, in the order in which they are taken
abbrev pub spares_at : List Pool → (pool : ℕ) → List ℕ
spares_at [] k = []
spares_at (pool ∷ pools) zero = pool.spares
spares_at (pool ∷ pools) (suc k) = spares_at pools k

-- the spares that a logical block may go to
abbrev pub spares_for : List Pool → (i : ℕ) → List ℕ
spares_for pools i = spares_at pools (pool_of pools i)

-- the block of logical block i
abbrev pub block_in : List Pool → (i : ℕ) → ℕ
block_in pools i = slice_index (logical_in pools) i

-- all blocks of the pools
abbrev pub all_in : List Pool → List ℕ
all_in pools = logical_in pools ++ spares_in pools

-- What holds of the pools of each layout: two logical blocks are two blocks, two spares are two blocks, and none is both.
pub record ArePools (pools : List Pool) : Type 0 where
  pub blocks : (i j : ℕ) → i < length (logical_in pools) → j < length (logical_in pools)
      → block_in pools i ≡ block_in pools j → i ≡ j
  pub spares : (j k block : ℕ) → slice_get (spares_in pools) j ≡ Some block
      → slice_get (spares_in pools) k ≡ Some block → j ≡ k
  pub apart : (i : ℕ) → i < length (logical_in pools) → ¬ Contains (spares_in pools) (block_in pools i)

-- the home of a logical block: what replaces its block, or else its block (after ECMA-330's linear replacement)
abbrev pub home_in : List Pool → List SdlEntry → (i : ℕ) → ℕ
home_in pools entries i = unwrap_or (replacement_of entries (block_in pools i)) (block_in pools i)

-- ---- free spares

-- a block is free where no entry names it
abbrev pub is_unnamed : List SdlEntry → (block : ℕ) → Bool
is_unnamed entries block = not (is_listed (defectives entries) block || is_listed (replacements entries) block)

-- the free spares of a pool, in their order
abbrev pub free_at : List Pool → List SdlEntry → (pool : ℕ) → List ℕ
free_at pools entries pool = filter (is_unnamed entries) (spares_at pools pool)

-- the free spares that a logical block may go to
abbrev pub free_in : List Pool → List SdlEntry → (i : ℕ) → List ℕ
free_in pools entries i = free_at pools entries (pool_of pools i)

-- The spares that a write of a logical block may use: those that are free for it and not dead. Where each listed block is dead,
-- these are the spares that it may go to, that replace none and are not dead.
abbrev pub usable_in : (ℕ → Bool) → List Pool → List SdlEntry → (i : ℕ) → List ℕ
usable_in is_dead pools entries i = filter (λ b. not (is_dead b)) (free_in pools entries i)

-- the first free spare of a pool, or the first after this one
abbrev pub next_in : List Pool → List SdlEntry → (pool : ℕ) → (after : Option ℕ) → Option ℕ
next_in pools entries pool None = slice_get (free_at pools entries pool) 0
next_in pools entries pool (Some last) = find (is_unnamed entries) (after_first (λ b. b == last) (spares_at pools pool))

-- the cursors of the pools fit: each spare of a pool before its cursor is named by an entry
abbrev pub CursorsFit : List Pool → List SdlEntry → (cursors : List ℕ) → Type 0
CursorsFit pools entries cursors =
    (pool k spare : ℕ) → pool < length cursors → k < slice_index cursors pool
    → slice_get (spares_at pools pool) k ≡ Some spare → is_unnamed entries spare ≡ false

-- ---- valid entries

-- The entries are valid under the pools: their defective blocks are logical blocks or spares, and rise; a defective logical
-- block has a replacement, a spare of its own pool; a defective spare has none; the replacements differ, and none is defective.
pub record AreValidUnder (pools : List Pool) (entries : List SdlEntry) : Type 0 where
  pub within : AreListed (all_in pools) (defectives entries)
  pub rising : IsStrictlyIncreasing (defectives entries)
  pub logical_replaced : All (λ (e : SdlEntry). Contains (logical_in pools) e.defective → IsSome e.replacement) entries
  pub spares_retired : All (λ (e : SdlEntry). Contains (spares_in pools) e.defective → IsNone e.replacement) entries
  pub from_own_pool : (i spare : ℕ) → i < length (logical_in pools)
      → replacement_of entries (block_in pools i) ≡ Some spare → IsTrue (is_listed (spares_for pools i) spare)
  pub from_spares : AreListed (spares_in pools) (replacements entries)
  pub different : IsDistinct nat_eq (replacements entries)
  pub sound : All (λ b. ¬ Contains (defectives entries) b) (replacements entries)
