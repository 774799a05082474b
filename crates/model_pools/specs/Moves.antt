-- The entries of a secondary list after a logical block went to a spare: for a write that replaces. (This project's own, after
-- ECMA-330's linear replacement.)
use Rattle.std.specs.Prelude.{◌≡◌, ℕ, zero, suc, ◌+◌, ◌<◌, ◌==◌, if◌then◌else◌, List, [], ◌∷◌, length, slice_index}
use Rattle.model_lists.specs.declared.sdl.SdlEntry.{SdlEntry}
use Rattle.model_lists.specs.Values.{Sdl, with_entry, pair, retired}
use Rattle.model_pools.specs.Pools.{Pool, block_in, home_in}

-- the entries with these spares retired
abbrev pub with_retired : List ℕ → List SdlEntry → List SdlEntry
with_retired [] entries = entries
with_retired (spare ∷ spares) entries = with_entry (retired spare) (with_retired spares entries)

-- the former replacement of a logical block, where its home is not its own block
abbrev pub former : (own home : ℕ) → List ℕ
former own home = if home == own then [] else home ∷ []

-- The entries after logical block i went to a spare: the spares that failed are retired, its block has the pair with the spare,
-- and its former replacement is retired.
abbrev pub entries_moved_in : List Pool → List SdlEntry → (i : ℕ) → (failed : List ℕ) → (spare : ℕ) → List SdlEntry
entries_moved_in pools entries i failed spare =
    with_retired (former (block_in pools i) (home_in pools entries i))
    (with_entry (pair (block_in pools i) spare) (with_retired failed entries))

-- the secondary list with these entries, and its counter one greater
abbrev pub sdl_moved_in : List Pool → Sdl → (i : ℕ) → (failed : List ℕ) → (spare : ℕ) → Sdl
sdl_moved_in pools sdl i failed spare =
    record sdl { counter = sdl.counter + 1; entries = entries_moved_in pools sdl.entries i failed spare }

-- the first n of a list, the last one first
abbrev pub tried_of : List ℕ → ℕ → List ℕ
tried_of free zero = []
tried_of free (suc k) = slice_index free k ∷ tried_of free k

-- The free spares before this one were tried in their order, and this one is the next.
pub record IsNextOf (free : List ℕ) (failed : List ℕ) (spare : ℕ) : Type 0 where
  pub tried : ℕ
  pub failed_are : failed ≡ tried_of free tried
  pub inside : tried < length free
  pub spare_is : spare ≡ slice_index free tried
