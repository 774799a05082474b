-- How the cursors stand after the write of one logical block. (This project's own, as all here.)
use Rattle.std.specs.Prelude.{◌≡◌, ℕ, ◌+◌, ◌⊎◌, Some, List, slice_get, slice_set}
use Rattle.model_lists.specs.Values.{Sdl}
use Rattle.model_pools.specs.Pools.{Pool, pool_of, spares_for, home_in}
use Rattle.ram_replace.specs.declared.writing.Outcome.{Outcome}
use Rattle.ram_replace.specs.declared.writing.Outcome.TheVariants as outcomes
use Rattle.ram_replace.specs.declared.writing.Placed.{Placed}
use Rattle.ram_replace.specs.declared.writing.Placed.TheVariants as places

module _ (pools : List Pool) (sdl sdl' : Sdl) (i : ℕ) (old new : List ℕ) where
  -- The block is in its home, which it had: neither the secondary list nor a cursor changed.
  pub record StaysHome : Type 0 where
    pub same_list : sdl' ≡ sdl
    pub same : new ≡ old

  -- The block went to the spare of this turn in its pool: the list is the next one, and the cursor of the pool stands behind
  -- the spare.
  pub record GoesToTurn : Type 0 where
    pub next_list : sdl'.counter ≡ sdl.counter + 1
    pub turn : ℕ
    pub home_is : slice_get (spares_for pools i) turn ≡ Some (home_in pools sdl'.entries i)
    pub behind : new ≡ slice_set old (pool_of pools i) (turn + 1)

  -- how they stand after a write that was not stopped
  abbrev pub LeavesCursors : Outcome → Type 0
  LeavesCursors outcomes.Done = StaysHome ⊎ GoesToTurn
  LeavesCursors outcomes.NoSpare = new ≡ old
  LeavesCursors (outcomes.NoUpdate counter) = new ≡ old

  -- the same by the answer of the call
  abbrev pub CursorsPlaced : Placed → Type 0
  CursorsPlaced places.Done = StaysHome ⊎ GoesToTurn
  CursorsPlaced places.NoSpare = new ≡ old
  CursorsPlaced (places.NoUpdate counter) = new ≡ old
  CursorsPlaced places.Cut = new ≡ old
  CursorsPlaced places.Off = new ≡ old
  CursorsPlaced places.Fault = new ≡ old
