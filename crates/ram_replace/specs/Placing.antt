-- What the write of one logical block does, by its answer: for `place` and `write_home`.
use Rattle.std.specs.Prelude.{◌≡◌, ℕ, ⊤, Bool, true, IsTrue, List}
use Rattle.model_geometry.specs.Geometry.{Shape}
use Rattle.model_medium.specs.World.{World, Span, UseContinues}
use Rattle.model_stops.specs.declared.Stop.{Stop}
use Rattle.model_stops.specs.declared.Stop.TheVariants as stops
use Rattle.model_places.specs.Places.{Lists}
use Rattle.model_drive.specs.Blocks.{PutsBlock, FindsNoSpare, FindsNoCopy, StopsAtBlock}
use Rattle.ram_copies.specs.Calls.{StoppedCounts}
use Rattle.ram_replace.specs.declared.writing.Outcome.{Outcome}
use Rattle.ram_replace.specs.declared.writing.Outcome.TheVariants as outcomes
use Rattle.ram_replace.specs.declared.writing.Placed.{Placed}
use Rattle.ram_replace.specs.declared.writing.Placed.TheVariants as places

-- what was read back of a block whose write is done, where cells are known: the bytes of the block (this project's own)
abbrev pub EndsWithReadBack : (known : Bool) → (bytes back : List ℕ) → Outcome → Type 0
EndsWithReadBack known bytes back outcomes.Done = known ≡ true → back ≡ bytes
EndsWithReadBack known bytes back outcomes.NoSpare = ⊤
EndsWithReadBack known bytes back (outcomes.NoUpdate counter) = ⊤

-- the same by the answer of the call
abbrev pub LeavesReadBack : (known : Bool) → (bytes back : List ℕ) → Placed → Type 0
LeavesReadBack known bytes back places.Done = known ≡ true → back ≡ bytes
LeavesReadBack known bytes back places.NoSpare = ⊤
LeavesReadBack known bytes back (places.NoUpdate counter) = ⊤
LeavesReadBack known bytes back places.Cut = ⊤
LeavesReadBack known bytes back places.Off = ⊤
LeavesReadBack known bytes back places.Fault = ⊤

module _ {M : Type 0} (world : M → World) (reaches : M → M → Span → Type 0) (shape : Shape) (old new : M)
    (lists : Lists) (i : ℕ) (bytes : List ℕ) (lists' : Lists) where
  -- The call went to its end: the power was on and is on, and neither a cut nor a fault is counted.
  pub record HasEnded : Type 0 where
    pub was_on : IsTrue (world old).power
    pub counts : UseContinues (world old) (world new)

  -- The block is written, to its home or to a spare, and these are the lists then.
  pub record PlacesBlock : Type 0 where
    pub ended : HasEnded
    pub puts : PutsBlock world reaches shape old new lists i bytes lists'

  -- the home and all free spares are dead, and the lists are as before
  pub record MeetsNoSpare : Type 0 where
    pub ended : HasEnded
    pub finds : FindsNoSpare world reaches shape old new lists i bytes lists'

  -- a spare has the bytes, but the list of this counter could not be updated, and the lists are as before
  pub record MeetsNoCopy (counter : ℕ) : Type 0 where
    pub ended : HasEnded
    pub finds : FindsNoCopy world reaches shape old new lists i bytes lists' counter

  -- The write was stopped, for a cause that its count shows. The lists in memory are as before; those that the cells give
  -- are the lists before or after, and the disc before or after fits under them; and this is left of the copies, from below.
  pub record PlacingStopped (stop : Stop) : Type 0 where
    pub was_on : IsTrue (world old).power
    pub counts : StoppedCounts (world old) (world new) stop
    pub same : lists' ≡ lists
    pub stopped : StopsAtBlock world reaches shape old new lists i bytes stop

  -- the power was off, and nothing was done
  pub record FoundOff : Type 0 where
    pub off : ¬ IsTrue (world old).power
    pub nothing : new ≡ old
    pub same : lists' ≡ lists

  -- how a write that was not stopped ended
  abbrev pub EndsPlacing : Outcome → Type 0
  EndsPlacing outcomes.Done = PlacesBlock
  EndsPlacing outcomes.NoSpare = MeetsNoSpare
  EndsPlacing (outcomes.NoUpdate counter) = MeetsNoCopy counter

  -- what the write of a block does, by its answer
  abbrev pub PlacedRule : Placed → Type 0
  PlacedRule places.Done = PlacesBlock
  PlacedRule places.NoSpare = MeetsNoSpare
  PlacedRule (places.NoUpdate counter) = MeetsNoCopy counter
  PlacedRule places.Cut = PlacingStopped stops.Cut
  PlacedRule places.Off = FoundOff
  PlacedRule places.Fault = PlacingStopped stops.Fault
