-- All that any medium shows, and what one use of it may do by its answer: for the trait `Medium` and all above it.
use Rattle.std.specs.Prelude.{◌≡◌, ◌≢◌, ℕ, ◌⊎◌, Bool, IsTrue, List, []}
use Rattle.std.specs.Bool.{OnTrue, OnFalse}
use Rattle.model_counts.specs.Counts.{counted, Rose}
use Rattle.model_medium.specs.Cells.{Cell, Good, Dead, IsGood, cell_at, MayLeave, IsSameOrDead}
use Rattle.model_medium.specs.declared.ReadEnd.{ReadEnd}
use Rattle.model_medium.specs.declared.ReadEnd.TheVariants as reads
use Rattle.model_medium.specs.declared.WriteEnd.{WriteEnd}
use Rattle.model_medium.specs.declared.WriteEnd.TheVariants as writes

-- All that any medium shows: its label, which is numbers that no use changes, whether its cells are known, the cells
-- (none where they are not known), whether the power is on, how many uses there were, and how often the power was cut
-- and what the medium lies on has failed. A use is one read or write with the power on, however it ends. (This project's
-- own.)
pub record World : Type 0 where
  pub label : List ℕ
  pub known : Bool
  pub cells : List Cell
  pub power : Bool
  pub uses : ℕ
  pub cuts : ℕ
  pub faults : ℕ

-- a medium whose cells are not known shows none
abbrev pub ShowsNoneUnknown : World → Type 0
ShowsNoneUnknown world = OnFalse world.known (world.cells ≡ [])

-- One use of a block, however it ended: it is counted, the label stays, no cell but the block's changed, and a dead cell
-- stays dead. (This project's own.)
pub record IsUse (old new : World) (block : ℕ) : Type 0 where
  pub was_on : IsTrue old.power
  pub same_label : new.label ≡ old.label
  pub as_known : new.known ≡ old.known
  pub counts : new.uses ≡ counted old.uses 1
  pub others : (other : ℕ) → other ≢ block → cell_at new.cells other ≡ cell_at old.cells other
  pub stays_dead : cell_at old.cells block ≡ Dead → cell_at new.cells block ≡ Dead

-- the use went to its end: the power is on, and neither a cut nor a fault is counted
pub record UseContinues (old new : World) : Type 0 where
  pub stays_on : IsTrue new.power
  pub no_cut : new.cuts ≡ old.cuts
  pub no_fault : new.faults ≡ old.faults

-- the power was cut in the use: it is off, and the cut alone is counted
pub record IsCut (old new : World) : Type 0 where
  pub turns_off : ¬ IsTrue new.power
  pub one_cut : new.cuts ≡ counted old.cuts 1
  pub no_fault : new.faults ≡ old.faults

-- what the medium lies on failed in the use: the power is off, and the fault is counted
pub record HasFailed (old new : World) : Type 0 where
  pub turns_off : ¬ IsTrue new.power
  pub no_cut : new.cuts ≡ old.cuts
  pub fault : Rose old.faults new.faults

-- the power was off, and nothing changed
pub record IsOff (old new : World) : Type 0 where
  pub was_off : ¬ IsTrue old.power
  pub nothing : new ≡ old

-- the read gave the bytes of a good cell, and no cell changed
pub record ReadsCell (old new : World) (block : ℕ) (into' : List ℕ) : Type 0 where
  pub one : IsUse old new block
  pub use_continues : UseContinues old new
  pub same : new.cells ≡ old.cells
  pub gives : OnTrue old.known (cell_at new.cells block ≡ Good into')

-- the read found no good cell there
pub record FindsNoBytes (old new : World) (block : ℕ) (into into' : List ℕ) : Type 0 where
  pub one : IsUse old new block
  pub use_continues : UseContinues old new
  pub left : IsSameOrDead (cell_at old.cells block) (cell_at new.cells block)
  pub not_good : ¬ IsGood (cell_at new.cells block)
  pub kept : into' ≡ into

-- the power was cut in the read
pub record IsCutInRead (old new : World) (block : ℕ) (into into' : List ℕ) : Type 0 where
  pub one : IsUse old new block
  pub cut : IsCut old new
  pub left : IsSameOrDead (cell_at old.cells block) (cell_at new.cells block)
  pub kept : into' ≡ into

-- the read failed
pub record FailsInRead (old new : World) (block : ℕ) (into into' : List ℕ) : Type 0 where
  pub one : IsUse old new block
  pub failed : HasFailed old new
  pub left : IsSameOrDead (cell_at old.cells block) (cell_at new.cells block)
  pub kept : into' ≡ into

-- What a read of a block may do on any medium, by its answer: what the medium shows before and after, and what the
-- block that is read into holds before and after. (This project's own.)
abbrev pub ReadRule : World → World → ℕ → List ℕ → List ℕ → ReadEnd → Type 0
ReadRule old new block into into' reads.Done = ReadsCell old new block into'
ReadRule old new block into into' reads.Unreadable = FindsNoBytes old new block into into'
ReadRule old new block into into' reads.Cut = IsCutInRead old new block into into'
ReadRule old new block into into' reads.Off = IsOff old new × (into' ≡ into)
ReadRule old new block into into' reads.Failed = FailsInRead old new block into into'

-- the write put its bytes, unless the cell is dead
pub record WritesCell (old new : World) (block : ℕ) (bytes : List ℕ) : Type 0 where
  pub one : IsUse old new block
  pub use_continues : UseContinues old new
  pub left : (cell_at new.cells block ≡ Good bytes) ⊎ (cell_at new.cells block ≡ Dead)

-- the power was cut in the write
pub record IsCutInWrite (old new : World) (block : ℕ) (bytes : List ℕ) : Type 0 where
  pub one : IsUse old new block
  pub cut : IsCut old new
  pub left : MayLeave (cell_at old.cells block) bytes (cell_at new.cells block)

-- the write failed
pub record FailsInWrite (old new : World) (block : ℕ) (bytes : List ℕ) : Type 0 where
  pub one : IsUse old new block
  pub failed : HasFailed old new
  pub left : MayLeave (cell_at old.cells block) bytes (cell_at new.cells block)

-- What a write of these bytes to a block may do on any medium, by its answer. (This project's own.)
abbrev pub WriteRule : World → World → ℕ → List ℕ → WriteEnd → Type 0
WriteRule old new block bytes writes.Done = WritesCell old new block bytes
WriteRule old new block bytes writes.Cut = IsCutInWrite old new block bytes
WriteRule old new block bytes writes.Off = IsOff old new
WriteRule old new block bytes writes.Failed = FailsInWrite old new block bytes

-- How far work on a medium went: by n uses, none of which failed, or by one use that failed. (This project's own.)
pub data Span : Type 0 where
  Uses : ℕ → Span
  FailedUse : Span

-- How far a read or write went: one use, or none with the power off. (This project's own.)
abbrev pub ReadContinues : (Span → Type 0) → ReadEnd → Type 0
ReadContinues continues reads.Done = continues (Uses 1)
ReadContinues continues reads.Unreadable = continues (Uses 1)
ReadContinues continues reads.Cut = continues (Uses 1)
ReadContinues continues reads.Off = continues (Uses 0)
ReadContinues continues reads.Failed = continues FailedUse

abbrev pub WriteContinues : (Span → Type 0) → WriteEnd → Type 0
WriteContinues continues writes.Done = continues (Uses 1)
WriteContinues continues writes.Cut = continues (Uses 1)
WriteContinues continues writes.Off = continues (Uses 0)
WriteContinues continues writes.Failed = continues FailedUse
