-- What a step of a scrubber asks of its drive, and what a pass leaves of it. (This project's own, as all here.)
use Rattle.std.specs.Prelude.{◌≡◌, ℕ, zero, suc, ◌*◌, ◌<◌, ◌↔◌, Some, None, List}
use Rattle.std.specs.List.{Contains}
use Rattle.model_medium.specs.Cells.{IsGood, cell_at}
use Rattle.model_sectors.specs.declared.ReadOut.TheVariants as reads
use Rattle.model_drive.specs.Shown.{Shown, IsOn, IsFormatted, block_count, cells_in, home_cell}
use Rattle.model_cache.specs.Values.{Contents}
use Rattle.model_cache.specs.Shown.{CacheShown}
use Rattle.model_cache.specs.Causes.{CacheVerifyCause}
use Rattle.model_cache.specs.Steps.{VerifyContents}
use Rattle.model_scrub.specs.declared.ends.StepEnd.{StepEnd}
use Rattle.model_scrub.specs.declared.ends.StepEnd.TheVariants as ends
use Rattle.model_scrub.specs.declared.ends.PassEnd.{PassEnd}
use Rattle.model_scrub.specs.declared.ends.PassEnd.TheVariants as passes
use Rattle.model_scrub.specs.Scrubs.{Scrubber, Stepped, LeavesByEvent, begun_on}

-- The verification of one whole block that could not be read, whatever home is named.
abbrev pub MeetsUnreadBlock : CacheShown → CacheShown → (i : ℕ) → Type 0
MeetsUnreadBlock old new i = (named : ℕ) × (block : ℕ) × CacheVerifyCause old new (16 * i) 16 (reads.Unread named block)

-- What a step asks of a drive with a formatted disc: the verification of one whole block, which ended so.
abbrev pub AsksOn : CacheShown → CacheShown → (next : ℕ) → StepEnd → Type 0
AsksOn old new next (ends.Readable i) = CacheVerifyCause old new (16 * i) 16 reads.Good
AsksOn old new next (ends.Unreadable i) = MeetsUnreadBlock old new i
AsksOn old new next ends.NotFormatted = ⊥
AsksOn old new next ends.Cut = CacheVerifyCause old new (16 * next) 16 reads.Cut
AsksOn old new next ends.Off = ⊥
AsksOn old new next ends.Fault = CacheVerifyCause old new (16 * next) 16 reads.Fault

-- A step on a formatted disc: what it met, what it asked of the drive, and what it leaves.
pub record StepsOn (old new : CacheShown) (s : Scrubber) (end : StepEnd) (t : Scrubber) : Type 0 where
  pub on : IsOn old.drive
  pub formatted : IsFormatted old.drive
  pub same_shape : new.drive.shape ≡ old.drive.shape
  pub asks : AsksOn old new (begun_on (block_count old.drive) s).next end
  pub leaves : LeavesByEvent s (Stepped (Some (block_count old.drive)) end) t

-- A step that met no formatted disc: it asks nothing, and drive and scrubber are as before.
pub record StepsWithout (old new : CacheShown) (s : Scrubber) (end : StepEnd) (t : Scrubber) : Type 0 where
  pub nothing : new ≡ old
  pub leaves : LeavesByEvent s (Stepped None end) t

-- What a step does, by its end. NotFormatted and Off come exactly where the power is on and the disc is not formatted, and where
-- the power is off.
abbrev pub StepRule : CacheShown → CacheShown → Scrubber → StepEnd → Scrubber → Type 0
StepRule old new s ends.NotFormatted t = IsOn old.drive × ¬ IsFormatted old.drive
    × StepsWithout old new s ends.NotFormatted t
StepRule old new s ends.Off t = ¬ IsOn old.drive × StepsWithout old new s ends.Off t
StepRule old new s end t = StepsOn old new s end t

-- What a step makes of what the drive stood for: what its verification does.
abbrev pub StepContents : (Contents → Type 0) → Contents → StepEnd → Type 0
StepContents after s (ends.Readable i) = VerifyContents after s reads.Good
StepContents after s (ends.Unreadable i) = (named : ℕ) × (block : ℕ) × VerifyContents after s (reads.Unread named block)
StepContents after s ends.NotFormatted = after s
StepContents after s ends.Cut = VerifyContents after s reads.Cut
StepContents after s ends.Off = after s
StepContents after s ends.Fault = VerifyContents after s reads.Fault

-- ---- a pass

-- the step verified this block, which could be read or not
abbrev pub EndsAs : ℕ → StepEnd → Type 0
EndsAs i (ends.Readable j) = j ≡ i
EndsAs i (ends.Unreadable j) = j ≡ i
EndsAs i _ = ⊥

-- So many steps of a pass were made, one for each of the first blocks, from the state of a scrubber whose next block is 0.
abbrev pub StepsThrough : CacheShown → CacheShown → Scrubber → Scrubber → ℕ → Type 0
StepsThrough old new s t zero = (new ≡ old) × (t ≡ record s { next = 0 })
StepsThrough old new s t (suc k) = (mid : CacheShown) × (u : Scrubber) × (end : StepEnd)
    × StepsThrough old mid s u k × EndsAs k end × StepRule mid new u end t

-- a step that ends so ends a pass, and so does the pass
abbrev pub EndsPass : StepEnd → PassEnd → Type 0
EndsPass ends.NotFormatted out = out ≡ passes.NotFormatted
EndsPass ends.Cut out = out ≡ passes.Cut
EndsPass ends.Off out = out ≡ passes.Off
EndsPass ends.Fault out = out ≡ passes.Fault
EndsPass _ out = ⊥

-- A pass was ended by a step, after n that went on.
pub record StopsPass (old new : CacheShown) (s t : Scrubber) (out : PassEnd) : Type 0 where
  pub before : ℕ
  pub mid : CacheShown
  pub u : Scrubber
  pub went : StepsThrough old mid s u before
  pub end : StepEnd
  pub ends_pass : EndsPass end out
  pub last : StepRule mid new u end t

-- What a pass does, by its end: one step for each logical block, from the first one on.
abbrev pub PassRule : CacheShown → CacheShown → Scrubber → PassEnd → Scrubber → Type 0
PassRule old new s passes.Done t =
    IsOn old.drive × IsFormatted old.drive × StepsThrough old new s t (block_count old.drive)
PassRule old new s out t = StopsPass old new s t out

-- What a pass makes of what the drive stood for: what its verifications do, which leave it as it is, but for one that was
-- stopped.
abbrev pub PassContents : (Contents → Type 0) → Contents → PassEnd → Type 0
PassContents after s passes.Done = after s
PassContents after s passes.NotFormatted = after s
PassContents after s passes.Cut = VerifyContents after s reads.Cut
PassContents after s passes.Off = after s
PassContents after s passes.Fault = VerifyContents after s reads.Fault

-- The found blocks are just the logical blocks whose homes have no whole bytes now.
abbrev pub AreUnreadNow : Shown → List ℕ → Type 0
AreUnreadNow shown found = (j : ℕ) → Contains found j ↔ ((j < block_count shown) × ¬ IsGood (home_cell shown j))

-- Each cell with whole bytes has whole bytes afterwards: no block died.
abbrev pub StayWhole : Shown → Shown → Type 0
StayWhole old new = (block : ℕ) → IsGood (cell_at (cells_in old) block) → IsGood (cell_at (cells_in new) block)
