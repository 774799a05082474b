-- What the parts of a step do: for the private calls of `Scrub`. (This project's own, as all here.)
use Rattle.std.specs.Prelude.{◌≡◌, ℕ, ◌+◌, ◌<◌, ◌≤◌}
use Rattle.ram_sectors.specs.declared.TheConstants.{MOST_BLOCKS}
use Rattle.model_drive.specs.Shown.{IsOn, IsFormatted, block_count}
use Rattle.model_cache.specs.Shown.{CacheShown}
use Rattle.model_scrub.specs.declared.ends.StepEnd.{StepEnd}
use Rattle.model_scrub.specs.declared.ends.StepEnd.TheVariants as ends
use Rattle.model_scrub.specs.Scrubs.{Scrubber, read_well, met_unread}
use Rattle.model_scrub.specs.Asks.{StepRule, EndsAs, EndsPass, PassContents}
use Rattle.model_scrub.specs.declared.ends.PassEnd.{PassEnd}
use Rattle.model_scrub.specs.declared.ends.PassEnd.TheVariants as passes
use Rattle.model_cache.specs.Values.{Contents}
use Rattle.std.specs.Prelude.{Result, Ok, Err, IfErr}

-- The drive has its power on and a formatted disc, of no more blocks than any disc has, of which the scrubber is to take this one.
pub record IsReadyToStep (shown : CacheShown) (next : ℕ) : Type 0 where
  pub on : IsOn shown.drive
  pub formatted : IsFormatted shown.drive
  pub inside : next < block_count shown.drive
  pub few : block_count shown.drive ≤ MOST_BLOCKS

-- what a verification of the next block leaves of the scrubber, by its end
abbrev pub LeavesRead : Scrubber → StepEnd → Scrubber → Type 0
LeavesRead s (ends.Readable i) t = (i ≡ s.next) × (t ≡ read_well s)
LeavesRead s (ends.Unreadable i) t = (i ≡ s.next) × (t ≡ met_unread s)
LeavesRead s ends.NotFormatted t = ⊥
LeavesRead s ends.Cut t = t ≡ s
LeavesRead s ends.Off t = ⊥
LeavesRead s ends.Fault t = t ≡ s

-- the end of a step that met no formatted disc, by whether the power is on
abbrev pub EndsWithout : CacheShown → StepEnd → Type 0
EndsWithout shown ends.NotFormatted = IsOn shown.drive × ¬ IsFormatted shown.drive
EndsWithout shown ends.Off = ¬ IsOn shown.drive
EndsWithout shown _ = ⊥

-- A pass has come to this block: the drive has its power on and a formatted disc that has it, and it is next.
pub record IsAtBlock (shown : CacheShown) (s : Scrubber) (block : ℕ) : Type 0 where
  pub on : IsOn shown.drive
  pub formatted : IsFormatted shown.drive
  pub inside : block < block_count shown.drive
  pub next : s.next ≡ block

-- Its step was made, and the pass has come to the next block, on the disc that it had.
pub record StepGoesOn (old new : CacheShown) (s : Scrubber) (block : ℕ) (t : Scrubber) : Type 0 where
  pub end : StepEnd
  pub is_block : EndsAs block end
  pub step : StepRule old new s end t
  pub on : IsOn new.drive
  pub formatted : IsFormatted new.drive
  pub as_many : block_count new.drive ≡ block_count old.drive
  pub next : t.next ≡ block + 1

-- the step ended the pass
pub record EndsPassHere (old new : CacheShown) (s t : Scrubber) (out : PassEnd) : Type 0 where
  pub end : StepEnd
  pub ends_pass : EndsPass end out
  pub step : StepRule old new s end t

-- where the pass does not go on, its step ended it
abbrev pub EndsAt : CacheShown → CacheShown → Scrubber → Scrubber → Result (Unit {0}) PassEnd → Type 0
EndsAt old new s t result = IfErr result (EndsPassHere old new s t)

-- what the step makes of what the drive stood for, by whether the pass goes on
abbrev pub PassedContents : (Contents → Type 0) → Contents → Result (Unit {0}) PassEnd → Type 0
PassedContents after s (Ok done) = after s
PassedContents after s (Err out) = PassContents after s out

-- the end of a pass that met no formatted disc, by whether the power is on
abbrev pub PassEndsWithout : CacheShown → PassEnd → Type 0
PassEndsWithout shown passes.NotFormatted = IsOn shown.drive × ¬ IsFormatted shown.drive
PassEndsWithout shown passes.Off = ¬ IsOn shown.drive
PassEndsWithout shown _ = ⊥
