-- What a scrubber remembers: which logical blocks it found unreadable, and where it goes on. (This project's own, as all
-- here.)
use Rattle.std.specs.Prelude.{◌≡◌, ℕ, ◌+◌, ◌<◌, ◌==◌, ◌⊎◌, ◌++◌, not, nat_lt, if◌then◌else◌, Option, Some, None, List, [], ◌∷◌}
use Rattle.std.specs.List.{filter}
use Rattle.model_scrub.specs.declared.ends.StepEnd.{StepEnd}
use Rattle.model_scrub.specs.declared.ends.StepEnd.TheVariants as ends

-- The block that the next step takes, and the blocks that were found unreadable.
pub record Scrubber : Type 0 where
  pub next : ℕ
  pub found : List ℕ

-- a scrubber that has made no step
abbrev pub fresh : Scrubber
fresh = record { next = 0; found = [] }

-- the list without a block
abbrev pub without_block : ℕ → List ℕ → List ℕ
without_block i found = filter (λ j. not (j == i)) found

-- the list with a block in its place
abbrev pub with_found : ℕ → List ℕ → List ℕ
with_found i found = filter (λ j. nat_lt j i) found ++ i ∷ filter (λ j. nat_lt i j) found

-- What a step does first on a formatted disc of n blocks: found blocks that the disc no longer has are dropped, and past
-- the last block it starts again at the first.
abbrev pub begun_on : (count : ℕ) → Scrubber → Scrubber
begun_on count s = record {
  next = if nat_lt s.next count then s.next else 0;
  found = filter (λ j. nat_lt j count) s.found;
}

-- then the next block was verified and could be read: it is taken out
abbrev pub read_well : Scrubber → Scrubber
read_well s = record { next = s.next + 1; found = without_block s.next s.found }

-- or it could not be read: it is put in its place
abbrev pub met_unread : Scrubber → Scrubber
met_unread s = record { next = s.next + 1; found = with_found s.next s.found }

-- What a step on a formatted disc of n blocks leaves, by its end.
abbrev pub LeavesOn : (count : ℕ) → Scrubber → StepEnd → Scrubber → Type 0
LeavesOn count s (ends.Readable i) t = (i ≡ (begun_on count s).next) × (i < count) × (t ≡ read_well (begun_on count s))
LeavesOn count s (ends.Unreadable i) t = (i ≡ (begun_on count s).next) × (i < count)
    × (t ≡ met_unread (begun_on count s))
LeavesOn count s ends.NotFormatted t = ⊥
LeavesOn count s ends.Cut t = t ≡ begun_on count s
LeavesOn count s ends.Off t = ⊥
LeavesOn count s ends.Fault t = t ≡ begun_on count s

-- What one leaves that met no such disc: it is as it was.
abbrev pub LeavesWithout : Scrubber → StepEnd → Scrubber → Type 0
LeavesWithout s ends.NotFormatted t = t ≡ s
LeavesWithout s ends.Off t = t ≡ s
LeavesWithout s _ t = ⊥

-- What a step leaves, by how many blocks the formatted disc had that it met, if it met one.
abbrev pub Leaves : Option ℕ → Scrubber → StepEnd → Scrubber → Type 0
Leaves None s end t = LeavesWithout s end t
Leaves (Some count) s end t = LeavesOn count s end t

-- What a scrubber did: a step that met a disc, and ended so; or a pass began, which starts again at the first block.
pub data ScrubEvent : Type 0 where
  Stepped : Option ℕ → StepEnd → ScrubEvent
  Began : ScrubEvent

-- what one of these makes of a scrubber
abbrev pub LeavesByEvent : Scrubber → ScrubEvent → Scrubber → Type 0
LeavesByEvent s (Stepped met end) t = Leaves met s end t
LeavesByEvent s Began t = t ≡ record s { next = 0 }

-- All that it did since it was new, the newest first, leaves this.
abbrev pub Scrubs : List ScrubEvent → Scrubber → Type 0
Scrubs [] s = s ≡ fresh
Scrubs (event ∷ events) s = (before : Scrubber) × Scrubs events before × LeavesByEvent before event s

-- ---- what is remembered

-- the step said of this block that it could not be read
abbrev pub SaysUnread : StepEnd → ℕ → Type 0
SaysUnread (ends.Unreadable i) j = j ≡ i
SaysUnread _ j = ⊥

-- or that it could
abbrev pub SaysRead : StepEnd → ℕ → Type 0
SaysRead (ends.Readable i) j = j ≡ i
SaysRead _ j = ⊥

-- the disc that was met has this block, if it was formatted
abbrev pub IsBlockOf : Option ℕ → ℕ → Type 0
IsBlockOf None j = Unit {0}
IsBlockOf (Some count) j = j < count

-- Some step said of the block that it could not be read, and since that step none said that it could, and none met a formatted
-- disc that does not have it.
abbrev pub IsRemembered : List ScrubEvent → ℕ → Type 0
IsRemembered [] j = ⊥
IsRemembered (Stepped met end ∷ events) j =
    SaysUnread end j ⊎ (IsRemembered events j × IsBlockOf met j × ¬ SaysRead end j)
IsRemembered (Began ∷ events) j = IsRemembered events j
