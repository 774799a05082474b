-- Why each answer of a write of a mirror comes: the writes of its sides. (This project's own, as all here.)
use Rattle.std.specs.Prelude.{◌≡◌, ℕ, ◌⊎◌, MatchBool, Bool, true, false}
use Rattle.model_drive.specs.declared.WriteOut.{WriteOut}
use Rattle.model_drive.specs.declared.WriteOut.TheVariants as outs
use Rattle.model_drive.specs.Shown.{Shown}
use Rattle.model_drive.specs.Writes.{WriteCause}
use Rattle.model_cache.specs.Chains.{LeavesSound}
use Rattle.model_mirror.specs.Table.{AreMarked, is_covered, is_wholly_covered, is_covered_before, is_covered_from}
use Rattle.model_mirror.specs.Shown.{MirrorShown, mirror_turned_off, led_by}
use Rattle.model_mirror.specs.Taking.{TakesLead}

-- a side was written, and it went so
pub record WritesSide (old new : Shown) (lba n : ℕ) (out : WriteOut) : Type 0 where
  pub wrote : WriteCause old new lba n out
  pub leaves : LeavesSound old new

-- the lead was, and nothing else happened
abbrev pub LeadWrites : MirrorShown → MirrorShown → (lba n : ℕ) → WriteOut → Type 0
LeadWrites old new lba n out = WritesSide old.lead new.lead lba n out × (new ≡ led_by old new.lead)

-- What the answer of the other side makes of the table, after the lead has written all: blocks that both have written wholly are
-- not apart; from the one on at which the other side refused they are. It is down after any other answer.
module _ (mid new : MirrorShown) (lba n : ℕ) where
  abbrev pub OtherMarks : (chosen : ℕ → Bool) → (mark : Bool) → Type 0
  OtherMarks chosen mark =
      (new ≡ record mid { other = new.other; table = new.table }) × AreMarked chosen mark mid.table new.table

  -- by its answer
  abbrev pub OtherEnds : WriteOut → Type 0
  OtherEnds outs.Good = OtherMarks (is_wholly_covered lba n) false
  OtherEnds (outs.Unread named block) = OtherMarks (is_covered_from lba n named) true
  OtherEnds (outs.NoSpare named) = OtherMarks (is_covered_from lba n named) true
  OtherEnds (outs.NoUpdate counter) = OtherMarks (is_covered lba n) true
  OtherEnds _ = new ≡ record mid { other = new.other; up = false }

-- the other side was written after the lead
pub record OtherWrites (mid new : MirrorShown) (lba n : ℕ) : Type 0 where
  pub told : WriteOut
  pub wrote : WritesSide mid.other new.other lba n told
  pub ends : OtherEnds mid new lba n told

-- Both sides were written, or the lead alone where the other one is down.
pub record WritesBoth (old new : MirrorShown) (lba n : ℕ) : Type 0 where
  pub mid : MirrorShown
  pub lead : LeadWrites old mid lba n outs.Good
  pub other : MatchBool mid.up (OtherWrites mid new lba n) (new ≡ mid)

-- The lead refused: the blocks that it may have written are apart now. The other side was not written.
pub record LeadRefuses (old new : MirrorShown) (lba n : ℕ) (out : WriteOut) (chosen : ℕ → Bool) : Type 0 where
  pub mid : MirrorShown
  pub lead : LeadWrites old mid lba n out
  pub new_is : new ≡ record mid { table = new.table }
  pub marked : AreMarked chosen true mid.table new.table

-- A write by the side that leads, with the other one beside it.
abbrev pub WritesLed : MirrorShown → MirrorShown → (lba n : ℕ) → WriteOut → Type 0
WritesLed old new lba n outs.Good = WritesBoth old new lba n
WritesLed old new lba n (outs.Unread named block) =
    LeadRefuses old new lba n (outs.Unread named block) (is_covered_before lba n named)
WritesLed old new lba n (outs.NoSpare named) =
    LeadRefuses old new lba n (outs.NoSpare named) (is_covered_before lba n named)
WritesLed old new lba n (outs.NoUpdate counter) =
    LeadRefuses old new lba n (outs.NoUpdate counter) (is_covered lba n)
WritesLed old new lba n out = LeadWrites old new lba n out

-- whether the side that was written has its power off by a cut or a fault
abbrev pub write_is_stopped : WriteOut → Bool
write_is_stopped outs.Cut = true
write_is_stopped outs.Fault = true
write_is_stopped _ = false

-- what a write by a lead alone leaves: a mirror that is off where it was stopped
abbrev pub after_lone_write : WriteOut → MirrorShown → MirrorShown
after_lone_write outs.Cut shown = mirror_turned_off shown
after_lone_write outs.Fault shown = mirror_turned_off shown
after_lone_write _ shown = shown

-- The lead was stopped. The other side takes it, with its record, and all is written there.
pub record WritesElsewhere (old new : MirrorShown) (lba n : ℕ) (out : WriteOut) : Type 0 where
  pub mid : MirrorShown
  pub lost : WriteOut
  pub stopped : write_is_stopped lost ≡ true
  pub led : LeadWrites old mid lba n lost
  pub late : MirrorShown
  pub takes : TakesLead mid late true
  pub wrote : WritesSide late.lead new.lead lba n out
  pub new_is : new ≡ after_lone_write out (led_by late new.lead)

-- The lead was stopped, and the other side does not take it: the mirror is off.
pub record WriteStopped (old new : MirrorShown) (lba n : ℕ) (out : WriteOut) : Type 0 where
  pub mid : MirrorShown
  pub stopped : write_is_stopped out ≡ true
  pub led : LeadWrites old mid lba n out
  pub takes : TakesLead mid new false

-- the write of a mirror that is on
abbrev pub WritesWithSides : MirrorShown → MirrorShown → (lba n : ℕ) → WriteOut → Type 0
WritesWithSides old new lba n out = ((write_is_stopped out ≡ false) × WritesLed old new lba n out)
    ⊎ WritesElsewhere old new lba n out ⊎ WriteStopped old new lba n out

-- The cause of each answer of a write of n sectors from lba on, and what the mirror shows then.
abbrev pub MirrorWriteCause : MirrorShown → MirrorShown → (lba n : ℕ) → WriteOut → Type 0
MirrorWriteCause old new lba n out =
    MatchBool old.on (WritesWithSides old new lba n out) ((out ≡ outs.Off) × (new ≡ old))
