-- How the other side takes the lead, or does not: its record is written first. (This project's own, as all here.)
use Rattle.std.specs.Prelude.{◌≡◌, ◌≢◌, ℕ, MatchBool, Bool, true, false, List}
use Rattle.model_sectors.specs.Discs.{Standing, On}
use Rattle.model_drive.specs.declared.RecordOut.{RecordOut}
use Rattle.model_drive.specs.declared.RecordOut.TheVariants as outs
use Rattle.model_mirror.specs.Leading.{Raises}
use Rattle.model_mirror.specs.Shown.{MirrorShown, may_lead, handed_over, mirror_turned_off}
use Rattle.model_mirror.specs.Standing.{StandsSomehow}

-- the record of the lead was made one above this number, and nothing else happened
pub record LeadRaises (old new : MirrorShown) (above : ℕ) (out : RecordOut) : Type 0 where
  pub raises : Raises old.lead new.lead old.who.lead new.who.lead above out
  pub new_is : new ≡ record old { lead = new.lead; who = record old.who { lead = new.who.lead } }

-- that of the other side was
pub record OtherRaises (old new : MirrorShown) (above : ℕ) (out : RecordOut) : Type 0 where
  pub raises : Raises old.other new.other old.who.other new.who.other above out
  pub new_is : new ≡ record old { other = new.other; who = record old.who { other = new.who.other } }

-- The other side may lead, and its record has a number above that of the lead: it leads now.
pub record LeadIsTaken (mid new : MirrorShown) : Type 0 where
  pub may : may_lead mid ≡ true
  pub late : MirrorShown
  pub wrote : OtherRaises mid late mid.who.lead.most outs.Good
  pub new_is : new ≡ handed_over late

-- its record could not be written
pub record CannotTake (mid late : MirrorShown) : Type 0 where
  pub told : RecordOut
  pub wrote : OtherRaises mid late mid.who.lead.most told
  pub not_good : told ≢ outs.Good

-- The other side may not lead, or its record could not be written: the mirror is off.
pub record LeadIsNotTaken (mid new : MirrorShown) : Type 0 where
  pub late : MirrorShown
  pub why : MatchBool (may_lead mid) (CannotTake mid late) (late ≡ mid)
  pub new_is : new ≡ mirror_turned_off late

-- whether the other side took the lead from one that was stopped
abbrev pub TakesLead : MirrorShown → MirrorShown → Bool → Type 0
TakesLead mid new true = LeadIsTaken mid new
TakesLead mid new false = LeadIsNotTaken mid new

-- What it makes of what the other side stands for: nothing new, or it stands for something.
abbrev pub TakeStep : (before after : Standing → Type 0) → Bool → Type 0
TakeStep before after true = (disc : List ℕ) → before (On disc) → after (On disc)
TakeStep before after false = (s : Standing) → before s → StandsSomehow after
