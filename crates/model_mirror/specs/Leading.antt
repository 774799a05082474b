-- What a run knows of who leads, and of the record of the lead that each side has: its number is the greater on the side that leads.
-- (This project's own, as all here.)
use Rattle.std.specs.Prelude.{◌≡◌, ℕ, ◌+◌, max, min, nat_lt, MatchBool, Bool, true, false}
use Rattle.model_lists.specs.Records.{LeadRecord}
use Rattle.model_drive.specs.declared.RecordOut.{RecordOut}
use Rattle.model_drive.specs.declared.RecordOut.TheVariants as outs
use Rattle.model_drive.specs.Shown.{Shown}
use Rattle.model_drive.specs.Records.{GenerationCause, LeadFromCause}
use Rattle.model_cache.specs.Chains.{LeavesSound}

-- The record of one side: whether it was read or begun to be written in this run; the greatest number that it may have, which is 0
-- where it is lost; and the record that is held, which is written with another number.
pub record Noted : Type 0 where
  pub seen : Bool
  pub most : ℕ
  pub held : LeadRecord

-- Whether it is known who leads, and by hand; and the records of the side that leads and of the other one.
pub record Leading : Type 0 where
  pub known : Bool
  pub by_hand : Bool
  pub lead : Noted
  pub other : Noted

-- the sides have exchanged their roles
abbrev pub exchanged_leading : Leading → Leading
exchanged_leading who = record who { lead = who.other; other = who.lead }

-- and the lead is not given by hand
abbrev pub handed_leading : Leading → Leading
handed_leading who = record (exchanged_leading who) { by_hand = false }

-- it is not known who leads
abbrev pub forgotten_leading : Leading → Leading
forgotten_leading who = record who { known = false; by_hand = false }

-- the lead is given by hand
abbrev pub given_leading : Leading → Leading
given_leading who = record who { known = true; by_hand = true }

-- it is known who leads
abbrev pub known_leading : Leading → Leading
known_leading who = record who { known = true }

-- what is noted once a record was read
abbrev pub after_reading : Noted → LeadRecord → RecordOut → Noted
after_reading was value outs.Good = record { seen = true; most = value.generation; held = value }
after_reading was value outs.Lost = record { seen = true; most = 0; held = value }
after_reading was value out = record was { held = value }

-- A record was read, and it went so. Where it was stopped any record is held.
pub record NotesRecord (old new : Shown) (was now : Noted) (out : RecordOut) : Type 0 where
  pub value : LeadRecord
  pub cause : GenerationCause old new value out
  pub leaves : LeavesSound old new
  pub now_is : now ≡ after_reading was value out

-- the record that is held, with another number
abbrev pub numbered : Noted → ℕ → LeadRecord
numbered was number = record was.held { generation = number }

-- what is noted once a record was begun to be written
abbrev pub after_writing : Noted → ℕ → RecordOut → Noted
after_writing was number outs.Lost = record { seen = true; most = 0; held = numbered was number }
after_writing was number out = record { seen = true; most = number; held = numbered was number }

-- A record was written with this number, and it went so.
pub record WritesNumber (old new : Shown) (was now : Noted) (number : ℕ) (out : RecordOut) : Type 0 where
  pub cause : LeadFromCause old new (numbered was number) out
  pub leaves : LeavesSound old new
  pub now_is : now ≡ after_writing was number out

-- Nothing was written.
pub record WritesNoNumber (old new : Shown) (was now : Noted) : Type 0 where
  pub same : new ≡ old
  pub now_is : now ≡ was

-- the last number that a record may have
abbrev pub last_number : ℕ
last_number = 4294967295

-- the number after this one, or the last
abbrev pub next_number : ℕ → ℕ
next_number above = min (above + 1) last_number

-- The record of a side is made one with a number above this one: it has one already, or the next is written. There is none above
-- the last, and then it goes as where the record is lost.
abbrev pub Raises : (old new : Shown) (was now : Noted) (above : ℕ) → RecordOut → Type 0
Raises old new was now above out = MatchBool (nat_lt above was.most) (WritesNoNumber old new was now × (out ≡ outs.Good))
    (MatchBool (nat_lt above last_number) (WritesNumber old new was now (above + 1) out)
    (WritesNoNumber old new was now × (out ≡ outs.Lost)))

-- The lead has at least 2, and more than any number that the record of the other side may have.
abbrev pub floor_of : Noted → ℕ
floor_of other = max 1 other.most
