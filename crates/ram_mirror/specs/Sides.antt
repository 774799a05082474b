-- What two sides show and stand for with what a mirror keeps beside them, and how a call ended that may give the lead. (This
-- project's own.)
use Rattle.std.specs.Prelude.{◌≡◌, ◌*◌, Bool, true, false, not, MatchBool, ℕ, List}
use Rattle.model_sectors.specs.Discs.{Standing}
use Rattle.model_drive.specs.declared.WriteOut.{WriteOut}
use Rattle.model_drive.specs.Shown.{Shown}
use Rattle.model_drive.specs.Reads.{ReadStep}
use Rattle.model_drive.specs.Writes.{WriteStep}
use Rattle.model_sectors.specs.declared.ReadOut.{ReadOut}
use Rattle.model_mirror.specs.Shown.{MirrorShown, mirror_turned_off}
use Rattle.model_mirror.specs.Taking.{TakesLead}
use Rattle.model_mirror.specs.Reads.{LeadReads, ReadsWithSides, read_is_stopped}
use Rattle.model_mirror.specs.Whole.{CopyGoesOn}
use Rattle.model_mirror.specs.Standing.{MirrorStands}
use Rattle.model_mirror.specs.Writes.{WritesWithSides}
use Rattle.ram_sectors.specs.declared.Sectors.{Ghosts as Drives}
use Rattle.ram_mirror.specs.declared.following.Following.{Following}
use Rattle.ram_mirror.specs.declared.following.Led.{Led}
use Rattle.ram_mirror.specs.declared.following.Led.TheVariants as leds
use Rattle.ram_mirror.specs.Tables.{entries_of}
use Rattle.ram_mirror.specs.Notes.{leading_of}

-- what a mirror shows whose lead and other side show this
abbrev pub shown_as : Bool → Shown → Shown → Following → MirrorShown
shown_as lead_is_a lead other following = record {
  lead = lead;
  other = other;
  lead_is_a = lead_is_a;
  on = following.on;
  up = following.up;
  table = entries_of following.table;
  who = leading_of following.who;
}

-- The other side took the lead, or did not: where it did the roles are exchanged.
abbrev pub TakesAs : Bool → (lead other : Shown) → Following → (other' : Shown) → Following → Bool → Type 0
TakesAs side lead other was other' now true = TakesLead (shown_as side lead other was) (shown_as (not side) other' lead now) true
TakesAs side lead other was other' now false = TakesLead (shown_as side lead other was) (shown_as side lead other' now) false

module _ {L O : Type 0} (l : Drives L) (o : Drives O) where
  -- what a mirror shows whose lead and other side are these
  abbrev pub shown_by : Bool → L → O → Following → MirrorShown
  shown_by lead_is_a lead other following = shown_as lead_is_a (l.shows lead) (o.shows other) following

  -- what it stands for
  abbrev pub stands_by : Bool → L → O → Following → Standing → Type 0
  stands_by lead_is_a lead other following s =
      MirrorStands (shown_by lead_is_a lead other following) (l.stands lead) (o.stands other) s

  -- Nothing but events happened to the media of both sides; which of them leads does not matter.
  pub record SidesUnderwent (x : L) (y : O) (x' : L) (y' : O) : Type 0 where
    pub first : l.underwent x x'
    pub second : o.underwent y y'

-- How a call ended, that its lead has kept, or given to the other side.
module _ {L O : Type 0} (l : Drives L) (o : Drives O) where
  -- a write, and its cause
  abbrev pub WriteLed : Bool → L → O → Following → L → O → Following → (lba n : ℕ) → Led WriteOut → Type 0
  WriteLed side lead other was lead' other' now lba n (leds.Kept out) =
      WritesWithSides (shown_by l o side lead other was) (shown_by l o side lead' other' now) lba n out
  WriteLed side lead other was lead' other' now lba n (leds.Given out) =
      WritesWithSides (shown_by l o side lead other was) (shown_by o l (not side) other' lead' now) lba n out

  -- what it makes of the disc
  abbrev pub WriteLedStep : Bool → L → O → Following → L → O → Following → (lba n : ℕ) → List ℕ → Led WriteOut → Type 0
  WriteLedStep side lead other was lead' other' now lba n bytes (leds.Kept out) = (s : Standing)
      → stands_by l o side lead other was s
      → WriteStep (l.shows lead') (stands_by l o side lead' other' now) s lba n bytes out
  WriteLedStep side lead other was lead' other' now lba n bytes (leds.Given out) = (s : Standing)
      → stands_by l o side lead other was s
      → WriteStep (o.shows other') (stands_by o l (not side) other' lead' now) s lba n bytes out

  -- a read, and its cause
  abbrev pub ReadLed : Bool → L → O → Following → L → O → Following → (lba n : ℕ) → Led ReadOut → Type 0
  ReadLed side lead other was lead' other' now lba n (leds.Kept out) =
      ReadsWithSides (shown_by l o side lead other was) (shown_by l o side lead' other' now) lba n out
  ReadLed side lead other was lead' other' now lba n (leds.Given out) =
      ReadsWithSides (shown_by l o side lead other was) (shown_by o l (not side) other' lead' now) lba n out

  -- what it gives, and makes of the disc
  abbrev pub ReadLedStep : Bool → L → O → Following → L → O → Following → (lba n : ℕ) → List ℕ → Led ReadOut → Type 0
  ReadLedStep side lead other was lead' other' now lba n into (leds.Kept out) = (s : Standing)
      → stands_by l o side lead other was s
      → ReadStep (stands_by l o side lead' other' now) s lba n into out
  ReadLedStep side lead other was lead' other' now lba n into (leds.Given out) = (s : Standing)
      → stands_by l o side lead other was s
      → ReadStep (stands_by o l (not side) other' lead' now) s lba n into out

-- One block was copied, or could not be; or the lead was stopped at it, and the mirror is off.
pub record CopiesOrStops (old new : MirrorShown) (i : ℕ) (out : ReadOut) : Type 0 where
  pub mid : MirrorShown
  pub reads : LeadReads old mid (16 * i) 16 out
  pub ends : MatchBool (read_is_stopped out) (new ≡ mirror_turned_off mid) (CopyGoesOn mid new i out)
