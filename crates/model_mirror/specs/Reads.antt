-- Why each answer of a read of a mirror comes: the reads of its sides that it made, one after another. (This project's own, as all
-- here.)
use Rattle.std.specs.Prelude.{◌≡◌, ℕ, zero, suc, ◌+◌, ◌-◌, ◌<◌, ◌⊎◌, MatchBool, Bool, true, false}
use Rattle.model_sectors.specs.Requests.{block_with, blocks_covered, start_in, end_in}
use Rattle.model_sectors.specs.declared.ReadOut.{ReadOut}
use Rattle.model_sectors.specs.declared.ReadOut.TheVariants as outs
use Rattle.model_drive.specs.Parts.{IsInRange}
use Rattle.model_cache.specs.Chains.{ReadsDisc}
use Rattle.model_mirror.specs.Shown.{MirrorShown, stands_in, mirror_turned_off, led_by}
use Rattle.model_mirror.specs.Taking.{TakesLead}

-- the lead was read, and it went so
abbrev pub LeadReads : MirrorShown → MirrorShown → (lba n : ℕ) → ReadOut → Type 0
LeadReads old new lba n out = ReadsDisc old.lead new.lead lba n out × (new ≡ led_by old new.lead)

-- whether the other side is up after a read of it: it is down where the read neither gave nor lacked bytes
abbrev pub up_after_read : ReadOut → Bool
up_after_read outs.Good = true
up_after_read (outs.Unread named block) = true
up_after_read _ = false

-- what is answered where the other side was asked in place of the lead: the refusal of the lead, unless it gave the bytes
abbrev pub in_place : (refused told : ReadOut) → ReadOut
in_place refused outs.Good = outs.Good
in_place refused _ = refused

module _ (mid new : MirrorShown) (lba n block : ℕ) where
  -- the other side was asked in place of the lead for the sectors of one block
  pub record AsksOther (refused out : ReadOut) : Type 0 where
    pub told : ReadOut
    pub reads : ReadsDisc mid.other new.other (start_in lba block) (end_in lba n block - start_in lba block) told
    pub new_is : new ≡ record mid { other = new.other; up = up_after_read told }
    pub out_is : out ≡ in_place refused told

  -- How the read of one block goes on from the answer of the lead: where that lacks the bytes, the other side is asked if it
  -- may stand in.
  abbrev pub EndsPart : (told out : ReadOut) → Type 0
  EndsPart (outs.Unread named home) out = MatchBool (stands_in mid block)
      (AsksOther (outs.Unread named home) out) ((new ≡ mid) × (out ≡ outs.Unread named home))
  EndsPart told out = (new ≡ mid) × (out ≡ told)

-- The sectors of one block were read.
pub record MirrorReadsPart (old new : MirrorShown) (lba n block : ℕ) (out : ReadOut) : Type 0 where
  pub mid : MirrorShown
  pub told : ReadOut
  pub reads : LeadReads old mid (start_in lba block) (end_in lba n block - start_in lba block) told
  pub ends : EndsPart mid new lba n block told out

-- those of the first n blocks were, in rising order
abbrev pub MirrorReadsParts : MirrorShown → MirrorShown → (lba n : ℕ) → ℕ → Type 0
MirrorReadsParts old new lba n zero = new ≡ old
MirrorReadsParts old new lba n (suc k) = (mid : MirrorShown) × MirrorReadsParts old mid lba n k
    × MirrorReadsPart mid new lba n (block_with lba + k) outs.Good

-- the read ended at one block
pub record EndsMirrorRead (old new : MirrorShown) (lba n : ℕ) (out : ReadOut) : Type 0 where
  pub inside : IsInRange old.lead lba n
  pub before : ℕ
  pub covered : before < blocks_covered lba n
  pub mid : MirrorShown
  pub parts : MirrorReadsParts old mid lba n before
  pub ends : MirrorReadsPart mid new lba n (block_with lba + before) out

-- A read by the side that leads, with the other one beside it.
abbrev pub ReadsLed : MirrorShown → MirrorShown → (lba n : ℕ) → ReadOut → Type 0
ReadsLed old new lba n outs.Good = IsInRange old.lead lba n × MirrorReadsParts old new lba n (blocks_covered lba n)
ReadsLed old new lba n outs.NotFormatted = LeadReads old new lba n outs.NotFormatted
ReadsLed old new lba n (outs.Range known) = LeadReads old new lba n (outs.Range known)
ReadsLed old new lba n (outs.Unread named block) = EndsMirrorRead old new lba n (outs.Unread named block)
ReadsLed old new lba n outs.Cut = EndsMirrorRead old new lba n outs.Cut
ReadsLed old new lba n outs.Off = LeadReads old new lba n outs.Off
ReadsLed old new lba n outs.Fault = EndsMirrorRead old new lba n outs.Fault

-- whether the side that was read has its power off by a cut or a fault
abbrev pub read_is_stopped : ReadOut → Bool
read_is_stopped outs.Cut = true
read_is_stopped outs.Fault = true
read_is_stopped _ = false

-- what a read by a lead alone leaves: a mirror that is off where it was stopped
abbrev pub after_lone_read : ReadOut → MirrorShown → MirrorShown
after_lone_read outs.Cut shown = mirror_turned_off shown
after_lone_read outs.Fault shown = mirror_turned_off shown
after_lone_read _ shown = shown

-- The lead was stopped. The other side takes it, with its record, and all is read there.
pub record ReadsElsewhere (old new : MirrorShown) (lba n : ℕ) (out : ReadOut) : Type 0 where
  pub mid : MirrorShown
  pub lost : ReadOut
  pub stopped : read_is_stopped lost ≡ true
  pub led : ReadsLed old mid lba n lost
  pub late : MirrorShown
  pub takes : TakesLead mid late true
  pub reads : ReadsDisc late.lead new.lead lba n out
  pub new_is : new ≡ after_lone_read out (led_by late new.lead)

-- The lead was stopped, and the other side does not take it: the mirror is off.
pub record ReadStopped (old new : MirrorShown) (lba n : ℕ) (out : ReadOut) : Type 0 where
  pub mid : MirrorShown
  pub stopped : read_is_stopped out ≡ true
  pub led : ReadsLed old mid lba n out
  pub takes : TakesLead mid new false

-- the read of a mirror that is on
abbrev pub ReadsWithSides : MirrorShown → MirrorShown → (lba n : ℕ) → ReadOut → Type 0
ReadsWithSides old new lba n out = ((read_is_stopped out ≡ false) × ReadsLed old new lba n out)
    ⊎ ReadsElsewhere old new lba n out ⊎ ReadStopped old new lba n out

-- The cause of each answer of a read of n sectors from lba on, and what the mirror shows then.
abbrev pub MirrorReadCause : MirrorShown → MirrorShown → (lba n : ℕ) → ReadOut → Type 0
MirrorReadCause old new lba n out =
    MatchBool old.on (ReadsWithSides old new lba n out) ((out ≡ outs.Off) × (new ≡ old))
