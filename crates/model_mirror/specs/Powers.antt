-- Why each answer of the power on of a mirror comes: both sides are powered, and the record of each is read; these tell who leads; and
-- before it answers, the number of the lead is greater than any that the other side may have. (This project's own, as all here.)
use Rattle.std.specs.Prelude.{◌≡◌, ◌⊎◌, ◌==◌, ◌&&◌, not, nat_lt, nat_le, ℕ, MatchBool, Bool, true, false, [], ◌∷◌}
use Rattle.model_sectors.specs.Discs.{Standing, On, Off, candidates}
use Rattle.model_sectors.specs.declared.PowerOut.{PowerOut}
use Rattle.model_sectors.specs.declared.PowerOut.TheVariants as powers
use Rattle.model_drive.specs.declared.RecordOut.{RecordOut}
use Rattle.model_drive.specs.declared.RecordOut.TheVariants as records
use Rattle.model_drive.specs.Shown.{Shown, capacity}
use Rattle.model_drive.specs.Power.{PowerCause, PowerStep, FindsDisc}
use Rattle.model_drive.specs.Records.{OnlyRecord}
use Rattle.model_cache.specs.Chains.{LeavesSound}
use Rattle.model_mirror.specs.declared.Waking.{Waking}
use Rattle.model_mirror.specs.declared.MirrorPowerOut.{MirrorPowerOut}
use Rattle.model_mirror.specs.declared.MirrorPowerOut.TheVariants as outs
use Rattle.model_mirror.specs.Leading.{Noted, Leading, NotesRecord, floor_of, known_leading}
use Rattle.model_mirror.specs.Shown.{MirrorShown, exchanged, mirror_turned_off, forgotten}
use Rattle.model_mirror.specs.Taking.{LeadRaises, OtherRaises}
use Rattle.model_mirror.specs.Whole.{all_apart}

-- A side was powered, and then its record was read.
pub record WakesSide (old new : Shown) (was now : Noted) (told : Waking) : Type 0 where
  pub mounted : Shown
  pub powers : PowerCause old mounted told.power
  pub mounts : LeavesSound old mounted
  pub notes : NotesRecord mounted new was now told.record

-- Both sides were. The mirror is off.
pub record WakesBoth (old new : MirrorShown) (lead other : Waking) : Type 0 where
  pub led : WakesSide old.lead new.lead old.who.lead new.who.lead lead
  pub followed : WakesSide old.other new.other old.who.other new.who.other other
  pub new_is : new ≡ record (mirror_turned_off old) {
    lead = new.lead;
    other = new.other;
    who = record old.who { lead = new.who.lead; other = new.who.other };
  }

-- whether a record was read
abbrev pub was_read : RecordOut → Bool
was_read records.Good = true
was_read _ = false

-- whether the other side has the greater number, or an equal one and the first name
abbrev pub goes_before : (lead_is_a : Bool) → (lead other : ℕ) → Bool
goes_before true lead other = nat_lt lead other
goes_before false lead other = nat_le lead other

-- whether the other side is to lead: where it is not known who leads, and both records tell
abbrev pub is_to_lead : MirrorShown → (lead other : RecordOut) → Bool
is_to_lead mid lead other = ((not mid.who.known && was_read lead) && was_read other)
    && goes_before mid.lead_is_a mid.who.lead.most mid.who.other.most

-- Whether it can be told that the side that is named first leads, whose record was read, by what the other one's told.
abbrev pub can_tell : Leading → RecordOut → Bool
can_tell who records.Good = true
can_tell who records.Lost = who.by_hand
can_tell who _ = who.known && who.other.seen

-- Nobody leads.
pub record NobodyLeads (mid new : MirrorShown) (out : MirrorPowerOut) : Type 0 where
  pub out_is : out ≡ outs.Unknown
  pub new_is : new ≡ forgotten mid

-- The lead was stopped: the mirror stays off, and where it was not known who leads, it is not.
abbrev pub LeadStops : (mid new : MirrorShown) → (stop out : MirrorPowerOut) → Type 0
LeadStops mid new stop out = MatchBool mid.who.known ((out ≡ stop) × (new ≡ mid)) (NobodyLeads mid new out)

-- the answer of a lead that was stopped in the mount
abbrev pub stop_of : PowerOut → MirrorPowerOut
stop_of powers.Fault = outs.Fault
stop_of _ = outs.Cut

-- whether a side was powered on with this capacity
abbrev pub is_ready_with : ℕ → PowerOut → Bool
is_ready_with known (powers.Ready other) = other == known
is_ready_with known _ = false

-- whether a record could be asked for to the end, so that the power is on still
abbrev pub stays_on : RecordOut → Bool
stays_on records.Good = true
stays_on records.Lost = true
stays_on _ = false

-- The records are as they are to be. The mirror is on where the lead's power is.
module _ (late new : MirrorShown) (other_power : PowerOut) (other_on : Bool) where
  -- the lead is ready
  pub record IsReadyNow (known : ℕ) (out : MirrorPowerOut) : Type 0 where
    pub out_is : out ≡ outs.Ready known
    pub new_is : new ≡ record late {
      on = true;
      up = is_ready_with known other_power && other_on;
      table = all_apart late.lead;
      who = known_leading late.who;
    }

  -- it is not formatted
  pub record IsBareNow (out : MirrorPowerOut) : Type 0 where
    pub out_is : out ≡ outs.NotFormatted
    pub new_is : new ≡ record late { on = true; who = known_leading late.who }

  -- by its answer
  abbrev pub Finishes : PowerOut → MirrorPowerOut → Type 0
  Finishes (powers.Ready known) out = IsReadyNow known out
  Finishes powers.NotFormatted out = IsBareNow out
  Finishes powers.Cut out = NobodyLeads late new out
  Finishes powers.Fault out = NobodyLeads late new out

-- a record of the other side with the number 0 gets 1; it was not asked for where it was not read
abbrev pub RaisesFirst : (mid late : MirrorShown) → (asked : Bool) → RecordOut → Type 0
RaisesFirst mid late true raised = OtherRaises mid late 0 raised
RaisesFirst mid late false raised = (late ≡ mid) × (raised ≡ records.Good)

-- whether it can be told still who leads, after the record of the other side was begun to be written, or was not
abbrev pub still_tells : Leading → RecordOut → Bool
still_tells who records.Lost = who.by_hand
still_tells who _ = true

-- Then the other side has at least 1, or was stopped. Where its record is lost then, only a hand tells who leads.
pub record OtherFollows (mid new : MirrorShown) (lead other : Waking) (out : MirrorPowerOut) : Type 0 where
  pub late : MirrorShown
  pub raised : RecordOut
  pub raises : RaisesFirst mid late (was_read other.record) raised
  pub ends : MatchBool (still_tells late.who raised)
      (Finishes late new other.power (stays_on other.record && stays_on raised) lead.power out)
      (NobodyLeads late new out)

-- how it goes on once the record of the lead was begun to be written, or is as it is to be
abbrev pub LeadGoesOn : (late new : MirrorShown) → (lead other : Waking) → MirrorPowerOut → RecordOut → Type 0
LeadGoesOn late new lead other out records.Good = OtherFollows late new lead other out
LeadGoesOn late new lead other out records.Lost = NobodyLeads late new out
LeadGoesOn late new lead other out records.Cut = (out ≡ outs.Cut) × (new ≡ late)
LeadGoesOn late new lead other out records.Off = NobodyLeads late new out
LeadGoesOn late new lead other out records.Fault = (out ≡ outs.Fault) × (new ≡ late)

-- The number of the lead is at least 2, and greater than any that the record of the other side may have; else it is made so.
pub record Leads (mid new : MirrorShown) (lead other : Waking) (out : MirrorPowerOut) : Type 0 where
  pub late : MirrorShown
  pub raised : RecordOut
  pub raises : LeadRaises mid late (floor_of mid.who.other) raised
  pub ends : LeadGoesOn late new lead other out raised

-- How the power on ends for a side that is to lead, by what its record told.
abbrev pub Starts : (mid new : MirrorShown) → (lead other : Waking) → MirrorPowerOut → RecordOut → Type 0
Starts mid new lead other out records.Good =
    MatchBool (can_tell mid.who other.record) (Leads mid new lead other out) (NobodyLeads mid new out)
Starts mid new lead other out records.Lost = NobodyLeads mid new out
Starts mid new lead other out records.Cut = LeadStops mid new outs.Cut out
Starts mid new lead other out records.Off = LeadStops mid new (stop_of lead.power) out
Starts mid new lead other out records.Fault = LeadStops mid new outs.Fault out

-- The cause of each answer of the turning on of the power: both sides wake, and tell who leads, where that is not known; and that one
-- starts.
pub record MirrorPowerCause (old new : MirrorShown) (out : MirrorPowerOut) : Type 0 where
  pub mid : MirrorShown
  pub lead : Waking
  pub other : Waking
  pub wakes : WakesBoth old mid lead other
  pub starts : MatchBool (is_to_lead mid lead.record other.record)
      (Starts (exchanged mid) new other lead out other.record) (Starts mid new lead other out lead.record)

-- what a side stands for once its power is off
abbrev pub once_off : (Standing → Type 0) → Standing → Type 0
once_off after (On disc) = after (Off (disc ∷ []))
once_off after (Off discs) = after (Off discs)

-- what it stands for, with its power on or off
abbrev pub on_or_off : (Standing → Type 0) → Standing → Type 0
on_or_off after s = after s ⊎ once_off after s

-- A side was mounted, and no cell changed since then but those of its record.
pub record WasMounted (now mounted : Shown) : Type 0 where
  pub same_shape : now.shape ≡ mounted.shape
  pub same_lists : now.lists ≡ mounted.lists
  pub only : OnlyRecord mounted now

-- It stands for the first of its discs that fits under the lists that were chosen in the mount.
pub record FindsMounted (now : Shown) (after : Standing → Type 0) (s : Standing) : Type 0 where
  pub mounted : Shown
  pub since : WasMounted now mounted
  pub finds : FindsDisc mounted after (candidates s)

-- It was mounted, and stands for what was found.
pub record StandsMounted (after : Standing → Type 0) (s : Standing) : Type 0 where
  pub mounted : Shown
  pub told : PowerOut
  pub step : PowerStep mounted after s told

-- What the power on makes of what the side stood for that leads then, for the mirror. The capacity that is told is that of its disc.
abbrev pub LeadPowerStep : (now : Shown) → (after : Standing → Type 0) → Standing → MirrorPowerOut → Type 0
LeadPowerStep now after s (outs.Ready known) = (known ≡ capacity now) × FindsMounted now after s
LeadPowerStep now after s outs.NotFormatted = after (On [])
LeadPowerStep now after s outs.Unknown = Unit {0}
LeadPowerStep now after s outs.Cut = StandsMounted (once_off after) s
LeadPowerStep now after s outs.Fault = StandsMounted (once_off after) s

-- what the side that leads stood for, of what the sides a and b did
abbrev pub of_lead : (lead_is_a : Bool) → (a b : Standing) → Standing
of_lead true a b = a
of_lead false a b = b

-- What it makes of a mirror whose sides stood for these: the mirror stands for what the side that leads does, and each side for what it
-- was mounted with, also where nobody leads.
pub record MirrorPowerStep (new : MirrorShown) (mirror a b : Standing → Type 0) (s t : Standing) (out : MirrorPowerOut) : Type 0 where
  pub leads : LeadPowerStep new.lead mirror (of_lead new.lead_is_a s t) out
  pub of_a : StandsMounted (on_or_off a) s
  pub of_b : StandsMounted (on_or_off b) t
