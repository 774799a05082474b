-- How the power of a mirror goes on, for a lead and another side: what each stage makes of both. (This project's own.)
use Rattle.std.specs.Prelude.{◌≡◌, ◌&&◌, not, Bool, true, false, ℕ}
use Rattle.model_sectors.specs.Discs.{Standing}
use Rattle.model_sectors.specs.declared.PowerOut.{PowerOut}
use Rattle.model_sectors.specs.declared.PowerOut.TheVariants as powers
use Rattle.model_drive.specs.declared.RecordOut.{RecordOut}
use Rattle.model_drive.specs.declared.RecordOut.TheVariants as records
use Rattle.model_drive.specs.Shown.{Shown}
use Rattle.model_drive.specs.Power.{PowerStep}
use Rattle.model_drive.specs.Tells.{HasDisc}
use Rattle.model_mirror.specs.declared.Waking.{Waking}
use Rattle.model_mirror.specs.declared.MirrorPowerOut.{MirrorPowerOut}
use Rattle.model_mirror.specs.declared.MirrorPowerOut.TheVariants as outs
use Rattle.model_mirror.specs.Leading.{Noted, Leading}
use Rattle.model_mirror.specs.Shown.{MirrorShown}
use Rattle.model_mirror.specs.Whole.{all_apart}
use Rattle.model_mirror.specs.Powers.{WakesSide, WasMounted, once_off, on_or_off, stays_on, is_ready_with, was_read, goes_before, StandsMounted, LeadPowerStep, MirrorPowerCause}
use Rattle.ram_sectors.specs.declared.Sectors.{Ghosts as Drives}
use Rattle.ram_mirror.specs.declared.following.Following.{Following}
use Rattle.ram_mirror.specs.declared.following.Led.{Led}
use Rattle.ram_mirror.specs.declared.following.Led.TheVariants as leds
use Rattle.ram_mirror.specs.Sides.{shown_by, stands_by}

-- whether a side was powered with a disc
abbrev pub is_ready : PowerOut → Bool
is_ready (powers.Ready known) = true
is_ready _ = false

-- whether the other side is to lead, by what is known
abbrev pub tells_other : Leading → (lead_is_a : Bool) → (lead other : RecordOut) → Bool
tells_other who lead_is_a lead other = ((not who.known && was_read lead) && was_read other)
    && goes_before lead_is_a who.lead.most who.other.most

-- What a side stands for once its record was asked for.
abbrev pub once_asked : RecordOut → (Standing → Type 0) → Standing → Type 0
once_asked records.Good after s = after s
once_asked records.Lost after s = after s
once_asked records.Cut after s = once_off after s
once_asked records.Off after s = once_off after s
once_asked records.Fault after s = once_off after s

-- A side woke: why, and what it stands for.
pub record WokenSide (old new : Shown) (was now : Noted) (before after : Standing → Type 0) (told : Waking) : Type 0 where
  pub cause : WakesSide old new was now told
  pub since : stays_on told.record ≡ true → WasMounted new cause.mounted
  pub disc : stays_on told.record ≡ true → is_ready told.power ≡ true → HasDisc new
  pub step : (s : Standing) → before s → PowerStep cause.mounted (once_asked told.record after) s told.power

-- What the power on makes of a mirror: of what the side stood for that leads then, and of what each side did.
pub record PowersRoles (shown : Shown) (mirror lead other : Standing → Type 0) (s t led : Standing) (out : MirrorPowerOut) : Type 0 where
  pub leads : LeadPowerStep shown mirror led out
  pub of_lead : StandsMounted (on_or_off lead) s
  pub of_other : StandsMounted (on_or_off other) t

-- What it makes of both sides where the mirror starts with these as its lead and its other side.
module _ (lead lead' other other' : Standing → Type 0) (old new : MirrorShown) (here there : Waking) where
  -- the other side is up
  pub record IsUpWith (known : ℕ) : Type 0 where
    pub ready : is_ready_with known there.power ≡ true
    pub read : stays_on there.record ≡ true
    pub since : WasMounted new.other old.other
    pub keeps : (s : Standing) → other s → other' s

  -- the lead is ready
  pub record StartsReady (known : ℕ) : Type 0 where
    pub on : new.on ≡ true
    pub power : here.power ≡ powers.Ready known
    pub read : here.record ≡ records.Good
    pub table : new.table ≡ all_apart new.lead
    pub since : WasMounted new.lead old.lead
    pub keeps : (s : Standing) → lead s → lead' s
    pub some : (s : Standing) → other s → on_or_off other' s
    pub up : new.up ≡ true → IsUpWith known

  -- it is not formatted
  pub record StartsBare : Type 0 where
    pub on : new.on ≡ true
    pub down : new.up ≡ false
    pub power : here.power ≡ powers.NotFormatted
    pub read : here.record ≡ records.Good
    pub keeps : (s : Standing) → lead s → lead' s
    pub some : (s : Standing) → other s → on_or_off other' s

  -- the mirror is off
  pub record StartsOff : Type 0 where
    pub off : new.on ≡ false
    pub some_lead : (s : Standing) → lead s → on_or_off lead' s
    pub some : (s : Standing) → other s → on_or_off other' s

  -- by the answer
  abbrev pub StartsAs : MirrorPowerOut → Type 0
  StartsAs (outs.Ready known) = StartsReady known
  StartsAs outs.NotFormatted = StartsBare
  StartsAs _ = StartsOff

-- How the power of a mirror went on, whose roles may be exchanged by it.
module _ {L O : Type 0} (l : Drives L) (o : Drives O) where
  -- its cause
  abbrev pub PowersLed : Bool → L → O → Following → L → O → Following → Led MirrorPowerOut → Type 0
  PowersLed side lead other was lead' other' now (leds.Kept out) =
      MirrorPowerCause (shown_by l o side lead other was) (shown_by l o side lead' other' now) out
  PowersLed side lead other was lead' other' now (leds.Given out) =
      MirrorPowerCause (shown_by l o side lead other was) (shown_by o l (not side) other' lead' now) out

  -- what it makes of what both sides stood for; here the lead is the first
  abbrev pub PowersLedStep : Bool → L → O → L → O → Following → Led MirrorPowerOut → Type 0
  PowersLedStep side lead other lead' other' now (leds.Kept out) = (s t : Standing) → l.stands lead s → o.stands other t
      → PowersRoles (l.shows lead') (stands_by l o side lead' other' now) (l.stands lead') (o.stands other') s t s out
  PowersLedStep side lead other lead' other' now (leds.Given out) = (s t : Standing) → l.stands lead s → o.stands other t
      → PowersRoles (o.shows other') (stands_by o l (not side) other' lead' now) (l.stands lead') (o.stands other') s t t out
