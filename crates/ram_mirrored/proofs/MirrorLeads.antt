-- What each call of a mirror leaves of whether it is known who leads.
use Rattle.std.specs.Prelude.{◌≡◌, ℕ, zero, suc, ◌+◌, ◌⊎◌, Bool, true, false, ◌&&◌, not, MatchBool}
use Rattle.std.proofs.Common.{refl, sym, ap, ◌∙◌, inl, inr, subst}
use Rattle.model_sectors.specs.declared.ReadOut.{ReadOut}
use Rattle.model_sectors.specs.declared.ReadOut.TheVariants as reads
use Rattle.model_sectors.specs.declared.PowerOut.{PowerOut}
use Rattle.model_sectors.specs.declared.PowerOut.TheVariants as powers
use Rattle.model_sectors.specs.Requests.{block_with, blocks_covered}
use Rattle.model_drive.specs.declared.WriteOut.{WriteOut}
use Rattle.model_drive.specs.declared.WriteOut.TheVariants as writes
use Rattle.model_drive.specs.declared.FormatOut.{FormatOut}
use Rattle.model_drive.specs.declared.FormatOut.TheVariants as formats
use Rattle.model_drive.specs.declared.RecordOut.{RecordOut}
use Rattle.model_drive.specs.declared.RecordOut.TheVariants as records
use Rattle.model_drive.specs.Shown.{block_count}
use Rattle.model_mirror.specs.declared.Waking.{Waking}
use Rattle.model_mirror.specs.declared.MirrorPowerOut.{MirrorPowerOut}
use Rattle.model_mirror.specs.declared.MirrorPowerOut.TheVariants as outs
use Rattle.model_mirror.specs.declared.Resync.{Resync}
use Rattle.model_mirror.specs.declared.Resync.TheVariants as resyncs
use Rattle.model_mirror.specs.Table.{is_apart}
use Rattle.model_mirror.specs.Shown.{MirrorShown, may_lead, stands_in, exchanged, led_by}
use Rattle.model_mirror.specs.Taking.{OtherRaises, LeadIsTaken, LeadIsNotTaken, CannotTake}
use Rattle.model_mirror.specs.Reads.{MirrorReadCause, ReadsWithSides, ReadsLed, MirrorReadsPart, MirrorReadsParts, EndsPart, AsksOther, after_lone_read}
use Rattle.model_mirror.specs.Writes.{MirrorWriteCause, WritesWithSides, WritesLed, OtherEnds, OtherWrites, LeadRefuses, after_lone_write}
use Rattle.model_mirror.specs.Whole.{MirrorFormatCause, FormatsOn, ResyncCause, ResyncsOn, CopyEnds, CopyGoesOn, CopiesBlock, MendEnds, MendGoesOn, MendsBlock, MendsLack, ResyncsBlock, ResyncsBlocks, CopyStopped}
use Rattle.model_mirror.specs.Powers.{MirrorPowerCause, NobodyLeads, LeadStops, Finishes, RaisesFirst, OtherFollows, LeadGoesOn, Leads, Starts, is_to_lead, goes_before, was_read, can_tell, still_tells, stays_on, stop_of}

-- it is as known as before
abbrev pub SameKnown : MirrorShown → MirrorShown → Type 0
SameKnown old new = new.who.known ≡ old.who.known

abbrev known_of : MirrorShown → Bool
known_of shown = shown.who.known

by_same : (old new shown : MirrorShown) → new ≡ shown → shown.who.known ≡ old.who.known → SameKnown old new
by_same old new shown is same = ap known_of is ∙ same

-- ---- the lead is taken
other_raised : (mid late : MirrorShown) (above : ℕ) (out : RecordOut) → OtherRaises mid late above out → SameKnown mid late
other_raised mid late above out raises = ap known_of raises.new_is

taken : (mid new : MirrorShown) → LeadIsTaken mid new → SameKnown mid new
taken mid new is = ap known_of is.new_is ∙ other_raised mid is.late mid.who.lead.most records.Good is.wrote

not_taken : (mid new : MirrorShown) → LeadIsNotTaken mid new → SameKnown mid new
not_taken mid new is = ap known_of is.new_is ∙ go (may_lead mid) is.why
  where
    go : (b : Bool) → MatchBool b (CannotTake mid is.late) (is.late ≡ mid) → SameKnown mid is.late
    go true cannot = other_raised mid is.late mid.who.lead.most cannot.told cannot.wrote
    go false same = ap known_of same

-- ---- a read
lone_read : (out : ReadOut) (shown : MirrorShown) → SameKnown shown (after_lone_read out shown)
lone_read reads.Cut shown = refl
lone_read reads.Fault shown = refl
lone_read _ shown = refl

ends_part : (mid new : MirrorShown) (lba n block : ℕ) (told out : ReadOut) → EndsPart mid new lba n block told out → SameKnown mid new
ends_part mid new lba n block (reads.Unread named home) out ends = go (stands_in mid block) ends
  where
    go : (b : Bool) → MatchBool b (AsksOther mid new lba n block (reads.Unread named home) out) ((new ≡ mid) × (out ≡ reads.Unread named home)) → SameKnown mid new
    go true asks = ap known_of asks.new_is
    go false same = ap known_of same.0
ends_part mid new lba n block _ out ends = ap known_of ends.0

reads_part : (old new : MirrorShown) (lba n block : ℕ) (out : ReadOut) → MirrorReadsPart old new lba n block out → SameKnown old new
reads_part old new lba n block out part = ends_part part.mid new lba n block part.told out part.ends ∙ ap known_of part.reads.1

reads_parts : (old new : MirrorShown) (lba n k : ℕ) → MirrorReadsParts old new lba n k → SameKnown old new
reads_parts old new lba n zero parts = ap known_of parts
reads_parts old new lba n (suc k) parts = reads_part parts.0 new lba n (block_with lba + k) reads.Good parts.2 ∙ reads_parts old parts.0 lba n k parts.1

reads_led : (old new : MirrorShown) (lba n : ℕ) (out : ReadOut) → ReadsLed old new lba n out → SameKnown old new
reads_led old new lba n reads.Good led = reads_parts old new lba n (blocks_covered lba n) led.1
reads_led old new lba n reads.NotFormatted led = ap known_of led.1
reads_led old new lba n (reads.Range known) led = ap known_of led.1
reads_led old new lba n (reads.Unread named block) led = reads_part led.mid new lba n (block_with lba + led.before) (reads.Unread named block) led.ends ∙ reads_parts old led.mid lba n led.before led.parts
reads_led old new lba n reads.Cut led = reads_part led.mid new lba n (block_with lba + led.before) reads.Cut led.ends ∙ reads_parts old led.mid lba n led.before led.parts
reads_led old new lba n reads.Off led = ap known_of led.1
reads_led old new lba n reads.Fault led = reads_part led.mid new lba n (block_with lba + led.before) reads.Fault led.ends ∙ reads_parts old led.mid lba n led.before led.parts

pub read_known : (old new : MirrorShown) (lba n : ℕ) (out : ReadOut) → MirrorReadCause old new lba n out → SameKnown old new
read_known old new lba n out cause = go old.on cause
  where
    go : (b : Bool) → MatchBool b (ReadsWithSides old new lba n out) ((out ≡ reads.Off) × (new ≡ old)) → SameKnown old new
    go true (inl (on, led)) = reads_led old new lba n out led
    go true (inr (inl other)) = ap known_of other.new_is ∙ lone_read out (led_by other.late new.lead) ∙ taken other.mid other.late other.takes ∙ reads_led old other.mid lba n other.lost other.led
    go true (inr (inr stopped)) = not_taken stopped.mid new stopped.takes ∙ reads_led old stopped.mid lba n out stopped.led
    go false same = ap known_of same.1

-- ---- a write
lone_write : (out : WriteOut) (shown : MirrorShown) → SameKnown shown (after_lone_write out shown)
lone_write writes.Cut shown = refl
lone_write writes.Fault shown = refl
lone_write _ shown = refl

other_ends : (mid new : MirrorShown) (lba n : ℕ) (told : WriteOut) → OtherEnds mid new lba n told → SameKnown mid new
other_ends mid new lba n writes.Good ends = ap known_of ends.0
other_ends mid new lba n (writes.Unread named block) ends = ap known_of ends.0
other_ends mid new lba n (writes.NoSpare named) ends = ap known_of ends.0
other_ends mid new lba n (writes.NoUpdate counter) ends = ap known_of ends.0
other_ends mid new lba n _ ends = ap known_of ends

refuses : (old new : MirrorShown) (lba n : ℕ) (out : WriteOut) (chosen : ℕ → Bool) → LeadRefuses old new lba n out chosen → SameKnown old new
refuses old new lba n out chosen is = ap known_of is.new_is ∙ ap known_of is.lead.1

writes_led : (old new : MirrorShown) (lba n : ℕ) (out : WriteOut) → WritesLed old new lba n out → SameKnown old new
writes_led old new lba n writes.Good led = go led.mid.up led.other ∙ ap known_of led.lead.1
  where
    go : (b : Bool) → MatchBool b (OtherWrites led.mid new lba n) (new ≡ led.mid) → SameKnown led.mid new
    go true other = other_ends led.mid new lba n other.told other.ends
    go false same = ap known_of same
writes_led old new lba n (writes.Unread named block) led = refuses old new lba n (writes.Unread named block) _ led
writes_led old new lba n (writes.NoSpare named) led = refuses old new lba n (writes.NoSpare named) _ led
writes_led old new lba n (writes.NoUpdate counter) led = refuses old new lba n (writes.NoUpdate counter) _ led
writes_led old new lba n _ led = ap known_of led.1

pub write_known : (old new : MirrorShown) (lba n : ℕ) (out : WriteOut) → MirrorWriteCause old new lba n out → SameKnown old new
write_known old new lba n out cause = go old.on cause
  where
    go : (b : Bool) → MatchBool b (WritesWithSides old new lba n out) ((out ≡ writes.Off) × (new ≡ old)) → SameKnown old new
    go true (inl (on, led)) = writes_led old new lba n out led
    go true (inr (inl other)) = ap known_of other.new_is ∙ lone_write out (led_by other.late new.lead) ∙ taken other.mid other.late other.takes ∙ ap known_of other.led.1
    go true (inr (inr stopped)) = not_taken stopped.mid new stopped.takes ∙ ap known_of stopped.led.1
    go false same = ap known_of same.1

-- ---- a format
formats_on : (old new : MirrorShown) (out : FormatOut) → FormatsOn old new out → SameKnown old new
formats_on old new formats.Good is = ap known_of is.new_is ∙ ap known_of is.lead.1
formats_on old new (formats.TooMany found) is = elim is.ends [ inl kept ↦ ap known_of kept.1 ∙ ap known_of is.lead.1 | inr lost ↦ ap known_of lost.1 ∙ ap known_of is.lead.1 ]
formats_on old new (formats.NoUpdate counter) is = elim is.ends [ inl kept ↦ ap known_of kept.1 ∙ ap known_of is.lead.1 | inr lost ↦ ap known_of lost.1 ∙ ap known_of is.lead.1 ]
formats_on old new formats.Cut is = ap known_of is.new_is ∙ ap known_of is.lead.1
formats_on old new formats.Off is = ap known_of is.1
formats_on old new formats.Fault is = ap known_of is.new_is ∙ ap known_of is.lead.1

pub format_known : (old new : MirrorShown) (out : FormatOut) → MirrorFormatCause old new out → SameKnown old new
format_known old new out cause = go old.on cause
  where
    go : (b : Bool) → MatchBool b (FormatsOn old new out) ((out ≡ formats.Off) × (new ≡ old)) → SameKnown old new
    go true is = formats_on old new out is
    go false same = ap known_of same.1

-- ---- a resynchronisation
copy_ends : (mid new : MirrorShown) (i : ℕ) (told : WriteOut) → CopyEnds mid new i told → SameKnown mid new
copy_ends mid new i writes.Good ends = ap known_of ends.0
copy_ends mid new i (writes.Unread named block) ends = ap known_of ends
copy_ends mid new i (writes.NoSpare named) ends = ap known_of ends
copy_ends mid new i (writes.NoUpdate counter) ends = ap known_of ends
copy_ends mid new i _ ends = ap known_of ends

copy_goes_on : (mid new : MirrorShown) (i : ℕ) (told : ReadOut) → CopyGoesOn mid new i told → SameKnown mid new
copy_goes_on mid new i reads.Good copy = copy_ends mid new i copy.told copy.ends
copy_goes_on mid new i (reads.Unread named block) same = ap known_of same
copy_goes_on mid new i reads.NotFormatted is = absurd is
copy_goes_on mid new i (reads.Range known) is = absurd is
copy_goes_on mid new i reads.Cut is = absurd is
copy_goes_on mid new i reads.Off is = absurd is
copy_goes_on mid new i reads.Fault is = absurd is

copies : (old new : MirrorShown) (i : ℕ) → CopiesBlock old new i → SameKnown old new
copies old new i is = copy_goes_on is.mid new i is.told is.goes_on ∙ ap known_of is.reads.1

mend_ends : (mid new : MirrorShown) (i : ℕ) (told out : ReadOut) → MendEnds mid new i told out → SameKnown mid new
mend_ends mid new i reads.Good out back = ap known_of back.new_is ∙ lone_write back.told (led_by mid new.lead)
mend_ends mid new i _ out same = ap known_of same.0

mends_lack : (mid new : MirrorShown) (i : ℕ) (out : ReadOut) → MendsLack mid new i out → SameKnown mid new
mends_lack mid new i out is = mend_ends is.late new i is.told out is.ends ∙ ap known_of is.late_is

mend_goes_on : (mid new : MirrorShown) (i : ℕ) (told out : ReadOut) → MendGoesOn mid new i told out → SameKnown mid new
mend_goes_on mid new i reads.Good out same = ap known_of same.0
mend_goes_on mid new i (reads.Unread named block) out lack = mends_lack mid new i out lack
mend_goes_on mid new i reads.Cut out same = ap known_of same.0
mend_goes_on mid new i reads.Fault out same = ap known_of same.0
mend_goes_on mid new i reads.NotFormatted out is = absurd is
mend_goes_on mid new i (reads.Range known) out is = absurd is
mend_goes_on mid new i reads.Off out is = absurd is

mends : (old new : MirrorShown) (i : ℕ) (out : ReadOut) → MendsBlock old new i out → SameKnown old new
mends old new i out is = mend_goes_on is.mid new i is.told out is.goes_on ∙ ap known_of is.reads.1

goes_through : (old new : MirrorShown) (i : ℕ) → ResyncsBlock old new i → SameKnown old new
goes_through old new i is = go old.up is
  where
    block : (b : Bool) → MatchBool b (CopiesBlock old new i) (MendsBlock old new i reads.Good) → SameKnown old new
    block true copy = copies old new i copy
    block false mend = mends old new i reads.Good mend

    go : (b : Bool) → MatchBool b (MatchBool (is_apart old.table i) (CopiesBlock old new i) (MendsBlock old new i reads.Good)) (new ≡ old) → SameKnown old new
    go true part = block (is_apart old.table i) part
    go false same = ap known_of same

through_blocks : (old new : MirrorShown) (n : ℕ) → ResyncsBlocks old new n → SameKnown old new
through_blocks old new zero same = ap known_of same
through_blocks old new (suc k) is = goes_through is.0 new k is.2 ∙ through_blocks old is.0 k is.1

resync_stopped : (old mid new : MirrorShown) (i : ℕ) (told : ReadOut) → SameKnown old mid → MatchBool (is_apart mid.table i) (CopyStopped mid new i told) (MendsBlock mid new i told) → SameKnown old new
resync_stopped old mid new i told same stops = go (is_apart mid.table i) stops ∙ same
  where
    go : (b : Bool) → MatchBool b (CopyStopped mid new i told) (MendsBlock mid new i told) → SameKnown mid new
    go true copy = ap known_of copy.new_is ∙ ap known_of copy.reads.1
    go false mend = mends mid new i told mend

resyncs_on : (old new : MirrorShown) (out : Resync) → ResyncsOn old new out → SameKnown old new
resyncs_on old new (resyncs.Done left) is = through_blocks old new (block_count old.lead) is.through
resyncs_on old new resyncs.NotFormatted is = ap known_of is.2
resyncs_on old new resyncs.Cut is = resync_stopped old is.mid new is.before reads.Cut (through_blocks old is.mid is.before is.through) is.stops
resyncs_on old new resyncs.Off is = ap known_of is.1
resyncs_on old new resyncs.Fault is = resync_stopped old is.mid new is.before reads.Fault (through_blocks old is.mid is.before is.through) is.stops

pub resync_known : (old new : MirrorShown) (out : Resync) → ResyncCause old new out → SameKnown old new
resync_known old new out cause = go old.on cause
  where
    go : (b : Bool) → MatchBool b (ResyncsOn old new out) ((out ≡ resyncs.Off) × (new ≡ old)) → SameKnown old new
    go true is = resyncs_on old new out is
    go false same = ap known_of same.1

-- ---- a power on
-- By its answer: it is known who leads; or nobody leads, and the mirror is off; or it is off, and all is as before.
abbrev pub Tells : (mid new : MirrorShown) → MirrorPowerOut → Type 0
Tells mid new (outs.Ready known) = new.who.known ≡ true
Tells mid new outs.NotFormatted = new.who.known ≡ true
Tells mid new outs.Unknown = (new.who.known ≡ false) × (new.on ≡ false)
Tells mid new outs.Cut = SameKnown mid new × (new.on ≡ false)
Tells mid new outs.Fault = SameKnown mid new × (new.on ≡ false)

-- the roles stay
pub record Kept (mid new : MirrorShown) (out : MirrorPowerOut) : Type 0 where
  pub roles : new.lead_is_a ≡ mid.lead_is_a
  pub tells : Tells mid new out

nobody : (mid late new : MirrorShown) (out : MirrorPowerOut) → late.lead_is_a ≡ mid.lead_is_a → NobodyLeads late new out → Kept mid new out
nobody mid late new out roles is = record {
  roles = ap (λ (s : MirrorShown). s.lead_is_a) is.new_is ∙ roles;
  tells = subst (Tells mid new) (sym is.out_is) (ap known_of is.new_is, ap (λ (s : MirrorShown). s.on) is.new_is);
}

-- the state before is one that differs in neither
record AsBefore (mid late : MirrorShown) : Type 0 where
  roles : late.lead_is_a ≡ mid.lead_is_a
  known : SameKnown mid late
  off : late.on ≡ mid.on

stopped_as : (mid late new : MirrorShown) (out : MirrorPowerOut) (stop : MirrorPowerOut) → AsBefore mid late → mid.on ≡ false → (stop ≡ outs.Cut) ⊎ (stop ≡ outs.Fault) → out ≡ stop → new ≡ late → Kept mid new out
stopped_as mid late new out stop before off which is same = record {
  roles = ap (λ (s : MirrorShown). s.lead_is_a) same ∙ before.roles;
  tells = subst (Tells mid new) (sym is) (by_stop which);
}
  where
    both : SameKnown mid new × (new.on ≡ false)
    both = (ap known_of same ∙ before.known, ap (λ (s : MirrorShown). s.on) same ∙ before.off ∙ off)

    by_stop : (stop ≡ outs.Cut) ⊎ (stop ≡ outs.Fault) → Tells mid new stop
    by_stop (inl e) = subst (Tells mid new) (sym e) both
    by_stop (inr e) = subst (Tells mid new) (sym e) both

finishes : (mid late new : MirrorShown) (other : PowerOut) (on : Bool) (power : PowerOut) (out : MirrorPowerOut) → late.lead_is_a ≡ mid.lead_is_a → Finishes late new other on power out → Kept mid new out
finishes mid late new other on (powers.Ready known) out roles is = record { roles = ap (λ (s : MirrorShown). s.lead_is_a) is.new_is ∙ roles; tells = subst (Tells mid new) (sym is.out_is) (ap known_of is.new_is) }
finishes mid late new other on powers.NotFormatted out roles is = record { roles = ap (λ (s : MirrorShown). s.lead_is_a) is.new_is ∙ roles; tells = subst (Tells mid new) (sym is.out_is) (ap known_of is.new_is) }
finishes mid late new other on powers.Cut out roles is = nobody mid late new out roles is
finishes mid late new other on powers.Fault out roles is = nobody mid late new out roles is

first_raised : (mid late : MirrorShown) (asked : Bool) (raised : RecordOut) → RaisesFirst mid late asked raised → late.lead_is_a ≡ mid.lead_is_a
first_raised mid late true raised is = ap (λ (s : MirrorShown). s.lead_is_a) is.new_is
first_raised mid late false raised is = ap (λ (s : MirrorShown). s.lead_is_a) is.0

follows : (before mid new : MirrorShown) (lead other : Waking) (out : MirrorPowerOut) → mid.lead_is_a ≡ before.lead_is_a → OtherFollows mid new lead other out → Kept before new out
follows before mid new lead other out roles is = go (still_tells is.late.who is.raised) is.ends
  where
    late_roles : is.late.lead_is_a ≡ before.lead_is_a
    late_roles = first_raised mid is.late (was_read other.record) is.raised is.raises ∙ roles

    go : (b : Bool) → MatchBool b (Finishes is.late new other.power (stays_on other.record && stays_on is.raised) lead.power out) (NobodyLeads is.late new out) → Kept before new out
    go true ends = finishes before is.late new other.power (stays_on other.record && stays_on is.raised) lead.power out late_roles ends
    go false none = nobody before is.late new out late_roles none

leads : (mid new : MirrorShown) (lead other : Waking) (out : MirrorPowerOut) → mid.on ≡ false → Leads mid new lead other out → Kept mid new out
leads mid new lead other out off is = go is.raised is.ends
  where
    before : AsBefore mid is.late
    before = record { roles = ap (λ (s : MirrorShown). s.lead_is_a) is.raises.new_is; known = ap known_of is.raises.new_is; off = ap (λ (s : MirrorShown). s.on) is.raises.new_is }

    go : (raised : RecordOut) → LeadGoesOn is.late new lead other out raised → Kept mid new out
    go records.Good ends = follows mid is.late new lead other out before.roles ends
    go records.Lost ends = nobody mid is.late new out before.roles ends
    go records.Cut ends = stopped_as mid is.late new out outs.Cut before off (inl refl) ends.0 ends.1
    go records.Off ends = nobody mid is.late new out before.roles ends
    go records.Fault ends = stopped_as mid is.late new out outs.Fault before off (inr refl) ends.0 ends.1

stop_kind : (power : PowerOut) → (stop_of power ≡ outs.Cut) ⊎ (stop_of power ≡ outs.Fault)
stop_kind powers.Fault = inr refl
stop_kind (powers.Ready known) = inl refl
stop_kind powers.NotFormatted = inl refl
stop_kind powers.Cut = inl refl

lead_stops : (mid new : MirrorShown) (stop out : MirrorPowerOut) → mid.on ≡ false → (stop ≡ outs.Cut) ⊎ (stop ≡ outs.Fault) → LeadStops mid new stop out → Kept mid new out
lead_stops mid new stop out off which is = go mid.who.known is
  where
    go : (b : Bool) → MatchBool b ((out ≡ stop) × (new ≡ mid)) (NobodyLeads mid new out) → Kept mid new out
    go true ends = stopped_as mid mid new out stop (record { roles = refl; known = refl; off = refl }) off which ends.0 ends.1
    go false none = nobody mid mid new out refl none

starts : (mid new : MirrorShown) (lead other : Waking) (out : MirrorPowerOut) (told : RecordOut) → mid.on ≡ false → Starts mid new lead other out told → Kept mid new out
starts mid new lead other out records.Good off is = go (can_tell mid.who other.record) is
  where
    go : (b : Bool) → MatchBool b (Leads mid new lead other out) (NobodyLeads mid new out) → Kept mid new out
    go true ends = leads mid new lead other out off ends
    go false none = nobody mid mid new out refl none
starts mid new lead other out records.Lost off is = nobody mid mid new out refl is
starts mid new lead other out records.Cut off is = lead_stops mid new outs.Cut out off (inl refl) is
starts mid new lead other out records.Off off is = lead_stops mid new (stop_of lead.power) out off (stop_kind lead.power) is
starts mid new lead other out records.Fault off is = lead_stops mid new outs.Fault out off (inr refl) is

-- What a power on tells. The side that leads keeps the lead.
pub record PowerTells (old new : MirrorShown) (out : MirrorPowerOut) : Type 0 where
  pub tells : Tells old new out
  pub stays : old.who.known ≡ true → new.lead_is_a ≡ old.lead_is_a

tells_from : (old mid new : MirrorShown) (out : MirrorPowerOut) → SameKnown old mid → Tells mid new out → Tells old new out
tells_from old mid new (outs.Ready known) same tells = tells
tells_from old mid new outs.NotFormatted same tells = tells
tells_from old mid new outs.Unknown same tells = tells
tells_from old mid new outs.Cut same tells = (tells.0 ∙ same, tells.1)
tells_from old mid new outs.Fault same tells = (tells.0 ∙ same, tells.1)

-- where a side leads, the other is not to
not_to_lead : (mid : MirrorShown) (a b : RecordOut) → mid.who.known ≡ true → is_to_lead mid a b ≡ false
not_to_lead mid a b known = go mid.who.known (goes_before mid.lead_is_a mid.who.lead.most mid.who.other.most) known
  where
    go : (k c : Bool) → k ≡ true → (((not k && was_read a) && was_read b) && c) ≡ false
    go true c is = refl
    go false c is = absurd (let w = is in cc)

pub power_tells : (old new : MirrorShown) (out : MirrorPowerOut) → MirrorPowerCause old new out → PowerTells old new out
power_tells old new out cause = go (is_to_lead cause.mid cause.lead.record cause.other.record) refl cause.starts
  where
    off : cause.mid.on ≡ false
    off = ap (λ (s : MirrorShown). s.on) cause.wakes.new_is

    same : SameKnown old cause.mid
    same = ap known_of cause.wakes.new_is

    roles : cause.mid.lead_is_a ≡ old.lead_is_a
    roles = ap (λ (s : MirrorShown). s.lead_is_a) cause.wakes.new_is

    go : (b : Bool) → is_to_lead cause.mid cause.lead.record cause.other.record ≡ b → MatchBool b (Starts (exchanged cause.mid) new cause.other cause.lead out cause.other.record) (Starts cause.mid new cause.lead cause.other out cause.lead.record)
        → PowerTells old new out
    go true is ends =
        let kept = starts (exchanged cause.mid) new cause.other cause.lead out cause.other.record off ends in record {
          tells = tells_from old cause.mid new out same (tells_from cause.mid (exchanged cause.mid) new out refl kept.tells);
          stays = λ known. absurd (let no_turn = not_to_lead cause.mid cause.lead.record cause.other.record (same ∙ known) in let clash : true ≡ false = sym is ∙ no_turn in cc);
        }
    go false is ends =
        let kept = starts cause.mid new cause.lead cause.other out cause.lead.record off ends in
        record { tells = tells_from old cause.mid new out same kept.tells; stays = λ known. kept.roles ∙ roles }
