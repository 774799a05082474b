-- A call of a mirror leaves the geometry of both sides, and what they show sound.
use Rattle.std.specs.Prelude.{◌≡◌, ℕ, zero, suc, ◌+◌, ◌*◌, ◌&&◌, MatchBool, Bool, true, false, nat_lt}
use Rattle.std.proofs.Common.{refl, sym, ap, ◌∙◌, inl, inr, subst}
use Rattle.model_geometry.specs.Geometry.{Shape}
use Rattle.model_sectors.specs.declared.PowerOut.{PowerOut}
use Rattle.model_sectors.specs.declared.PowerOut.TheVariants as power_outs
use Rattle.model_sectors.specs.declared.ReadOut.{ReadOut}
use Rattle.model_sectors.specs.declared.ReadOut.TheVariants as reads
use Rattle.model_drive.specs.declared.WriteOut.{WriteOut}
use Rattle.model_drive.specs.declared.WriteOut.TheVariants as writes
use Rattle.model_drive.specs.declared.FormatOut.{FormatOut}
use Rattle.model_drive.specs.declared.FormatOut.TheVariants as formats
use Rattle.model_drive.specs.declared.RecordOut.{RecordOut}
use Rattle.model_drive.specs.declared.RecordOut.TheVariants as records
use Rattle.model_drive.specs.Shown.{Shown}
use Rattle.model_drive.specs.Sound.{IsSound}
use Rattle.model_cache.specs.Chains.{LeavesSound}
use Rattle.model_mirror.specs.declared.GiveOut.{GiveOut}
use Rattle.model_mirror.specs.declared.GiveOut.TheVariants as gives
use Rattle.model_mirror.specs.declared.MirrorPowerOut.{MirrorPowerOut}
use Rattle.model_mirror.specs.declared.MirrorPowerOut.TheVariants as outs
use Rattle.model_mirror.specs.declared.Resync.{Resync}
use Rattle.model_mirror.specs.declared.Resync.TheVariants as resyncs
use Rattle.model_mirror.specs.declared.Waking.{Waking}
use Rattle.model_mirror.specs.Table.{is_apart}
use Rattle.model_mirror.specs.Leading.{Noted, Raises, WritesNumber, WritesNoNumber, last_number}
use Rattle.model_mirror.specs.Shown.{MirrorShown, exchanged, turned, may_lead, stands_in, mirror_turned_off, led_by}
use Rattle.model_mirror.specs.Taking.{LeadRaises, OtherRaises, LeadIsTaken, LeadIsNotTaken, CannotTake}
use Rattle.model_mirror.specs.Reads.{LeadReads, AsksOther, EndsPart, MirrorReadsPart, MirrorReadsParts, EndsMirrorRead, ReadsLed, ReadsElsewhere, ReadsWithSides, MirrorReadCause, after_lone_read}
use Rattle.model_mirror.specs.Writes.{LeadWrites, OtherEnds, OtherWrites, WritesBoth, LeadRefuses, WritesLed, WritesElsewhere, WritesWithSides, MirrorWriteCause, after_lone_write}
use Rattle.model_mirror.specs.Whole.{LeadFormats, FormatsBoth, FormatsLead, FormatStopped, FormatsOn, MirrorFormatCause, WritesCopy, CopyEnds, CopyGoesOn, CopiesBlock, WritesBack, MendEnds, MendsLack, MendGoesOn, MendsBlock, ResyncsBlock, ResyncsBlocks, CopyStopped, ResyncStopped, ResyncsOn, ResyncCause}
use Rattle.model_mirror.specs.Powers.{WakesSide, NobodyLeads, LeadStops, stop_of, OtherFollows, RaisesFirst, LeadGoesOn, Leads, Starts, Finishes, is_to_lead, was_read, can_tell, still_tells, stays_on, MirrorPowerCause}
use Rattle.model_mirror.specs.Giving.{IsNotGiven, Gives, GiveLeadCause, is_to_turn}
use Rattle.model_mirror_laws.specs.Kept.{AreSides}

module _ (shape : Shape) where
  -- one side has this geometry, and what it shows is sound
  abbrev pub IsSide : Shown → Type 0
  IsSide shown = (shown.shape ≡ shape) × IsSound shown

  pub side_left : (old new : Shown) → LeavesSound old new → IsSide old → IsSide new
  side_left old new leaves side = (leaves.same_shape ∙ side.0, leaves.sound)

  side_same : (old new : Shown) → new ≡ old → IsSide old → IsSide new
  side_same old new same side = subst IsSide (sym same) side

  pub lead_is : (x : MirrorShown) → AreSides shape x → IsSide x.lead
  lead_is x sides = (sides.lead_shape, sides.lead_sound)

  pub other_is : (x : MirrorShown) → AreSides shape x → IsSide x.other
  other_is x sides = (sides.other_shape, sides.other_sound)

  pub both_are : (x : MirrorShown) → IsSide x.lead → IsSide x.other → AreSides shape x
  both_are x lead other = record { lead_shape = lead.0; other_shape = other.0; lead_sound = lead.1; other_sound = other.1 }

  exchanged_sides : (x : MirrorShown) → AreSides shape x → AreSides shape (exchanged x)
  exchanged_sides x sides = both_are (exchanged x) (other_is x sides) (lead_is x sides)

  turned_sides : (turns : Bool) (x : MirrorShown) → AreSides shape x → AreSides shape (turned turns x)
  turned_sides true x sides = exchanged_sides x sides
  turned_sides false x sides = sides

  module _ (x y : MirrorShown) (sides : AreSides shape x) where
    -- both sides are as they were
    neither : y.lead ≡ x.lead → y.other ≡ x.other → AreSides shape y
    neither lead other = both_are y (side_same x.lead y.lead lead (lead_is x sides)) (side_same x.other y.other other (other_is x sides))

    mirror_same : y ≡ x → AreSides shape y
    mirror_same same = neither (ap (λ (s : MirrorShown). s.lead) same) (ap (λ (s : MirrorShown). s.other) same)

    mirror_off : y ≡ mirror_turned_off x → AreSides shape y
    mirror_off same = neither (ap (λ (s : MirrorShown). s.lead) same) (ap (λ (s : MirrorShown). s.other) same)

    -- one was called
    lead_alone : y.other ≡ x.other → LeavesSound x.lead y.lead → AreSides shape y
    lead_alone other leaves = both_are y (side_left x.lead y.lead leaves (lead_is x sides)) (side_same x.other y.other other (other_is x sides))

    other_alone : y.lead ≡ x.lead → LeavesSound x.other y.other → AreSides shape y
    other_alone lead leaves = both_are y (side_same x.lead y.lead lead (lead_is x sides)) (side_left x.other y.other leaves (other_is x sides))

    lead_read : (lba n : ℕ) (out : ReadOut) → LeadReads x y lba n out → AreSides shape y
    lead_read lba n out r = lead_alone (ap (λ (s : MirrorShown). s.other) r.1) r.0.leaves

    lead_written : (lba n : ℕ) (out : WriteOut) → LeadWrites x y lba n out → AreSides shape y
    lead_written lba n out w = lead_alone (ap (λ (s : MirrorShown). s.other) w.1) w.0.leaves

  -- The record of a side was made one with a greater number.
  raised_side : (old new : Shown) (was now : Noted) (above : ℕ) (out : RecordOut) → Raises old new was now above out → IsSide old → IsSide new
  raised_side old new was now above out raises side = go (nat_lt above was.most) raises
    where
      inner : (b : Bool) → MatchBool b (WritesNumber old new was now (above + 1) out) (WritesNoNumber old new was now × (out ≡ records.Lost)) → IsSide new
      inner true wrote = side_left old new wrote.leaves side
      inner false p = side_same old new p.0.same side

      go : (b : Bool) → MatchBool b (WritesNoNumber old new was now × (out ≡ records.Good)) (MatchBool (nat_lt above last_number) (WritesNumber old new was now (above + 1) out) (WritesNoNumber old new was now × (out ≡ records.Lost))) → IsSide new
      go true p = side_same old new p.0.same side
      go false p = inner (nat_lt above last_number) p

  module _ (x y : MirrorShown) (above : ℕ) (out : RecordOut) (sides : AreSides shape x) where
    lead_raised : LeadRaises x y above out → AreSides shape y
    lead_raised r = both_are y (raised_side x.lead y.lead x.who.lead y.who.lead above out r.raises (lead_is x sides)) (side_same x.other y.other (ap (λ (s : MirrorShown). s.other) r.new_is) (other_is x sides))

    other_raised : OtherRaises x y above out → AreSides shape y
    other_raised r = both_are y (side_same x.lead y.lead (ap (λ (s : MirrorShown). s.lead) r.new_is) (lead_is x sides)) (raised_side x.other y.other x.who.other y.who.other above out r.raises (other_is x sides))

  -- The other side takes the lead, or does not.
  taken_sides : (mid new : MirrorShown) → LeadIsTaken mid new → AreSides shape mid → AreSides shape new
  taken_sides mid new taken sides = neither (exchanged taken.late) new (exchanged_sides taken.late (other_raised mid taken.late mid.who.lead.most records.Good sides taken.wrote))
      (ap (λ (s : MirrorShown). s.lead) taken.new_is) (ap (λ (s : MirrorShown). s.other) taken.new_is)

  not_taken_sides : (mid new : MirrorShown) → LeadIsNotTaken mid new → AreSides shape mid → AreSides shape new
  not_taken_sides mid new taken sides = mirror_off taken.late new (go (may_lead mid) taken.why) taken.new_is
    where
      go : (b : Bool) → MatchBool b (CannotTake mid taken.late) (taken.late ≡ mid) → AreSides shape taken.late
      go true cannot = other_raised mid taken.late mid.who.lead.most cannot.told sides cannot.wrote
      go false same = mirror_same mid taken.late sides same

  -- What a call by a lead alone leaves.
  after_read : (told : ReadOut) (x : MirrorShown) → AreSides shape x → AreSides shape (after_lone_read told x)
  after_read reads.Good x sides = sides
  after_read reads.NotFormatted x sides = sides
  after_read (reads.Range known) x sides = sides
  after_read (reads.Unread named block) x sides = sides
  after_read reads.Cut x sides = mirror_off x (mirror_turned_off x) sides refl
  after_read reads.Off x sides = sides
  after_read reads.Fault x sides = mirror_off x (mirror_turned_off x) sides refl

  after_write : (told : WriteOut) (x : MirrorShown) → AreSides shape x → AreSides shape (after_lone_write told x)
  after_write writes.Good x sides = sides
  after_write writes.NotFormatted x sides = sides
  after_write (writes.Range known) x sides = sides
  after_write (writes.Unread named block) x sides = sides
  after_write (writes.NoSpare named) x sides = sides
  after_write (writes.NoUpdate counter) x sides = sides
  after_write writes.Cut x sides = mirror_off x (mirror_turned_off x) sides refl
  after_write writes.Off x sides = sides
  after_write writes.Fault x sides = mirror_off x (mirror_turned_off x) sides refl

  -- the lead of x was called, and shows this
  led_sides : (x : MirrorShown) (lead : Shown) → LeavesSound x.lead lead → AreSides shape x → AreSides shape (led_by x lead)
  led_sides x lead leaves sides = lead_alone x (led_by x lead) sides refl leaves

  -- Reads.
  module _ (lba n : ℕ) where
    module _ (block : ℕ) where
      part_ends : (mid new : MirrorShown) (told out : ReadOut) → AreSides shape mid → EndsPart mid new lba n block told out → AreSides shape new
      part_ends mid new (reads.Unread named home) out sides ends = go (stands_in mid block) ends
        where
          go : (b : Bool) → MatchBool b (AsksOther mid new lba n block (reads.Unread named home) out) ((new ≡ mid) × (out ≡ reads.Unread named home)) → AreSides shape new
          go true asks = other_alone mid new sides (ap (λ (s : MirrorShown). s.lead) asks.new_is) asks.reads.leaves
          go false p = mirror_same mid new sides p.0
      part_ends mid new reads.Good out sides ends = mirror_same mid new sides ends.0
      part_ends mid new reads.NotFormatted out sides ends = mirror_same mid new sides ends.0
      part_ends mid new (reads.Range known) out sides ends = mirror_same mid new sides ends.0
      part_ends mid new reads.Cut out sides ends = mirror_same mid new sides ends.0
      part_ends mid new reads.Off out sides ends = mirror_same mid new sides ends.0
      part_ends mid new reads.Fault out sides ends = mirror_same mid new sides ends.0

      part_sides : (old new : MirrorShown) (out : ReadOut) → AreSides shape old → MirrorReadsPart old new lba n block out → AreSides shape new
      part_sides old new out sides part = part_ends part.mid new part.told out (lead_read old part.mid sides _ _ part.told part.reads) part.ends

    parts_sides : (k : ℕ) (old new : MirrorShown) → AreSides shape old → MirrorReadsParts old new lba n k → AreSides shape new
    parts_sides zero old new sides same = mirror_same old new sides same
    parts_sides (suc k) old new sides (mid, parts, part) = part_sides _ mid new reads.Good (parts_sides k old mid sides parts) part

    module _ (old new : MirrorShown) (sides : AreSides shape old) where
      read_ends : (out : ReadOut) → EndsMirrorRead old new lba n out → AreSides shape new
      read_ends out ends = part_sides _ ends.mid new out (parts_sides ends.before old ends.mid sides ends.parts) ends.ends

      read_led : (out : ReadOut) → ReadsLed old new lba n out → AreSides shape new
      read_led reads.Good led = parts_sides _ old new sides led.1
      read_led reads.NotFormatted led = lead_read old new sides lba n _ led
      read_led (reads.Range known) led = lead_read old new sides lba n _ led
      read_led (reads.Unread named block) led = read_ends _ led
      read_led reads.Cut led = read_ends _ led
      read_led reads.Off led = lead_read old new sides lba n _ led
      read_led reads.Fault led = read_ends _ led

    module _ (old new : MirrorShown) (sides : AreSides shape old) where
      read_elsewhere : (out : ReadOut) → ReadsElsewhere old new lba n out → AreSides shape new
      read_elsewhere out e = mirror_same (after_lone_read out (led_by e.late new.lead)) new
          (after_read out (led_by e.late new.lead) (led_sides e.late new.lead e.reads.leaves (taken_sides e.mid e.late e.takes (read_led old e.mid sides e.lost e.led)))) e.new_is

      pub read_sides : (out : ReadOut) → MirrorReadCause old new lba n out → AreSides shape new
      read_sides out cause = go old.on cause
        where
          with_sides : ReadsWithSides old new lba n out → AreSides shape new
          with_sides (inl led) = read_led old new sides out led.1
          with_sides (inr (inl e)) = read_elsewhere out e
          with_sides (inr (inr s)) = not_taken_sides s.mid new s.takes (read_led old s.mid sides out s.led)

          go : (b : Bool) → MatchBool b (ReadsWithSides old new lba n out) ((out ≡ reads.Off) × (new ≡ old)) → AreSides shape new
          go true c = with_sides c
          go false p = mirror_same old new sides p.1

      -- Writes.
      other_written : (mid : MirrorShown) → AreSides shape mid → OtherWrites mid new lba n → AreSides shape new
      other_written mid mids w = other_alone mid new mids (ended w.told w.ends) w.wrote.leaves
        where
          ended : (told : WriteOut) → OtherEnds mid new lba n told → new.lead ≡ mid.lead
          ended writes.Good e = ap (λ (s : MirrorShown). s.lead) e.0
          ended (writes.Unread named block) e = ap (λ (s : MirrorShown). s.lead) e.0
          ended (writes.NoSpare named) e = ap (λ (s : MirrorShown). s.lead) e.0
          ended (writes.NoUpdate counter) e = ap (λ (s : MirrorShown). s.lead) e.0
          ended writes.NotFormatted e = ap (λ (s : MirrorShown). s.lead) e
          ended (writes.Range known) e = ap (λ (s : MirrorShown). s.lead) e
          ended writes.Cut e = ap (λ (s : MirrorShown). s.lead) e
          ended writes.Off e = ap (λ (s : MirrorShown). s.lead) e
          ended writes.Fault e = ap (λ (s : MirrorShown). s.lead) e

      both_written : WritesBoth old new lba n → AreSides shape new
      both_written w = go w.mid.up w.other
        where
          mids : AreSides shape w.mid
          mids = lead_written old w.mid sides lba n writes.Good w.lead

          go : (b : Bool) → MatchBool b (OtherWrites w.mid new lba n) (new ≡ w.mid) → AreSides shape new
          go true o = other_written w.mid mids o
          go false same = mirror_same w.mid new mids same

      lead_refused : (out : WriteOut) (chosen : ℕ → Bool) → LeadRefuses old new lba n out chosen → AreSides shape new
      lead_refused out chosen r = neither r.mid new (lead_written old r.mid sides lba n out r.lead) (ap (λ (s : MirrorShown). s.lead) r.new_is) (ap (λ (s : MirrorShown). s.other) r.new_is)

      write_led : (out : WriteOut) → WritesLed old new lba n out → AreSides shape new
      write_led writes.Good led = both_written led
      write_led (writes.Unread named block) led = lead_refused _ _ led
      write_led (writes.NoSpare named) led = lead_refused _ _ led
      write_led (writes.NoUpdate counter) led = lead_refused _ _ led
      write_led writes.NotFormatted led = lead_written old new sides lba n _ led
      write_led (writes.Range known) led = lead_written old new sides lba n _ led
      write_led writes.Cut led = lead_written old new sides lba n _ led
      write_led writes.Off led = lead_written old new sides lba n _ led
      write_led writes.Fault led = lead_written old new sides lba n _ led

      write_elsewhere : (out : WriteOut) → WritesElsewhere old new lba n out → AreSides shape new
      write_elsewhere out e = mirror_same (after_lone_write out (led_by e.late new.lead)) new
          (after_write out (led_by e.late new.lead) (led_sides e.late new.lead e.wrote.leaves (taken_sides e.mid e.late e.takes (lead_written old e.mid sides lba n e.lost e.led)))) e.new_is

      pub write_sides : (out : WriteOut) → MirrorWriteCause old new lba n out → AreSides shape new
      write_sides out cause = go old.on cause
        where
          with_sides : WritesWithSides old new lba n out → AreSides shape new
          with_sides (inl led) = write_led out led.1
          with_sides (inr (inl e)) = write_elsewhere out e
          with_sides (inr (inr s)) = not_taken_sides s.mid new s.takes (lead_written old s.mid sides lba n out s.led)

          go : (b : Bool) → MatchBool b (WritesWithSides old new lba n out) ((out ≡ writes.Off) × (new ≡ old)) → AreSides shape new
          go true c = with_sides c
          go false p = mirror_same old new sides p.1

  -- A format.
  module _ (old new : MirrorShown) (sides : AreSides shape old) where
    lead_formatted : (mid : MirrorShown) (out : FormatOut) → LeadFormats old mid out → AreSides shape mid
    lead_formatted mid out f = lead_alone old mid sides (ap (λ (s : MirrorShown). s.other) f.1) f.0.leaves

    formats_both : FormatsBoth old new → AreSides shape new
    formats_both f = other_alone f.mid new (lead_formatted f.mid formats.Good f.lead) (ap (λ (s : MirrorShown). s.lead) f.new_is) f.other.leaves

    formats_lead : (out : FormatOut) → FormatsLead old new out → AreSides shape new
    formats_lead out f = elim f.ends [
      | inl kept ↦ mirror_same f.mid new (lead_formatted f.mid out f.lead) kept.1
      | inr gone ↦ neither f.mid new (lead_formatted f.mid out f.lead) (ap (λ (s : MirrorShown). s.lead) gone.1) (ap (λ (s : MirrorShown). s.other) gone.1)
    ]

    format_stopped : (out : FormatOut) → FormatStopped old new out → AreSides shape new
    format_stopped out f = mirror_off f.mid new (lead_formatted f.mid out f.lead) f.new_is

    formats_on : (out : FormatOut) → FormatsOn old new out → AreSides shape new
    formats_on formats.Good f = formats_both f
    formats_on (formats.TooMany found) f = formats_lead _ f
    formats_on (formats.NoUpdate counter) f = formats_lead _ f
    formats_on formats.Cut f = format_stopped _ f
    formats_on formats.Off f = lead_formatted new formats.Off f
    formats_on formats.Fault f = format_stopped _ f

    pub format_sides : (out : FormatOut) → MirrorFormatCause old new out → AreSides shape new
    format_sides out cause = go old.on cause
      where
        go : (b : Bool) → MatchBool b (FormatsOn old new out) ((out ≡ formats.Off) × (new ≡ old)) → AreSides shape new
        go true f = formats_on out f
        go false p = mirror_same old new sides p.1

  -- One block in a resynchronisation.
  module _ (i : ℕ) where
    copied_sides : (old new : MirrorShown) → AreSides shape old → CopiesBlock old new i → AreSides shape new
    copied_sides old new sides c = goes c.told c.goes_on
      where
        mids : AreSides shape c.mid
        mids = lead_read old c.mid sides (16 * i) 16 c.told c.reads

        ended : (told : WriteOut) → CopyEnds c.mid new i told → new.lead ≡ c.mid.lead
        ended writes.Good e = ap (λ (s : MirrorShown). s.lead) e.0
        ended writes.NotFormatted e = ap (λ (s : MirrorShown). s.lead) e
        ended (writes.Range known) e = ap (λ (s : MirrorShown). s.lead) e
        ended (writes.Unread named block) e = ap (λ (s : MirrorShown). s.lead) e
        ended (writes.NoSpare named) e = ap (λ (s : MirrorShown). s.lead) e
        ended (writes.NoUpdate counter) e = ap (λ (s : MirrorShown). s.lead) e
        ended writes.Cut e = ap (λ (s : MirrorShown). s.lead) e
        ended writes.Off e = ap (λ (s : MirrorShown). s.lead) e
        ended writes.Fault e = ap (λ (s : MirrorShown). s.lead) e

        wrote : WritesCopy c.mid new i → AreSides shape new
        wrote w = other_alone c.mid new mids (ended w.told w.ends) w.wrote.leaves

        goes : (told : ReadOut) → CopyGoesOn c.mid new i told → AreSides shape new
        goes reads.Good w = wrote w
        goes (reads.Unread named block) same = mirror_same c.mid new mids same
        goes reads.NotFormatted none = absurd none
        goes (reads.Range known) none = absurd none
        goes reads.Cut none = absurd none
        goes reads.Off none = absurd none
        goes reads.Fault none = absurd none

    back_sides : (mid new : MirrorShown) (out : ReadOut) → AreSides shape mid → WritesBack mid new i out → AreSides shape new
    back_sides mid new out sides w = mirror_same (after_lone_write w.told (led_by mid new.lead)) new (after_write w.told (led_by mid new.lead) (led_sides mid new.lead w.wrote.leaves sides)) w.new_is

    mend_sides : (mid new : MirrorShown) (told out : ReadOut) → AreSides shape mid → MendEnds mid new i told out → AreSides shape new
    mend_sides mid new reads.Good out sides e = back_sides mid new out sides e
    mend_sides mid new reads.NotFormatted out sides e = mirror_same mid new sides e.0
    mend_sides mid new (reads.Range known) out sides e = mirror_same mid new sides e.0
    mend_sides mid new (reads.Unread named block) out sides e = mirror_same mid new sides e.0
    mend_sides mid new reads.Cut out sides e = mirror_same mid new sides e.0
    mend_sides mid new reads.Off out sides e = mirror_same mid new sides e.0
    mend_sides mid new reads.Fault out sides e = mirror_same mid new sides e.0

    lack_sides : (mid new : MirrorShown) (out : ReadOut) → AreSides shape mid → MendsLack mid new i out → AreSides shape new
    lack_sides mid new out sides lack = mend_sides lack.late new lack.told out (other_alone mid lack.late sides (ap (λ (s : MirrorShown). s.lead) lack.late_is) lack.reads.leaves) lack.ends

    mended_sides : (old new : MirrorShown) (out : ReadOut) → AreSides shape old → MendsBlock old new i out → AreSides shape new
    mended_sides old new out sides m = goes m.told m.goes_on
      where
        mids : AreSides shape m.mid
        mids = lead_read old m.mid sides (16 * i) 16 m.told m.reads

        goes : (told : ReadOut) → MendGoesOn m.mid new i told out → AreSides shape new
        goes reads.Good p = mirror_same m.mid new mids p.0
        goes (reads.Unread named block) lack = lack_sides m.mid new out mids lack
        goes reads.Cut p = mirror_off m.mid new mids p.0
        goes reads.Fault p = mirror_off m.mid new mids p.0
        goes reads.NotFormatted none = absurd none
        goes (reads.Range known) none = absurd none
        goes reads.Off none = absurd none

    through_sides : (old new : MirrorShown) → AreSides shape old → ResyncsBlock old new i → AreSides shape new
    through_sides old new sides goes = up old.up goes
      where
        apart : (b : Bool) → MatchBool b (CopiesBlock old new i) (MendsBlock old new i reads.Good) → AreSides shape new
        apart true c = copied_sides old new sides c
        apart false m = mended_sides old new reads.Good sides m

        up : (b : Bool) → MatchBool b (MatchBool (is_apart old.table i) (CopiesBlock old new i) (MendsBlock old new i reads.Good)) (new ≡ old) → AreSides shape new
        up true g = apart (is_apart old.table i) g
        up false same = mirror_same old new sides same

    stops_sides : (mid new : MirrorShown) (told : ReadOut) → AreSides shape mid → MatchBool (is_apart mid.table i) (CopyStopped mid new i told) (MendsBlock mid new i told) → AreSides shape new
    stops_sides mid new told sides stops = go (is_apart mid.table i) stops
      where
        go : (b : Bool) → MatchBool b (CopyStopped mid new i told) (MendsBlock mid new i told) → AreSides shape new
        go true c = mirror_off c.late new (lead_read mid c.late sides (16 * i) 16 told c.reads) c.new_is
        go false m = mended_sides mid new told sides m

  blocks_sides : (k : ℕ) (old new : MirrorShown) → AreSides shape old → ResyncsBlocks old new k → AreSides shape new
  blocks_sides zero old new sides same = mirror_same old new sides same
  blocks_sides (suc k) old new sides (mid, blocks, one) = through_sides k mid new (blocks_sides k old mid sides blocks) one

  module _ (old new : MirrorShown) (sides : AreSides shape old) where
    resync_stopped : (told : ReadOut) → ResyncStopped old new told → AreSides shape new
    resync_stopped told c = stops_sides c.before c.mid new told (blocks_sides c.before old c.mid sides c.through) c.stops

    resyncs_on : (out : Resync) → ResyncsOn old new out → AreSides shape new
    resyncs_on (resyncs.Done left) c = blocks_sides _ old new sides c.through
    resyncs_on resyncs.NotFormatted c = mirror_same old new sides c.2
    resyncs_on resyncs.Cut c = resync_stopped reads.Cut c
    resyncs_on resyncs.Off c = mirror_same old new sides c.1
    resyncs_on resyncs.Fault c = resync_stopped reads.Fault c

    pub resync_sides : (out : Resync) → ResyncCause old new out → AreSides shape new
    resync_sides out cause = go old.on cause
      where
        go : (b : Bool) → MatchBool b (ResyncsOn old new out) ((out ≡ resyncs.Off) × (new ≡ old)) → AreSides shape new
        go true c = resyncs_on out c
        go false p = mirror_same old new sides p.1

  -- The lead is given by hand.
  module _ (old new : MirrorShown) (sides : AreSides shape old) where
    not_given : (turns : Bool) (told : RecordOut) → IsNotGiven turns old new told → AreSides shape new
    not_given turns told g = mirror_off (turned turns g.mid) new (turned_sides turns g.mid (lead_raised (turned turns old) g.mid _ told (turned_sides turns old sides) g.raises)) g.new_is

    gives_sides : (turns : Bool) (out : GiveOut) → Gives turns old new out → AreSides shape new
    gives_sides turns gives.Given g =
        let mids = lead_raised (turned turns old) g.mid _ records.Good (turned_sides turns old sides) g.raises in
        neither g.mid new mids (ap (λ (s : MirrorShown). s.lead) g.new_is) (ap (λ (s : MirrorShown). s.other) g.new_is)
    gives_sides turns (gives.NoUpdate counter) g = not_given turns records.Lost g.0
    gives_sides turns gives.Cut g = not_given turns records.Cut g
    gives_sides turns gives.Off g = mirror_same old new sides g.1
    gives_sides turns gives.Fault g = not_given turns records.Fault g

    pub give_sides : (to_a : Bool) (out : GiveOut) → GiveLeadCause old new to_a out → AreSides shape new
    give_sides to_a out cause = gives_sides (is_to_turn old.lead_is_a to_a) out cause

  -- The power on.
  woke_side : (old new : Shown) (was now : Noted) (told : Waking) → WakesSide old new was now told → IsSide old → IsSide new
  woke_side old new was now told wakes side = side_left wakes.mounted new wakes.notes.leaves (side_left old wakes.mounted wakes.mounts side)

  module _ (new : MirrorShown) (out : MirrorPowerOut) where
    nobody_sides : (mid : MirrorShown) → AreSides shape mid → NobodyLeads mid new out → AreSides shape new
    nobody_sides mid sides nobody = neither mid new sides (ap (λ (s : MirrorShown). s.lead) nobody.new_is) (ap (λ (s : MirrorShown). s.other) nobody.new_is)

    stops_lead : (mid : MirrorShown) (stop : MirrorPowerOut) → AreSides shape mid → LeadStops mid new stop out → AreSides shape new
    stops_lead mid stop sides stops = go mid.who.known stops
      where
        go : (b : Bool) → MatchBool b ((out ≡ stop) × (new ≡ mid)) (NobodyLeads mid new out) → AreSides shape new
        go true p = mirror_same mid new sides p.1
        go false nobody = nobody_sides mid sides nobody

    module _ (lead other : Waking) where
      finished_sides : (late : MirrorShown) (there : PowerOut) (on : Bool) (power : PowerOut) → AreSides shape late → Finishes late new there on power out → AreSides shape new
      finished_sides late there on (power_outs.Ready known) sides ends = neither late new sides (ap (λ (s : MirrorShown). s.lead) ends.new_is) (ap (λ (s : MirrorShown). s.other) ends.new_is)
      finished_sides late there on power_outs.NotFormatted sides ends = neither late new sides (ap (λ (s : MirrorShown). s.lead) ends.new_is) (ap (λ (s : MirrorShown). s.other) ends.new_is)
      finished_sides late there on power_outs.Cut sides ends = nobody_sides late sides ends
      finished_sides late there on power_outs.Fault sides ends = nobody_sides late sides ends

      first_sides : (mid late : MirrorShown) (asked : Bool) (raised : RecordOut) → AreSides shape mid → RaisesFirst mid late asked raised → AreSides shape late
      first_sides mid late true raised sides r = other_raised mid late 0 raised sides r
      first_sides mid late false raised sides r = mirror_same mid late sides r.0

      followed_sides : (mid : MirrorShown) → AreSides shape mid → OtherFollows mid new lead other out → AreSides shape new
      followed_sides mid sides f = go (still_tells f.late.who f.raised) f.ends
        where
          lates : AreSides shape f.late
          lates = first_sides mid f.late (was_read other.record) f.raised sides f.raises

          go : (b : Bool) → MatchBool b (Finishes f.late new other.power (stays_on other.record && stays_on f.raised) lead.power out) (NobodyLeads f.late new out) → AreSides shape new
          go true ends = finished_sides f.late other.power _ lead.power lates ends
          go false nobody = nobody_sides f.late lates nobody

      leads_sides : (mid : MirrorShown) → AreSides shape mid → Leads mid new lead other out → AreSides shape new
      leads_sides mid sides l = go l.raised l.ends
        where
          lates : AreSides shape l.late
          lates = lead_raised mid l.late _ l.raised sides l.raises

          go : (raised : RecordOut) → LeadGoesOn l.late new lead other out raised → AreSides shape new
          go records.Good ends = followed_sides l.late lates ends
          go records.Lost ends = nobody_sides l.late lates ends
          go records.Cut ends = mirror_same l.late new lates ends.1
          go records.Off ends = nobody_sides l.late lates ends
          go records.Fault ends = mirror_same l.late new lates ends.1

      starts_sides : (mid : MirrorShown) (told : RecordOut) → AreSides shape mid → Starts mid new lead other out told → AreSides shape new
      starts_sides mid records.Good sides starts = go (can_tell mid.who other.record) starts
        where
          go : (b : Bool) → MatchBool b (Leads mid new lead other out) (NobodyLeads mid new out) → AreSides shape new
          go true l = leads_sides mid sides l
          go false nobody = nobody_sides mid sides nobody
      starts_sides mid records.Lost sides starts = nobody_sides mid sides starts
      starts_sides mid records.Cut sides starts = stops_lead mid outs.Cut sides starts
      starts_sides mid records.Off sides starts = stops_lead mid (stop_of lead.power) sides starts
      starts_sides mid records.Fault sides starts = stops_lead mid outs.Fault sides starts

  module _ (old new : MirrorShown) (sides : AreSides shape old) (out : MirrorPowerOut) (cause : MirrorPowerCause old new out) where
    -- both sides woke
    woken_sides : AreSides shape cause.mid
    woken_sides = both_are cause.mid (woke_side old.lead cause.mid.lead old.who.lead cause.mid.who.lead cause.lead cause.wakes.led (lead_is old sides))
        (woke_side old.other cause.mid.other old.who.other cause.mid.who.other cause.other cause.wakes.followed (other_is old sides))

    pub power_sides : AreSides shape new
    power_sides = go (is_to_lead cause.mid cause.lead.record cause.other.record) cause.starts
      where
        go : (b : Bool) → MatchBool b (Starts (exchanged cause.mid) new cause.other cause.lead out cause.other.record) (Starts cause.mid new cause.lead cause.other out cause.lead.record) → AreSides shape new
        go true starts = starts_sides new out cause.other cause.lead (exchanged cause.mid) cause.other.record (exchanged_sides cause.mid woken_sides) starts
        go false starts = starts_sides new out cause.lead cause.other cause.mid cause.lead.record woken_sides starts
