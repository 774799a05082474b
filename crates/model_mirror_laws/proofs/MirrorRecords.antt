-- What a call of a mirror leaves of the copies of both records.
use Rattle.std.specs.Prelude.{◌≡◌, ℕ, zero, suc, ◌+◌, ◌*◌, MatchBool, Bool, true, false, nat_lt}
use Rattle.std.proofs.Common.{refl, sym, ap, ◌∙◌, inl, inr, subst}
use Rattle.model_geometry.specs.Geometry.{Shape}
use Rattle.model_sectors.specs.declared.ReadOut.{ReadOut}
use Rattle.model_sectors.specs.declared.ReadOut.TheVariants as reads
use Rattle.model_drive.specs.declared.WriteOut.{WriteOut}
use Rattle.model_drive.specs.declared.WriteOut.TheVariants as writes
use Rattle.model_drive.specs.declared.FormatOut.{FormatOut}
use Rattle.model_drive.specs.declared.FormatOut.TheVariants as formats
use Rattle.model_drive.specs.declared.RecordOut.{RecordOut}
use Rattle.model_drive.specs.declared.RecordOut.TheVariants as records
use Rattle.model_drive.specs.Shown.{Shown}
use Rattle.model_mirror.specs.declared.Resync.{Resync}
use Rattle.model_mirror.specs.declared.Resync.TheVariants as resyncs
use Rattle.model_mirror.specs.Table.{is_apart}
use Rattle.model_mirror.specs.Leading.{Noted, Raises, WritesNumber, WritesNoNumber, last_number}
use Rattle.model_mirror.specs.Shown.{MirrorShown, stands_in, mirror_turned_off, led_by}
use Rattle.model_mirror.specs.Taking.{LeadIsTaken}
use Rattle.model_mirror.specs.Reads.{LeadReads, AsksOther, EndsPart, MirrorReadsPart, MirrorReadsParts, EndsMirrorRead, ReadsLed, ReadsElsewhere, ReadStopped, ReadsWithSides, MirrorReadCause, after_lone_read}
use Rattle.model_mirror.specs.Writes.{LeadWrites, OtherEnds, OtherWrites, WritesBoth, LeadRefuses, WritesLed, WritesElsewhere, WriteStopped, WritesWithSides, MirrorWriteCause, after_lone_write}
use Rattle.model_mirror.specs.Whole.{LeadFormats, FormatsBoth, FormatsLead, FormatStopped, FormatsOn, MirrorFormatCause, WritesCopy, CopyEnds, CopyGoesOn, CopiesBlock, WritesBack, MendEnds, MendsLack, MendGoesOn, MendsBlock, ResyncsBlock, ResyncsBlocks, CopyStopped, ResyncStopped, ResyncsOn, ResyncCause}
use Rattle.model_mirror_laws.specs.Kept.{AreSides, KeepsRecord, KeepsRecords, LeavesRecords}
use Rattle.model_mirror_laws.proofs.SideRecords.{HasValid, sound_valid, record_same, record_then, reads_side, writes_side, formats_side}

-- Both records are left, and the lists in use are valid.
pub record Stays (old new : MirrorShown) : Type 0 where
  pub keeps : KeepsRecords old new
  pub lead_valid : HasValid new.lead
  pub other_valid : HasValid new.other

-- nothing changed but what the other side shows
abbrev SameLead : MirrorShown → MirrorShown → Type 0
SameLead x y = (y.lead_is_a ≡ x.lead_is_a) × (y.who ≡ x.who) × (y.lead ≡ x.lead)

abbrev pub AreValidSides : MirrorShown → Type 0
AreValidSides shown = HasValid shown.lead × HasValid shown.other

valid_same : (old new : Shown) → new ≡ old → HasValid old → HasValid new
valid_same old new same valid = subst HasValid (sym same) valid

pub keeps_then : (x y z : MirrorShown) → KeepsRecords x y → KeepsRecords y z → KeepsRecords x z
keeps_then x y z one two = record {
  lead = record_then x.lead y.lead z.lead one.lead two.lead;
  other = record_then x.other y.other z.other one.other two.other;
  same_side = two.same_side ∙ one.same_side;
  same_who = two.same_who ∙ one.same_who;
}

stays_valid : (x y : MirrorShown) → Stays x y → AreValidSides y
stays_valid x y stays = (stays.lead_valid, stays.other_valid)

stays_then : (x y z : MirrorShown) → Stays x y → Stays y z → Stays x z
stays_then x y z one two = record { keeps = keeps_then x y z one.keeps two.keeps; lead_valid = two.lead_valid; other_valid = two.other_valid }

module _ (x y : MirrorShown) where
  -- only one side was called
  module _ (valid : AreValidSides x) (same_side : y.lead_is_a ≡ x.lead_is_a) (same_who : y.who ≡ x.who) where
    lead_alone : y.other ≡ x.other → KeepsRecord x.lead y.lead → HasValid y.lead → Stays x y
    lead_alone same keeps now = record {
      keeps = record { lead = keeps; other = record_same x.other y.other same; same_side = same_side; same_who = same_who };
      lead_valid = now;
      other_valid = valid_same x.other y.other same valid.1;
    }

    other_alone : y.lead ≡ x.lead → KeepsRecord x.other y.other → HasValid y.other → Stays x y
    other_alone same keeps now = record {
      keeps = record { lead = record_same x.lead y.lead same; other = keeps; same_side = same_side; same_who = same_who };
      lead_valid = valid_same x.lead y.lead same valid.0;
      other_valid = now;
    }

    neither : y.lead ≡ x.lead → y.other ≡ x.other → Stays x y
    neither one two = lead_alone two (record_same x.lead y.lead one) (valid_same x.lead y.lead one valid.0)

  same_stays : AreValidSides x → y ≡ x → Stays x y
  same_stays valid same = neither valid (ap (λ (s : MirrorShown). s.lead_is_a) same) (ap (λ (s : MirrorShown). s.who) same) (ap (λ (s : MirrorShown). s.lead) same) (ap (λ (s : MirrorShown). s.other) same)

  off_stays : AreValidSides x → y ≡ mirror_turned_off x → Stays x y
  off_stays valid same = neither valid (ap (λ (s : MirrorShown). s.lead_is_a) same) (ap (λ (s : MirrorShown). s.who) same) (ap (λ (s : MirrorShown). s.lead) same) (ap (λ (s : MirrorShown). s.other) same)

  pub lead_reads : (lba n : ℕ) (out : ReadOut) → AreValidSides x → LeadReads x y lba n out → Stays x y
  lead_reads lba n out valid r = lead_alone valid (ap (λ (s : MirrorShown). s.lead_is_a) r.1) (ap (λ (s : MirrorShown). s.who) r.1) (ap (λ (s : MirrorShown). s.other) r.1)
      (reads_side x.lead y.lead lba n out valid.0 r.0) (sound_valid y.lead r.0.leaves.sound)

  pub lead_writes : (lba n : ℕ) (out : WriteOut) → AreValidSides x → LeadWrites x y lba n out → Stays x y
  lead_writes lba n out valid w = lead_alone valid (ap (λ (s : MirrorShown). s.lead_is_a) w.1) (ap (λ (s : MirrorShown). s.who) w.1) (ap (λ (s : MirrorShown). s.other) w.1)
      (writes_side x.lead y.lead lba n out valid.0 w.0) (sound_valid y.lead w.0.leaves.sound)

-- So they are of a side whose record was made one with a greater number, and that took the lead.
raised_valid : (old new : Shown) (was now : Noted) (above : ℕ) (out : RecordOut) → Raises old new was now above out → HasValid old → HasValid new
raised_valid old new was now above out raises valid = go (nat_lt above was.most) raises
  where
    inner : (b : Bool) → MatchBool b (WritesNumber old new was now (above + 1) out) (WritesNoNumber old new was now × (out ≡ records.Lost)) → HasValid new
    inner true wrote = sound_valid new wrote.leaves.sound
    inner false p = valid_same old new p.0.same valid

    go : (b : Bool) → MatchBool b (WritesNoNumber old new was now × (out ≡ records.Good)) (MatchBool (nat_lt above last_number) (WritesNumber old new was now (above + 1) out) (WritesNoNumber old new was now × (out ≡ records.Lost))) → HasValid new
    go true p = valid_same old new p.0.same valid
    go false p = inner (nat_lt above last_number) p

taken_valid : (mid late : MirrorShown) → LeadIsTaken mid late → HasValid mid.other → HasValid late.lead
taken_valid mid late taken valid = valid_same taken.late.other late.lead (ap (λ (s : MirrorShown). s.lead) taken.new_is)
    (raised_valid mid.other taken.late.other mid.who.other taken.late.who.other mid.who.lead.most records.Good taken.wrote.raises valid)

-- what a write by a lead alone leaves of the roles
after_write : (told : WriteOut) (x : MirrorShown) → ((after_lone_write told x).lead_is_a ≡ x.lead_is_a) × ((after_lone_write told x).who ≡ x.who) × ((after_lone_write told x).other ≡ x.other)
after_write writes.Good x = (refl, refl, refl)
after_write writes.NotFormatted x = (refl, refl, refl)
after_write (writes.Range known) x = (refl, refl, refl)
after_write (writes.Unread named block) x = (refl, refl, refl)
after_write (writes.NoSpare named) x = (refl, refl, refl)
after_write (writes.NoUpdate counter) x = (refl, refl, refl)
after_write writes.Cut x = (refl, refl, refl)
after_write writes.Off x = (refl, refl, refl)
after_write writes.Fault x = (refl, refl, refl)

-- Reads.
module _ (lba n : ℕ) where
  module _ (block : ℕ) where
    asks_stays : (mid new : MirrorShown) (refused out : ReadOut) → AreValidSides mid → AsksOther mid new lba n block refused out → Stays mid new
    asks_stays mid new refused out valid asks = other_alone mid new valid (ap (λ (s : MirrorShown). s.lead_is_a) asks.new_is) (ap (λ (s : MirrorShown). s.who) asks.new_is) (ap (λ (s : MirrorShown). s.lead) asks.new_is)
        (reads_side mid.other new.other _ _ asks.told valid.1 asks.reads) (sound_valid new.other asks.reads.leaves.sound)

    ends_stays : (mid new : MirrorShown) (told out : ReadOut) → AreValidSides mid → EndsPart mid new lba n block told out → Stays mid new
    ends_stays mid new (reads.Unread named home) out valid ends = go (stands_in mid block) ends
      where
        go : (b : Bool) → MatchBool b (AsksOther mid new lba n block (reads.Unread named home) out) ((new ≡ mid) × (out ≡ reads.Unread named home)) → Stays mid new
        go true asks = asks_stays mid new (reads.Unread named home) out valid asks
        go false p = same_stays mid new valid p.0
    ends_stays mid new reads.Good out valid ends = same_stays mid new valid ends.0
    ends_stays mid new reads.NotFormatted out valid ends = same_stays mid new valid ends.0
    ends_stays mid new (reads.Range known) out valid ends = same_stays mid new valid ends.0
    ends_stays mid new reads.Cut out valid ends = same_stays mid new valid ends.0
    ends_stays mid new reads.Off out valid ends = same_stays mid new valid ends.0
    ends_stays mid new reads.Fault out valid ends = same_stays mid new valid ends.0

    part_stays : (old new : MirrorShown) (out : ReadOut) → AreValidSides old → MirrorReadsPart old new lba n block out → Stays old new
    part_stays old new out valid part =
        let led = lead_reads old part.mid _ _ part.told valid part.reads in
        stays_then old part.mid new led (ends_stays part.mid new part.told out (stays_valid old part.mid led) part.ends)

  parts_stay : (k : ℕ) (old new : MirrorShown) → AreValidSides old → MirrorReadsParts old new lba n k → Stays old new
  parts_stay zero old new valid same = same_stays old new valid same
  parts_stay (suc k) old new valid (mid, parts, part) =
      let first = parts_stay k old mid valid parts in
      stays_then old mid new first (part_stays _ mid new reads.Good (stays_valid old mid first) part)

  module _ (old new : MirrorShown) (valid : AreValidSides old) where
    ends_read_stays : (out : ReadOut) → EndsMirrorRead old new lba n out → Stays old new
    ends_read_stays out ends =
        let first = parts_stay ends.before old ends.mid valid ends.parts in
        stays_then old ends.mid new first (part_stays _ ends.mid new out (stays_valid old ends.mid first) ends.ends)

    pub reads_led_stays : (out : ReadOut) → ReadsLed old new lba n out → Stays old new
    reads_led_stays reads.Good led = parts_stay _ old new valid led.1
    reads_led_stays reads.NotFormatted led = lead_reads old new _ _ _ valid led
    reads_led_stays (reads.Range known) led = lead_reads old new _ _ _ valid led
    reads_led_stays (reads.Unread named block) led = ends_read_stays _ led
    reads_led_stays reads.Cut led = ends_read_stays _ led
    reads_led_stays reads.Off led = lead_reads old new _ _ _ valid led
    reads_led_stays reads.Fault led = ends_read_stays _ led

  after_read : (out : ReadOut) (x : MirrorShown) → ((after_lone_read out x).lead_is_a ≡ x.lead_is_a) × ((after_lone_read out x).who ≡ x.who) × ((after_lone_read out x).other ≡ x.other)
  after_read reads.Good x = (refl, refl, refl)
  after_read reads.NotFormatted x = (refl, refl, refl)
  after_read (reads.Range known) x = (refl, refl, refl)
  after_read (reads.Unread named block) x = (refl, refl, refl)
  after_read reads.Cut x = (refl, refl, refl)
  after_read reads.Off x = (refl, refl, refl)
  after_read reads.Fault x = (refl, refl, refl)

  module _ (shape : Shape) (old new : MirrorShown) (sides : AreSides shape old) where
    pub old_valid : AreValidSides old
    old_valid = (sound_valid old.lead sides.lead_sound, sound_valid old.other sides.other_sound)

    pub read_around : (out : ReadOut) → (e : ReadsElsewhere old new lba n out) → KeepsRecords old e.mid × KeepsRecords e.late new
    read_around out e =
        let first = reads_led_stays old e.mid old_valid e.lost e.led in
        let roles = after_read out (led_by e.late new.lead) in
        let valid = taken_valid e.mid e.late e.takes first.other_valid in (
          first.keeps,
          record {
            lead = reads_side e.late.lead new.lead lba n out valid e.reads;
            other = record_same e.late.other new.other (ap (λ (s : MirrorShown). s.other) e.new_is ∙ roles.2);
            same_side = ap (λ (s : MirrorShown). s.lead_is_a) e.new_is ∙ roles.0;
            same_who = ap (λ (s : MirrorShown). s.who) e.new_is ∙ roles.1;
          },
        )

    read_elsewhere : (out : ReadOut) → ReadsElsewhere old new lba n out → LeavesRecords old new
    read_elsewhere out e =
        let around = read_around out e in
        inr (record { mid = e.mid; before = around.0; late = e.late; taken = true; takes = e.takes; after = around.1; stays_off = λ off. absurd (let e : false ≡ true = sym off ∙ ap (λ (s : MirrorShown). s.on) e.takes.new_is in cc) })

    same_keeps : KeepsRecords new new
    same_keeps = record { lead = record_same new.lead new.lead refl; other = record_same new.other new.other refl; same_side = refl; same_who = refl }

    read_stopped : (out : ReadOut) → ReadStopped old new lba n out → LeavesRecords old new
    read_stopped out s = inr (record { mid = s.mid; before = (reads_led_stays old s.mid old_valid out s.led).keeps; late = new; taken = false; takes = s.takes; after = same_keeps; stays_off = λ off. off })

    pub read_leaves : (out : ReadOut) → MirrorReadCause old new lba n out → LeavesRecords old new
    read_leaves out cause = go old.on cause
      where
        sides_read : ReadsWithSides old new lba n out → LeavesRecords old new
        sides_read (inl led) = inl (reads_led_stays old new old_valid out led.1).keeps
        sides_read (inr (inl e)) = read_elsewhere out e
        sides_read (inr (inr s)) = read_stopped out s

        go : (b : Bool) → MatchBool b (ReadsWithSides old new lba n out) ((out ≡ reads.Off) × (new ≡ old)) → LeavesRecords old new
        go true c = sides_read c
        go false p = inl (same_stays old new old_valid p.1).keeps

    -- Writes.
    other_writes : (mid : MirrorShown) → AreValidSides mid → OtherWrites mid new lba n → Stays mid new
    other_writes mid valid w = let e = ended w.told w.ends in
        other_alone mid new valid e.0 e.1 e.2 (writes_side mid.other new.other lba n w.told valid.1 w.wrote) (sound_valid new.other w.wrote.leaves.sound)
      where
        ended : (told : WriteOut) → OtherEnds mid new lba n told → SameLead mid new
        ended writes.Good e = (ap (λ (s : MirrorShown). s.lead_is_a) e.0, ap (λ (s : MirrorShown). s.who) e.0, ap (λ (s : MirrorShown). s.lead) e.0)
        ended (writes.Unread named block) e = (ap (λ (s : MirrorShown). s.lead_is_a) e.0, ap (λ (s : MirrorShown). s.who) e.0, ap (λ (s : MirrorShown). s.lead) e.0)
        ended (writes.NoSpare named) e = (ap (λ (s : MirrorShown). s.lead_is_a) e.0, ap (λ (s : MirrorShown). s.who) e.0, ap (λ (s : MirrorShown). s.lead) e.0)
        ended (writes.NoUpdate counter) e = (ap (λ (s : MirrorShown). s.lead_is_a) e.0, ap (λ (s : MirrorShown). s.who) e.0, ap (λ (s : MirrorShown). s.lead) e.0)
        ended writes.NotFormatted e = (ap (λ (s : MirrorShown). s.lead_is_a) e, ap (λ (s : MirrorShown). s.who) e, ap (λ (s : MirrorShown). s.lead) e)
        ended (writes.Range known) e = (ap (λ (s : MirrorShown). s.lead_is_a) e, ap (λ (s : MirrorShown). s.who) e, ap (λ (s : MirrorShown). s.lead) e)
        ended writes.Cut e = (ap (λ (s : MirrorShown). s.lead_is_a) e, ap (λ (s : MirrorShown). s.who) e, ap (λ (s : MirrorShown). s.lead) e)
        ended writes.Off e = (ap (λ (s : MirrorShown). s.lead_is_a) e, ap (λ (s : MirrorShown). s.who) e, ap (λ (s : MirrorShown). s.lead) e)
        ended writes.Fault e = (ap (λ (s : MirrorShown). s.lead_is_a) e, ap (λ (s : MirrorShown). s.who) e, ap (λ (s : MirrorShown). s.lead) e)

    writes_both : WritesBoth old new lba n → KeepsRecords old new
    writes_both w = (stays_then old w.mid new first (go w.mid.up w.other)).keeps
      where
        first : Stays old w.mid
        first = lead_writes old w.mid lba n writes.Good old_valid w.lead

        go : (b : Bool) → MatchBool b (OtherWrites w.mid new lba n) (new ≡ w.mid) → Stays w.mid new
        go true o = other_writes w.mid (stays_valid old w.mid first) o
        go false same = same_stays w.mid new (stays_valid old w.mid first) same

    lead_refuses : (out : WriteOut) (chosen : ℕ → Bool) → LeadRefuses old new lba n out chosen → KeepsRecords old new
    lead_refuses out chosen r =
        let first = lead_writes old r.mid lba n out old_valid r.lead in
        (stays_then old r.mid new first (neither r.mid new (stays_valid old r.mid first) (ap (λ (s : MirrorShown). s.lead_is_a) r.new_is) (ap (λ (s : MirrorShown). s.who) r.new_is)
        (ap (λ (s : MirrorShown). s.lead) r.new_is) (ap (λ (s : MirrorShown). s.other) r.new_is))).keeps

    pub writes_led : (out : WriteOut) → WritesLed old new lba n out → KeepsRecords old new
    writes_led writes.Good led = writes_both led
    writes_led (writes.Unread named block) led = lead_refuses _ _ led
    writes_led (writes.NoSpare named) led = lead_refuses _ _ led
    writes_led (writes.NoUpdate counter) led = lead_refuses _ _ led
    writes_led writes.NotFormatted led = (lead_writes old new lba n _ old_valid led).keeps
    writes_led (writes.Range known) led = (lead_writes old new lba n _ old_valid led).keeps
    writes_led writes.Cut led = (lead_writes old new lba n _ old_valid led).keeps
    writes_led writes.Off led = (lead_writes old new lba n _ old_valid led).keeps
    writes_led writes.Fault led = (lead_writes old new lba n _ old_valid led).keeps

    pub write_around : (out : WriteOut) → (e : WritesElsewhere old new lba n out) → KeepsRecords old e.mid × KeepsRecords e.late new
    write_around out e =
        let first = lead_writes old e.mid lba n e.lost old_valid e.led in
        let roles = after_write out (led_by e.late new.lead) in
        let valid = taken_valid e.mid e.late e.takes first.other_valid in (
          first.keeps,
          record {
            lead = writes_side e.late.lead new.lead lba n out valid e.wrote;
            other = record_same e.late.other new.other (ap (λ (s : MirrorShown). s.other) e.new_is ∙ roles.2);
            same_side = ap (λ (s : MirrorShown). s.lead_is_a) e.new_is ∙ roles.0;
            same_who = ap (λ (s : MirrorShown). s.who) e.new_is ∙ roles.1;
          },
        )

    write_elsewhere : (out : WriteOut) → WritesElsewhere old new lba n out → LeavesRecords old new
    write_elsewhere out e =
        let around = write_around out e in
        inr (record { mid = e.mid; before = around.0; late = e.late; taken = true; takes = e.takes; after = around.1; stays_off = λ off. absurd (let e : false ≡ true = sym off ∙ ap (λ (s : MirrorShown). s.on) e.takes.new_is in cc) })

    write_stopped : (out : WriteOut) → WriteStopped old new lba n out → LeavesRecords old new
    write_stopped out s = inr (record { mid = s.mid; before = (lead_writes old s.mid lba n out old_valid s.led).keeps; late = new; taken = false; takes = s.takes; after = same_keeps; stays_off = λ off. off })

    pub write_leaves : (out : WriteOut) → MirrorWriteCause old new lba n out → LeavesRecords old new
    write_leaves out cause = go old.on cause
      where
        sides_wrote : WritesWithSides old new lba n out → LeavesRecords old new
        sides_wrote (inl led) = inl (writes_led out led.1)
        sides_wrote (inr (inl e)) = write_elsewhere out e
        sides_wrote (inr (inr s)) = write_stopped out s

        go : (b : Bool) → MatchBool b (WritesWithSides old new lba n out) ((out ≡ writes.Off) × (new ≡ old)) → LeavesRecords old new
        go true c = sides_wrote c
        go false p = inl (same_stays old new old_valid p.1).keeps

-- A format.
module _ (old new : MirrorShown) where
  lead_formatted : (mid : MirrorShown) (out : FormatOut) → LeadFormats old mid out → new.lead ≡ mid.lead → KeepsRecord mid.other new.other → new.lead_is_a ≡ mid.lead_is_a → new.who ≡ mid.who
      → KeepsRecords old new
  lead_formatted mid out led same other side who = record {
    lead = subst (λ (s : Shown). KeepsRecord old.lead s) (sym same) (formats_side old.lead mid.lead out led.0);
    other = subst (λ (s : Shown). KeepsRecord s new.other) (ap (λ (s : MirrorShown). s.other) led.1) other;
    same_side = side ∙ ap (λ (s : MirrorShown). s.lead_is_a) led.1;
    same_who = who ∙ ap (λ (s : MirrorShown). s.who) led.1;
  }

  formatted_so : (mid : MirrorShown) (out : FormatOut) → LeadFormats old mid out → new.lead ≡ mid.lead → new.other ≡ mid.other → new.lead_is_a ≡ mid.lead_is_a → new.who ≡ mid.who → KeepsRecords old new
  formatted_so mid out led same other side who = lead_formatted mid out led same (record_same mid.other new.other other) side who

  formats_both : FormatsBoth old new → KeepsRecords old new
  formats_both f =
      lead_formatted f.mid formats.Good f.lead (ap (λ (s : MirrorShown). s.lead) f.new_is)
      (formats_side f.mid.other new.other f.told f.other)
      (ap (λ (s : MirrorShown). s.lead_is_a) f.new_is) (ap (λ (s : MirrorShown). s.who) f.new_is)

  formats_lead : (out : FormatOut) → FormatsLead old new out → KeepsRecords old new
  formats_lead out f = elim f.ends [
    | inl kept ↦ formatted_so f.mid out f.lead (ap (λ (s : MirrorShown). s.lead) kept.1) (ap (λ (s : MirrorShown). s.other) kept.1) (ap (λ (s : MirrorShown). s.lead_is_a) kept.1) (ap (λ (s : MirrorShown). s.who) kept.1)
    | inr gone ↦ formatted_so f.mid out f.lead (ap (λ (s : MirrorShown). s.lead) gone.1) (ap (λ (s : MirrorShown). s.other) gone.1) (ap (λ (s : MirrorShown). s.lead_is_a) gone.1) (ap (λ (s : MirrorShown). s.who) gone.1)
  ]

  format_stopped : (out : FormatOut) → FormatStopped old new out → KeepsRecords old new
  format_stopped out f = formatted_so f.mid out f.lead (ap (λ (s : MirrorShown). s.lead) f.new_is) (ap (λ (s : MirrorShown). s.other) f.new_is) (ap (λ (s : MirrorShown). s.lead_is_a) f.new_is) (ap (λ (s : MirrorShown). s.who) f.new_is)

  nothing_kept : new ≡ old → KeepsRecords old new
  nothing_kept same = record {
    lead = record_same old.lead new.lead (ap (λ (s : MirrorShown). s.lead) same);
    other = record_same old.other new.other (ap (λ (s : MirrorShown). s.other) same);
    same_side = ap (λ (s : MirrorShown). s.lead_is_a) same;
    same_who = ap (λ (s : MirrorShown). s.who) same;
  }

  formats_on : (out : FormatOut) → FormatsOn old new out → KeepsRecords old new
  formats_on formats.Good f = formats_both f
  formats_on (formats.TooMany found) f = formats_lead _ f
  formats_on (formats.NoUpdate counter) f = formats_lead _ f
  formats_on formats.Cut f = format_stopped _ f
  formats_on formats.Off f = formatted_so new formats.Off f refl refl refl refl
  formats_on formats.Fault f = format_stopped _ f

  pub format_leaves : (out : FormatOut) → MirrorFormatCause old new out → KeepsRecords old new
  format_leaves out cause = go old.on cause
    where
      go : (b : Bool) → MatchBool b (FormatsOn old new out) ((out ≡ formats.Off) × (new ≡ old)) → KeepsRecords old new
      go true f = formats_on out f
      go false p = nothing_kept p.1

-- One block in a resynchronisation.
module _ (i : ℕ) where
  copies_stay : (old new : MirrorShown) → AreValidSides old → CopiesBlock old new i → Stays old new
  copies_stay old new valid c = stays_then old c.mid new first (goes c.told c.goes_on)
    where
      first : Stays old c.mid
      first = lead_reads old c.mid (16 * i) 16 c.told valid c.reads

      now : AreValidSides c.mid
      now = stays_valid old c.mid first

      ended : (told : WriteOut) → CopyEnds c.mid new i told → SameLead c.mid new
      ended writes.Good e = (ap (λ (s : MirrorShown). s.lead_is_a) e.0, ap (λ (s : MirrorShown). s.who) e.0, ap (λ (s : MirrorShown). s.lead) e.0)
      ended writes.NotFormatted e = (ap (λ (s : MirrorShown). s.lead_is_a) e, ap (λ (s : MirrorShown). s.who) e, ap (λ (s : MirrorShown). s.lead) e)
      ended (writes.Range known) e = (ap (λ (s : MirrorShown). s.lead_is_a) e, ap (λ (s : MirrorShown). s.who) e, ap (λ (s : MirrorShown). s.lead) e)
      ended (writes.Unread named block) e = (ap (λ (s : MirrorShown). s.lead_is_a) e, ap (λ (s : MirrorShown). s.who) e, ap (λ (s : MirrorShown). s.lead) e)
      ended (writes.NoSpare named) e = (ap (λ (s : MirrorShown). s.lead_is_a) e, ap (λ (s : MirrorShown). s.who) e, ap (λ (s : MirrorShown). s.lead) e)
      ended (writes.NoUpdate counter) e = (ap (λ (s : MirrorShown). s.lead_is_a) e, ap (λ (s : MirrorShown). s.who) e, ap (λ (s : MirrorShown). s.lead) e)
      ended writes.Cut e = (ap (λ (s : MirrorShown). s.lead_is_a) e, ap (λ (s : MirrorShown). s.who) e, ap (λ (s : MirrorShown). s.lead) e)
      ended writes.Off e = (ap (λ (s : MirrorShown). s.lead_is_a) e, ap (λ (s : MirrorShown). s.who) e, ap (λ (s : MirrorShown). s.lead) e)
      ended writes.Fault e = (ap (λ (s : MirrorShown). s.lead_is_a) e, ap (λ (s : MirrorShown). s.who) e, ap (λ (s : MirrorShown). s.lead) e)

      wrote : WritesCopy c.mid new i → Stays c.mid new
      wrote w = let e = ended w.told w.ends in
          other_alone c.mid new now e.0 e.1 e.2 (writes_side c.mid.other new.other (16 * i) 16 w.told now.1 w.wrote) (sound_valid new.other w.wrote.leaves.sound)

      goes : (told : ReadOut) → CopyGoesOn c.mid new i told → Stays c.mid new
      goes reads.Good w = wrote w
      goes (reads.Unread named block) same = same_stays c.mid new now same
      goes reads.NotFormatted none = absurd none
      goes (reads.Range known) none = absurd none
      goes reads.Cut none = absurd none
      goes reads.Off none = absurd none
      goes reads.Fault none = absurd none

  module _ (mid new : MirrorShown) (valid : AreValidSides mid) where
    back_stays : (out : ReadOut) → WritesBack mid new i out → Stays mid new
    back_stays out w = let e = after_write w.told (led_by mid new.lead) in
        lead_alone mid new valid (ap (λ (s : MirrorShown). s.lead_is_a) w.new_is ∙ e.0) (ap (λ (s : MirrorShown). s.who) w.new_is ∙ e.1) (ap (λ (s : MirrorShown). s.other) w.new_is ∙ e.2)
        (writes_side mid.lead new.lead (16 * i) 16 w.told valid.0 w.wrote) (sound_valid new.lead w.wrote.leaves.sound)

    mend_stays : (told out : ReadOut) → MendEnds mid new i told out → Stays mid new
    mend_stays reads.Good out e = back_stays out e
    mend_stays reads.NotFormatted out e = same_stays mid new valid e.0
    mend_stays (reads.Range known) out e = same_stays mid new valid e.0
    mend_stays (reads.Unread named block) out e = same_stays mid new valid e.0
    mend_stays reads.Cut out e = same_stays mid new valid e.0
    mend_stays reads.Off out e = same_stays mid new valid e.0
    mend_stays reads.Fault out e = same_stays mid new valid e.0

  lack_stays : (mid new : MirrorShown) (out : ReadOut) → AreValidSides mid → MendsLack mid new i out → Stays mid new
  lack_stays mid new out valid lack =
      let first = other_alone mid lack.late valid (ap (λ (s : MirrorShown). s.lead_is_a) lack.late_is) (ap (λ (s : MirrorShown). s.who) lack.late_is) (ap (λ (s : MirrorShown). s.lead) lack.late_is)
      (reads_side mid.other lack.late.other (16 * i) 16 lack.told valid.1 lack.reads) (sound_valid lack.late.other lack.reads.leaves.sound) in
      stays_then mid lack.late new first (mend_stays lack.late new (stays_valid mid lack.late first) lack.told out lack.ends)

  mends_stay : (old new : MirrorShown) (out : ReadOut) → AreValidSides old → MendsBlock old new i out → Stays old new
  mends_stay old new out valid m = stays_then old m.mid new first (goes m.told m.goes_on)
    where
      first : Stays old m.mid
      first = lead_reads old m.mid (16 * i) 16 m.told valid m.reads

      now : AreValidSides m.mid
      now = stays_valid old m.mid first

      goes : (told : ReadOut) → MendGoesOn m.mid new i told out → Stays m.mid new
      goes reads.Good p = same_stays m.mid new now p.0
      goes (reads.Unread named block) lack = lack_stays m.mid new out now lack
      goes reads.Cut p = off_stays m.mid new now p.0
      goes reads.Fault p = off_stays m.mid new now p.0
      goes reads.NotFormatted none = absurd none
      goes (reads.Range known) none = absurd none
      goes reads.Off none = absurd none

  through_stays : (old new : MirrorShown) → AreValidSides old → ResyncsBlock old new i → Stays old new
  through_stays old new valid goes = up old.up goes
    where
      apart : (b : Bool) → MatchBool b (CopiesBlock old new i) (MendsBlock old new i reads.Good) → Stays old new
      apart true c = copies_stay old new valid c
      apart false m = mends_stay old new reads.Good valid m

      up : (b : Bool) → MatchBool b (MatchBool (is_apart old.table i) (CopiesBlock old new i) (MendsBlock old new i reads.Good)) (new ≡ old) → Stays old new
      up true g = apart (is_apart old.table i) g
      up false same = same_stays old new valid same

  stops_stay : (mid new : MirrorShown) (told : ReadOut) → AreValidSides mid → MatchBool (is_apart mid.table i) (CopyStopped mid new i told) (MendsBlock mid new i told) → Stays mid new
  stops_stay mid new told valid stops = go (is_apart mid.table i) stops
    where
      copy : CopyStopped mid new i told → Stays mid new
      copy c = let first = lead_reads mid c.late (16 * i) 16 told valid c.reads in stays_then mid c.late new first (off_stays c.late new (stays_valid mid c.late first) c.new_is)

      go : (b : Bool) → MatchBool b (CopyStopped mid new i told) (MendsBlock mid new i told) → Stays mid new
      go true c = copy c
      go false m = mends_stay mid new told valid m

blocks_stay : (k : ℕ) (old new : MirrorShown) → AreValidSides old → ResyncsBlocks old new k → Stays old new
blocks_stay zero old new valid same = same_stays old new valid same
blocks_stay (suc k) old new valid (mid, blocks, one) =
    let first = blocks_stay k old mid valid blocks in
    stays_then old mid new first (through_stays k mid new (stays_valid old mid first) one)

module _ (old new : MirrorShown) (valid : AreValidSides old) where
  resync_stopped : (told : ReadOut) → ResyncStopped old new told → Stays old new
  resync_stopped told c =
      let first = blocks_stay c.before old c.mid valid c.through in
      stays_then old c.mid new first (stops_stay c.before c.mid new told (stays_valid old c.mid first) c.stops)

  resyncs_on : (out : Resync) → ResyncsOn old new out → Stays old new
  resyncs_on (resyncs.Done left) c = blocks_stay _ old new valid c.through
  resyncs_on resyncs.NotFormatted c = same_stays old new valid c.2
  resyncs_on resyncs.Cut c = resync_stopped reads.Cut c
  resyncs_on resyncs.Off c = same_stays old new valid c.1
  resyncs_on resyncs.Fault c = resync_stopped reads.Fault c

  resync_stays : (out : Resync) → ResyncCause old new out → Stays old new
  resync_stays out cause = go old.on cause
    where
      go : (b : Bool) → MatchBool b (ResyncsOn old new out) ((out ≡ resyncs.Off) × (new ≡ old)) → Stays old new
      go true c = resyncs_on out c
      go false p = same_stays old new valid p.1

pub resync_leaves : (shape : Shape) (old new : MirrorShown) → AreSides shape old → (out : Resync) → ResyncCause old new out → KeepsRecords old new
resync_leaves shape old new sides out cause = (resync_stays old new (sound_valid old.lead sides.lead_sound, sound_valid old.other sides.other_sound) out cause).keeps
