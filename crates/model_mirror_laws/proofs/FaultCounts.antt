-- The counts of failures of both sides never fall in a call of a mirror, and a call that answers Fault made one rise.
use Rattle.std.specs.Prelude.{◌≡◌, ℕ, zero, suc, ◌+◌, ◌*◌, ◌≤◌, ◌&&◌, ◌⊎◌, not, MatchBool, if◌then◌else◌, Bool, true, false, nat_lt}
use Rattle.std.proofs.Common.{arith, refl, sym, ap, ◌∙◌, inl, inr, subst}
use Rattle.model_counts.specs.Counts.{Rose}
use Rattle.model_sectors.specs.declared.ReadOut.{ReadOut}
use Rattle.model_sectors.specs.declared.ReadOut.TheVariants as reads
use Rattle.model_sectors.specs.declared.PowerOut.{PowerOut}
use Rattle.model_sectors.specs.declared.PowerOut.TheVariants as power_outs
use Rattle.model_drive.specs.declared.WriteOut.{WriteOut}
use Rattle.model_drive.specs.declared.WriteOut.TheVariants as writes
use Rattle.model_drive.specs.declared.FormatOut.TheVariants as formats
use Rattle.model_drive.specs.declared.Kind.TheVariants as kinds
use Rattle.model_drive.specs.declared.RecordOut.{RecordOut}
use Rattle.model_drive.specs.declared.RecordOut.TheVariants as records
use Rattle.model_drive.specs.Shown.{Shown}
use Rattle.model_drive.specs.Faults.{faults, ReadFaults, WriteFaults, PowerFaults, RecordFaults}
use Rattle.model_drive.proofs.Faults.{read_faults, write_faults, power_faults, format_faults, generation_faults, lead_faults}
use Rattle.model_mirror.specs.declared.MirrorPowerOut.{MirrorPowerOut}
use Rattle.model_mirror.specs.declared.MirrorPowerOut.TheVariants as powers
use Rattle.model_mirror.specs.declared.Resync.TheVariants as resyncs
use Rattle.model_mirror.specs.declared.GiveOut.TheVariants as gives
use Rattle.model_mirror.specs.declared.Waking.{Waking}
use Rattle.model_mirror.specs.Table.{is_apart}
use Rattle.model_mirror.specs.Leading.{Noted, floor_of, Raises, WritesNumber, WritesNoNumber, last_number}
use Rattle.model_mirror.specs.Shown.{MirrorShown, exchanged, turned, may_lead, stands_in, mirror_turned_off, led_by}
use Rattle.model_mirror.specs.Taking.{LeadRaises, OtherRaises, LeadIsTaken, LeadIsNotTaken, CannotTake}
use Rattle.model_mirror.specs.Reads.{LeadReads, AsksOther, EndsPart, MirrorReadsPart, MirrorReadsParts, EndsMirrorRead, ReadsLed, ReadsElsewhere, ReadStopped, ReadsWithSides, MirrorReadCause, in_place}
use Rattle.model_mirror.specs.Writes.{LeadWrites, WritesElsewhere, WriteStopped, WritesWithSides, MirrorWriteCause, after_lone_write}
use Rattle.model_mirror.specs.Whole.{FormatsOn, MirrorFormatCause, WritesCopy, CopyEnds, CopyGoesOn, CopiesBlock, MendGoesOn, MendsLack, MendEnds, WritesBack, MendsBlock, once_written, ResyncsBlock, ResyncsBlocks, CopyStopped, ResyncsOn, ResyncCause}
use Rattle.model_mirror.specs.Powers.{WakesSide, NobodyLeads, LeadStops, stop_of, OtherFollows, LeadGoesOn, Leads, Starts, Finishes, is_to_lead, can_tell, still_tells, stays_on, MirrorPowerCause}
use Rattle.model_mirror.specs.Giving.{IsNotGiven, GiveLeadCause, is_to_turn}
use Rattle.model_mirror.specs.Sides.{side_a, side_b, OneFailed}

-- Counts.
same_less : (a b : ℕ) → b ≡ a → a ≤ b
same_less a b e = omega (arith, e)

rose_less : (a b : ℕ) → Rose a b → a ≤ b
rose_less a b rose = omega (arith, rose)

rose_before : (a b c : ℕ) → Rose a b → b ≤ c → Rose a c
rose_before a b c rose less = omega (arith, rose, less)

rose_after : (a b c : ℕ) → a ≤ b → Rose b c → Rose a c
rose_after a b c less rose = omega (arith, rose, less)

less_then : (a b c : ℕ) → a ≤ b → b ≤ c → a ≤ c
less_then a b c one two = omega (arith, one, two)

-- One call of a side.
module _ (old new : Shown) where
  read_less : (out : ReadOut) → ReadFaults old new out → faults old ≤ faults new
  read_less reads.Good f = same_less _ _ f
  read_less reads.NotFormatted f = same_less _ _ f
  read_less (reads.Range known) f = same_less _ _ f
  read_less (reads.Unread named block) f = same_less _ _ f
  read_less reads.Cut f = same_less _ _ f
  read_less reads.Off f = same_less _ _ f
  read_less reads.Fault f = rose_less _ _ f

  write_less : (out : WriteOut) → WriteFaults old new out → faults old ≤ faults new
  write_less writes.Good f = same_less _ _ f
  write_less writes.NotFormatted f = same_less _ _ f
  write_less (writes.Range known) f = same_less _ _ f
  write_less (writes.Unread named block) f = same_less _ _ f
  write_less (writes.NoSpare named) f = same_less _ _ f
  write_less (writes.NoUpdate counter) f = same_less _ _ f
  write_less writes.Cut f = same_less _ _ f
  write_less writes.Off f = same_less _ _ f
  write_less writes.Fault f = rose_less _ _ f

  power_less : (out : PowerOut) → PowerFaults old new out → faults old ≤ faults new
  power_less (power_outs.Ready known) f = same_less _ _ f
  power_less power_outs.NotFormatted f = same_less _ _ f
  power_less power_outs.Cut f = same_less _ _ f
  power_less power_outs.Fault f = rose_less _ _ f

  record_less : (out : RecordOut) → RecordFaults old new out → faults old ≤ faults new
  record_less records.Good f = same_less _ _ f
  record_less records.Lost f = same_less _ _ f
  record_less records.Cut f = same_less _ _ f
  record_less records.Off f = same_less _ _ f
  record_less records.Fault f = rose_less _ _ f

  module _ (was now : Noted) (above : ℕ) where
    raises_less : (out : RecordOut) → Raises old new was now above out → faults old ≤ faults new
    raises_less out raises = go (nat_lt above was.most) raises
      where
        inner : (b : Bool) → MatchBool b (WritesNumber old new was now (above + 1) out) (WritesNoNumber old new was now × (out ≡ records.Lost)) → faults old ≤ faults new
        inner true wrote = record_less out (lead_faults old new _ out wrote.cause)
        inner false p = same_less _ _ (ap faults p.0.same)

        go : (b : Bool) → MatchBool b (WritesNoNumber old new was now × (out ≡ records.Good)) (MatchBool (nat_lt above last_number) (WritesNumber old new was now (above + 1) out) (WritesNoNumber old new was now × (out ≡ records.Lost))) → faults old ≤ faults new
        go true p = same_less _ _ (ap faults p.0.same)
        go false p = inner (nat_lt above last_number) p

    raises_rose : Raises old new was now above records.Fault → Rose (faults old) (faults new)
    raises_rose raises = go (nat_lt above was.most) raises
      where
        inner : (b : Bool) → MatchBool b (WritesNumber old new was now (above + 1) records.Fault) (WritesNoNumber old new was now × (records.Fault ≡ records.Lost)) → Rose (faults old) (faults new)
        inner true wrote = lead_faults old new _ records.Fault wrote.cause
        inner false p = absurd (let w = p.1 in cc)

        go : (b : Bool) → MatchBool b (WritesNoNumber old new was now × (records.Fault ≡ records.Good)) (MatchBool (nat_lt above last_number) (WritesNumber old new was now (above + 1) records.Fault) (WritesNoNumber old new was now × (records.Fault ≡ records.Lost))) → Rose (faults old) (faults new)
        go true p = absurd (let w = p.1 in cc)
        go false p = inner (nat_lt above last_number) p

-- Both counts of a mirror are no less.
pub record NoLess (old new : MirrorShown) : Type 0 where
  pub a : faults (side_a old) ≤ faults (side_a new)
  pub b : faults (side_b old) ≤ faults (side_b new)

pub less_less : (x y z : MirrorShown) → NoLess x y → NoLess y z → NoLess x z
less_less x y z one two = record { a = less_then _ _ _ one.a two.a; b = less_then _ _ _ one.b two.b }

less_failed : (x y z : MirrorShown) → NoLess x y → OneFailed y z → OneFailed x z
less_failed x y z less (inl a) = inl (rose_after (faults (side_a x)) _ (faults (side_a z)) less.a a)
less_failed x y z less (inr b) = inr (rose_after (faults (side_b x)) _ (faults (side_b z)) less.b b)

failed_less : (x y z : MirrorShown) → OneFailed x y → NoLess y z → OneFailed x z
failed_less x y z (inl a) less = inl (rose_before (faults (side_a x)) _ (faults (side_a z)) a less.a)
failed_less x y z (inr b) less = inr (rose_before (faults (side_b x)) _ (faults (side_b z)) b less.b)

-- By the roles, which stay as they are.
by_name : (p q : Bool) (x x' y y' : Shown) → q ≡ p → faults x ≤ faults y → faults x' ≤ faults y' → faults (if p then x else x') ≤ faults (if q then y else y')
by_name true true x x' y y' e one two = one
by_name true false x x' y y' e one two = absurd (let w = e in cc)
by_name false true x x' y y' e one two = absurd (let w = e in cc)
by_name false false x x' y y' e one two = two

rose_by_name : (p q : Bool) (x x' y y' : Shown) → q ≡ p → Rose (faults x) (faults y)
    → Rose (faults (if p then x else x')) (faults (if q then y else y')) ⊎ Rose (faults (if p then x' else x)) (faults (if q then y' else y))
rose_by_name true true x x' y y' e rose = inl rose
rose_by_name true false x x' y y' e rose = absurd (let w = e in cc)
rose_by_name false true x x' y y' e rose = absurd (let w = e in cc)
rose_by_name false false x x' y y' e rose = inr rose

module _ (x y : MirrorShown) (same : y.lead_is_a ≡ x.lead_is_a) where
  pub roles_less : faults x.lead ≤ faults y.lead → faults x.other ≤ faults y.other → NoLess x y
  roles_less one two = record {
    a = by_name x.lead_is_a y.lead_is_a x.lead x.other y.lead y.other same one two;
    b = by_name x.lead_is_a y.lead_is_a x.other x.lead y.other y.lead same two one;
  }

  lead_failed : Rose (faults x.lead) (faults y.lead) → OneFailed x y
  lead_failed rose = rose_by_name x.lead_is_a y.lead_is_a x.lead x.other y.lead y.other same rose

  other_failed : Rose (faults x.other) (faults y.other) → OneFailed x y
  other_failed rose = elim (rose_by_name x.lead_is_a y.lead_is_a x.other x.lead y.other y.lead same rose) [ inl a ↦ inr a | inr b ↦ inl b ]

same_mirror_less : (x y : MirrorShown) → y ≡ x → NoLess x y
same_mirror_less x y e = roles_less x y (ap (λ (s : MirrorShown). s.lead_is_a) e) (same_less _ _ (ap (λ (s : MirrorShown). faults s.lead) e)) (same_less _ _ (ap (λ (s : MirrorShown). faults s.other) e))

-- The roles are exchanged.
exchange_a : (p : Bool) (x x' : Shown) → faults (if p then x else x') ≤ faults (if not p then x' else x)
exchange_a true x x' = same_less _ _ refl
exchange_a false x x' = same_less _ _ refl

pub exchange_less : (x : MirrorShown) → NoLess x (exchanged x)
exchange_less x = record { a = exchange_a x.lead_is_a x.lead x.other; b = exchange_a x.lead_is_a x.other x.lead }

turn_less : (turns : Bool) (x : MirrorShown) → NoLess x (turned turns x)
turn_less true x = exchange_less x
turn_less false x = same_mirror_less x x refl

-- The record of a side was made one with a greater number.
module _ (old new : MirrorShown) (above : ℕ) where
  lead_raises_less : (out : RecordOut) → LeadRaises old new above out → NoLess old new
  lead_raises_less out r = roles_less old new (ap (λ (s : MirrorShown). s.lead_is_a) r.new_is) (raises_less old.lead new.lead old.who.lead new.who.lead above out r.raises)
      (same_less _ _ (ap (λ (s : MirrorShown). faults s.other) r.new_is))

  lead_raises_failed : LeadRaises old new above records.Fault → OneFailed old new
  lead_raises_failed r = lead_failed old new (ap (λ (s : MirrorShown). s.lead_is_a) r.new_is) (raises_rose old.lead new.lead old.who.lead new.who.lead above r.raises)

  other_raises_less : (out : RecordOut) → OtherRaises old new above out → NoLess old new
  other_raises_less out r = roles_less old new (ap (λ (s : MirrorShown). s.lead_is_a) r.new_is) (same_less _ _ (ap (λ (s : MirrorShown). faults s.lead) r.new_is))
      (raises_less old.other new.other old.who.other new.who.other above out r.raises)

-- The other side takes the lead, or does not.
pub taken_less : (mid new : MirrorShown) → LeadIsTaken mid new → NoLess mid new
taken_less mid new taken =
    less_less mid taken.late new (other_raises_less mid taken.late mid.who.lead.most records.Good taken.wrote)
    (less_less taken.late (exchanged taken.late) new (exchange_less taken.late) (roles_less (exchanged taken.late) new (ap (λ (s : MirrorShown). s.lead_is_a) taken.new_is)
    (same_less _ _ (ap (λ (s : MirrorShown). faults s.lead) taken.new_is)) (same_less _ _ (ap (λ (s : MirrorShown). faults s.other) taken.new_is))))

off_less : (late new : MirrorShown) → new ≡ mirror_turned_off late → NoLess late new
off_less late new e = roles_less late new (ap (λ (s : MirrorShown). s.lead_is_a) e) (same_less _ _ (ap (λ (s : MirrorShown). faults s.lead) e)) (same_less _ _ (ap (λ (s : MirrorShown). faults s.other) e))

pub not_taken_less : (mid new : MirrorShown) → LeadIsNotTaken mid new → NoLess mid new
not_taken_less mid new taken = less_less mid taken.late new (go (may_lead mid) taken.why) (off_less taken.late new taken.new_is)
  where
    go : (b : Bool) → MatchBool b (CannotTake mid taken.late) (taken.late ≡ mid) → NoLess mid taken.late
    go true cannot = other_raises_less mid taken.late mid.who.lead.most cannot.told cannot.wrote
    go false same = same_mirror_less mid taken.late same

-- Reads.
module _ (lba n : ℕ) where
  module _ (old new : MirrorShown) where
    lead_reads_less : (out : ReadOut) → LeadReads old new lba n out → NoLess old new
    lead_reads_less out r = roles_less old new (ap (λ (s : MirrorShown). s.lead_is_a) r.1) (read_less old.lead new.lead out (read_faults old.lead new.lead lba n out r.0.cause)) (same_less _ _ (ap (λ (s : MirrorShown). faults s.other) r.1))

    lead_reads_failed : LeadReads old new lba n reads.Fault → OneFailed old new
    lead_reads_failed r = lead_failed old new (ap (λ (s : MirrorShown). s.lead_is_a) r.1) (read_faults old.lead new.lead lba n reads.Fault r.0.cause)

  module _ (block : ℕ) where
    asks_less : (mid new : MirrorShown) (refused out : ReadOut) → AsksOther mid new lba n block refused out → NoLess mid new
    asks_less mid new refused out asks = roles_less mid new (ap (λ (s : MirrorShown). s.lead_is_a) asks.new_is) (same_less _ _ (ap (λ (s : MirrorShown). faults s.lead) asks.new_is))
        (read_less mid.other new.other asks.told (read_faults mid.other new.other _ _ asks.told asks.reads.cause))

    ends_less : (mid new : MirrorShown) (told out : ReadOut) → EndsPart mid new lba n block told out → NoLess mid new
    ends_less mid new (reads.Unread named home) out ends = go (stands_in mid block) ends
      where
        go : (b : Bool) → MatchBool b (AsksOther mid new lba n block (reads.Unread named home) out) ((new ≡ mid) × (out ≡ reads.Unread named home)) → NoLess mid new
        go true asks = asks_less mid new (reads.Unread named home) out asks
        go false p = same_mirror_less mid new p.0
    ends_less mid new reads.Good out ends = same_mirror_less mid new ends.0
    ends_less mid new reads.NotFormatted out ends = same_mirror_less mid new ends.0
    ends_less mid new (reads.Range known) out ends = same_mirror_less mid new ends.0
    ends_less mid new reads.Cut out ends = same_mirror_less mid new ends.0
    ends_less mid new reads.Off out ends = same_mirror_less mid new ends.0
    ends_less mid new reads.Fault out ends = same_mirror_less mid new ends.0

    part_less : (old new : MirrorShown) (out : ReadOut) → MirrorReadsPart old new lba n block out → NoLess old new
    part_less old new out part = less_less old part.mid new (roles_less old part.mid (ap (λ (s : MirrorShown). s.lead_is_a) part.reads.1)
        (read_less old.lead part.mid.lead part.told (read_faults old.lead part.mid.lead _ _ part.told part.reads.0.cause)) (same_less _ _ (ap (λ (s : MirrorShown). faults s.other) part.reads.1)))
        (ends_less part.mid new part.told out part.ends)

    in_place_not : (told : ReadOut) (named home : ℕ) → reads.Fault ≡ in_place (reads.Unread named home) told → ⊥
    in_place_not reads.Good named home e = let w = e in cc
    in_place_not reads.NotFormatted named home e = let w = e in cc
    in_place_not (reads.Range known) named home e = let w = e in cc
    in_place_not (reads.Unread a b) named home e = let w = e in cc
    in_place_not reads.Cut named home e = let w = e in cc
    in_place_not reads.Off named home e = let w = e in cc
    in_place_not reads.Fault named home e = let w = e in cc

    -- a part that ends so: the lead did
    told_fault : (mid new : MirrorShown) (told : ReadOut) → EndsPart mid new lba n block told reads.Fault → told ≡ reads.Fault
    told_fault mid new (reads.Unread named home) ends = absurd (go (stands_in mid block) ends)
      where
        go : (b : Bool) → MatchBool b (AsksOther mid new lba n block (reads.Unread named home) reads.Fault) ((new ≡ mid) × (reads.Fault ≡ reads.Unread named home)) → ⊥
        go true asks = in_place_not asks.told named home asks.out_is
        go false p = let w = p.1 in cc
    told_fault mid new reads.Good ends = sym ends.1
    told_fault mid new reads.NotFormatted ends = sym ends.1
    told_fault mid new (reads.Range known) ends = sym ends.1
    told_fault mid new reads.Cut ends = sym ends.1
    told_fault mid new reads.Off ends = sym ends.1
    told_fault mid new reads.Fault ends = sym ends.1

    part_failed : (old new : MirrorShown) → MirrorReadsPart old new lba n block reads.Fault → OneFailed old new
    part_failed old new part =
        let is = told_fault part.mid new part.told part.ends in
        let rose = subst (λ (o : ReadOut). ReadFaults old.lead part.mid.lead o) is (read_faults old.lead part.mid.lead _ _ part.told part.reads.0.cause) in
        failed_less old part.mid new (lead_failed old part.mid (ap (λ (s : MirrorShown). s.lead_is_a) part.reads.1) rose) (ends_less part.mid new part.told reads.Fault part.ends)

  parts_less : (k : ℕ) (old new : MirrorShown) → MirrorReadsParts old new lba n k → NoLess old new
  parts_less zero old new same = same_mirror_less old new same
  parts_less (suc k) old new (mid, parts, part) = less_less old mid new (parts_less k old mid parts) (part_less _ mid new reads.Good part)

  module _ (old new : MirrorShown) where
    ends_read_less : (out : ReadOut) → EndsMirrorRead old new lba n out → NoLess old new
    ends_read_less out ends = less_less old ends.mid new (parts_less ends.before old ends.mid ends.parts) (part_less _ ends.mid new out ends.ends)

    pub reads_led_less : (out : ReadOut) → ReadsLed old new lba n out → NoLess old new
    reads_led_less reads.Good led = parts_less _ old new led.1
    reads_led_less reads.NotFormatted led = lead_reads_less old new _ led
    reads_led_less (reads.Range known) led = lead_reads_less old new _ led
    reads_led_less (reads.Unread named block) led = ends_read_less _ led
    reads_led_less reads.Cut led = ends_read_less _ led
    reads_led_less reads.Off led = lead_reads_less old new _ led
    reads_led_less reads.Fault led = ends_read_less _ led

  module _ (old new : MirrorShown) where
    read_elsewhere : ReadsElsewhere old new lba n reads.Fault → OneFailed old new
    read_elsewhere e = less_failed old e.late new (less_less old e.mid e.late (reads_led_less old e.mid e.lost e.led) (taken_less e.mid e.late e.takes))
        (lead_failed e.late new (ap (λ (s : MirrorShown). s.lead_is_a) e.new_is) (read_faults e.late.lead new.lead lba n reads.Fault e.reads.cause))

    read_stopped : ReadStopped old new lba n reads.Fault → OneFailed old new
    read_stopped s = failed_less old s.mid new (less_failed old s.led.mid s.mid (parts_less s.led.before old s.led.mid s.led.parts) (part_failed _ s.led.mid s.mid s.led.ends)) (not_taken_less s.mid new s.takes)

    pub read_fault : MirrorReadCause old new lba n reads.Fault → OneFailed old new
    read_fault cause = go old.on cause
      where
        sides : ReadsWithSides old new lba n reads.Fault → OneFailed old new
        sides (inl led) = absurd (let w = led.0 in cc)
        sides (inr (inl e)) = read_elsewhere e
        sides (inr (inr s)) = read_stopped s

        go : (b : Bool) → MatchBool b (ReadsWithSides old new lba n reads.Fault) ((reads.Fault ≡ reads.Off) × (new ≡ old)) → OneFailed old new
        go true c = sides c
        go false p = absurd (let w = p.0 in cc)

    -- Writes.
    lead_writes_less : (mid : MirrorShown) (out : WriteOut) → LeadWrites old mid lba n out → NoLess old mid
    lead_writes_less mid out w = roles_less old mid (ap (λ (s : MirrorShown). s.lead_is_a) w.1) (write_less old.lead mid.lead out (write_faults old.lead mid.lead lba n out w.0.wrote)) (same_less _ _ (ap (λ (s : MirrorShown). faults s.other) w.1))

    write_elsewhere : WritesElsewhere old new lba n writes.Fault → OneFailed old new
    write_elsewhere e = less_failed old e.late new (less_less old e.mid e.late (lead_writes_less e.mid e.lost e.led) (taken_less e.mid e.late e.takes))
        (lead_failed e.late new (ap (λ (s : MirrorShown). s.lead_is_a) e.new_is) (write_faults e.late.lead new.lead lba n writes.Fault e.wrote.wrote))

    write_stopped : WriteStopped old new lba n writes.Fault → OneFailed old new
    write_stopped s = failed_less old s.mid new (lead_failed old s.mid (ap (λ (x : MirrorShown). x.lead_is_a) s.led.1) (write_faults old.lead s.mid.lead lba n writes.Fault s.led.0.wrote)) (not_taken_less s.mid new s.takes)

    pub write_fault : MirrorWriteCause old new lba n writes.Fault → OneFailed old new
    write_fault cause = go old.on cause
      where
        sides : WritesWithSides old new lba n writes.Fault → OneFailed old new
        sides (inl led) = absurd (let w = led.0 in cc)
        sides (inr (inl e)) = write_elsewhere e
        sides (inr (inr s)) = write_stopped s

        go : (b : Bool) → MatchBool b (WritesWithSides old new lba n writes.Fault) ((writes.Fault ≡ writes.Off) × (new ≡ old)) → OneFailed old new
        go true c = sides c
        go false p = absurd (let w = p.0 in cc)

-- A format.
pub format_fault : (old new : MirrorShown) → MirrorFormatCause old new formats.Fault → OneFailed old new
format_fault old new cause = go old.on cause
  where
    go : (b : Bool) → MatchBool b (FormatsOn old new formats.Fault) ((formats.Fault ≡ formats.Off) × (new ≡ old)) → OneFailed old new
    go true c = failed_less old c.mid new (lead_failed old c.mid (ap (λ (s : MirrorShown). s.lead_is_a) c.lead.1) (format_faults old.lead c.mid.lead (kinds.Full true) formats.Fault c.lead.0.formatted)) (off_less c.mid new c.new_is)
    go false p = absurd (let w = p.0 in cc)

-- One block in a resynchronisation.
module _ (i : ℕ) where
  copies_less : (old new : MirrorShown) → CopiesBlock old new i → NoLess old new
  copies_less old new c = less_less old c.mid new (lead_reads_less (16 * i) 16 old c.mid c.told c.reads) (goes c.told c.goes_on)
    where
      ended : (told : WriteOut) → CopyEnds c.mid new i told → (new.lead_is_a ≡ c.mid.lead_is_a) × (faults new.lead ≡ faults c.mid.lead)
      ended writes.Good e = (ap (λ (s : MirrorShown). s.lead_is_a) e.0, ap (λ (s : MirrorShown). faults s.lead) e.0)
      ended writes.NotFormatted e = (ap (λ (s : MirrorShown). s.lead_is_a) e, ap (λ (s : MirrorShown). faults s.lead) e)
      ended (writes.Range known) e = (ap (λ (s : MirrorShown). s.lead_is_a) e, ap (λ (s : MirrorShown). faults s.lead) e)
      ended (writes.Unread named block) e = (ap (λ (s : MirrorShown). s.lead_is_a) e, ap (λ (s : MirrorShown). faults s.lead) e)
      ended (writes.NoSpare named) e = (ap (λ (s : MirrorShown). s.lead_is_a) e, ap (λ (s : MirrorShown). faults s.lead) e)
      ended (writes.NoUpdate counter) e = (ap (λ (s : MirrorShown). s.lead_is_a) e, ap (λ (s : MirrorShown). faults s.lead) e)
      ended writes.Cut e = (ap (λ (s : MirrorShown). s.lead_is_a) e, ap (λ (s : MirrorShown). faults s.lead) e)
      ended writes.Off e = (ap (λ (s : MirrorShown). s.lead_is_a) e, ap (λ (s : MirrorShown). faults s.lead) e)
      ended writes.Fault e = (ap (λ (s : MirrorShown). s.lead_is_a) e, ap (λ (s : MirrorShown). faults s.lead) e)

      wrote : WritesCopy c.mid new i → NoLess c.mid new
      wrote w = let e = ended w.told w.ends in
          roles_less c.mid new e.0 (same_less _ _ e.1) (write_less c.mid.other new.other w.told (write_faults c.mid.other new.other (16 * i) 16 w.told w.wrote.wrote))

      goes : (told : ReadOut) → CopyGoesOn c.mid new i told → NoLess c.mid new
      goes reads.Good w = wrote w
      goes (reads.Unread named block) same = same_mirror_less c.mid new same
      goes reads.NotFormatted none = absurd none
      goes (reads.Range known) none = absurd none
      goes reads.Cut none = absurd none
      goes reads.Off none = absurd none
      goes reads.Fault none = absurd none

  -- what a write by a lead alone leaves keeps the roles
  after_roles : (told : WriteOut) (x : MirrorShown) → ((after_lone_write told x).lead_is_a ≡ x.lead_is_a) × (faults (after_lone_write told x).lead ≡ faults x.lead) × (faults (after_lone_write told x).other ≡ faults x.other)
  after_roles writes.Good x = (refl, refl, refl)
  after_roles writes.NotFormatted x = (refl, refl, refl)
  after_roles (writes.Range known) x = (refl, refl, refl)
  after_roles (writes.Unread named block) x = (refl, refl, refl)
  after_roles (writes.NoSpare named) x = (refl, refl, refl)
  after_roles (writes.NoUpdate counter) x = (refl, refl, refl)
  after_roles writes.Cut x = (refl, refl, refl)
  after_roles writes.Off x = (refl, refl, refl)
  after_roles writes.Fault x = (refl, refl, refl)

  module _ (mid new : MirrorShown) where
    back_roles : (out : ReadOut) (w : WritesBack mid new i out) → (new.lead_is_a ≡ mid.lead_is_a) × (faults new.other ≡ faults mid.other)
    back_roles out w =
        let after = after_roles w.told (led_by mid new.lead) in
        (ap (λ (s : MirrorShown). s.lead_is_a) w.new_is ∙ after.0, ap (λ (s : MirrorShown). faults s.other) w.new_is ∙ after.2)

    back_less : (out : ReadOut) → WritesBack mid new i out → NoLess mid new
    back_less out w = let e = back_roles out w in
        roles_less mid new e.0 (write_less mid.lead new.lead w.told (write_faults mid.lead new.lead (16 * i) 16 w.told w.wrote.wrote)) (same_less _ _ e.1)

    once_fault : (told : WriteOut) → reads.Fault ≡ once_written told → told ≡ writes.Fault
    once_fault writes.Good e = absurd (let w = e in cc)
    once_fault writes.NotFormatted e = absurd (let w = e in cc)
    once_fault (writes.Range known) e = absurd (let w = e in cc)
    once_fault (writes.Unread named block) e = absurd (let w = e in cc)
    once_fault (writes.NoSpare named) e = absurd (let w = e in cc)
    once_fault (writes.NoUpdate counter) e = absurd (let w = e in cc)
    once_fault writes.Cut e = absurd (let w = e in cc)
    once_fault writes.Off e = absurd (let w = e in cc)
    once_fault writes.Fault e = refl

    back_failed : WritesBack mid new i reads.Fault → OneFailed mid new
    back_failed w = let e = back_roles reads.Fault w in
        lead_failed mid new e.0 (subst (λ (o : WriteOut). WriteFaults mid.lead new.lead o) (once_fault w.told w.out_is) (write_faults mid.lead new.lead (16 * i) 16 w.told w.wrote.wrote))

    mend_less : (told out : ReadOut) → MendEnds mid new i told out → NoLess mid new
    mend_less reads.Good out e = back_less out e
    mend_less reads.NotFormatted out e = same_mirror_less mid new e.0
    mend_less (reads.Range known) out e = same_mirror_less mid new e.0
    mend_less (reads.Unread named block) out e = same_mirror_less mid new e.0
    mend_less reads.Cut out e = same_mirror_less mid new e.0
    mend_less reads.Off out e = same_mirror_less mid new e.0
    mend_less reads.Fault out e = same_mirror_less mid new e.0

    mend_failed : (told : ReadOut) → MendEnds mid new i told reads.Fault → OneFailed mid new
    mend_failed reads.Good e = back_failed e
    mend_failed reads.NotFormatted e = absurd (let w = e.1 in cc)
    mend_failed (reads.Range known) e = absurd (let w = e.1 in cc)
    mend_failed (reads.Unread named block) e = absurd (let w = e.1 in cc)
    mend_failed reads.Cut e = absurd (let w = e.1 in cc)
    mend_failed reads.Off e = absurd (let w = e.1 in cc)
    mend_failed reads.Fault e = absurd (let w = e.1 in cc)

  module _ (mid new : MirrorShown) (out : ReadOut) (lack : MendsLack mid new i out) where
    lack_late : NoLess mid lack.late
    lack_late = roles_less mid lack.late (ap (λ (s : MirrorShown). s.lead_is_a) lack.late_is) (same_less _ _ (ap (λ (s : MirrorShown). faults s.lead) lack.late_is))
        (read_less mid.other lack.late.other lack.told (read_faults mid.other lack.late.other (16 * i) 16 lack.told lack.reads.cause))

    lack_less : NoLess mid new
    lack_less = less_less mid lack.late new lack_late (mend_less lack.late new lack.told out lack.ends)

  lack_failed : (mid new : MirrorShown) → MendsLack mid new i reads.Fault → OneFailed mid new
  lack_failed mid new lack = less_failed mid lack.late new (lack_late mid new reads.Fault lack) (mend_failed lack.late new lack.told lack.ends)

  mend_goes_less : (mid new : MirrorShown) (told out : ReadOut) → MendGoesOn mid new i told out → NoLess mid new
  mend_goes_less mid new reads.Good out p = same_mirror_less mid new p.0
  mend_goes_less mid new (reads.Unread named block) out lack = lack_less mid new out lack
  mend_goes_less mid new reads.Cut out p = off_less mid new p.0
  mend_goes_less mid new reads.Fault out p = off_less mid new p.0
  mend_goes_less mid new reads.NotFormatted out none = absurd none
  mend_goes_less mid new (reads.Range known) out none = absurd none
  mend_goes_less mid new reads.Off out none = absurd none

  mends_less : (old new : MirrorShown) (out : ReadOut) → MendsBlock old new i out → NoLess old new
  mends_less old new out m = less_less old m.mid new (lead_reads_less (16 * i) 16 old m.mid m.told m.reads) (mend_goes_less m.mid new m.told out m.goes_on)

  mends_failed : (old new : MirrorShown) → MendsBlock old new i reads.Fault → OneFailed old new
  mends_failed old new m = goes m.told m.reads m.goes_on
    where
      goes : (told : ReadOut) → LeadReads old m.mid (16 * i) 16 told → MendGoesOn m.mid new i told reads.Fault → OneFailed old new
      goes reads.Good read p = absurd (let w = p.1 in cc)
      goes (reads.Unread named block) read lack = less_failed old m.mid new (lead_reads_less (16 * i) 16 old m.mid _ read) (lack_failed m.mid new lack)
      goes reads.Cut read p = absurd (let w = p.1 in cc)
      goes reads.Fault read p = failed_less old m.mid new (lead_reads_failed (16 * i) 16 old m.mid read) (off_less m.mid new p.0)
      goes reads.NotFormatted read none = absurd none
      goes (reads.Range known) read none = absurd none
      goes reads.Off read none = absurd none

  through_less : (old new : MirrorShown) → ResyncsBlock old new i → NoLess old new
  through_less old new goes = up old.up goes
    where
      apart : (b : Bool) → MatchBool b (CopiesBlock old new i) (MendsBlock old new i reads.Good) → NoLess old new
      apart true c = copies_less old new c
      apart false m = mends_less old new reads.Good m

      up : (b : Bool) → MatchBool b (MatchBool (is_apart old.table i) (CopiesBlock old new i) (MendsBlock old new i reads.Good)) (new ≡ old) → NoLess old new
      up true g = apart (is_apart old.table i) g
      up false same = same_mirror_less old new same

  stops_failed : (mid new : MirrorShown) → MatchBool (is_apart mid.table i) (CopyStopped mid new i reads.Fault) (MendsBlock mid new i reads.Fault) → OneFailed mid new
  stops_failed mid new stops = go (is_apart mid.table i) stops
    where
      go : (b : Bool) → MatchBool b (CopyStopped mid new i reads.Fault) (MendsBlock mid new i reads.Fault) → OneFailed mid new
      go true c = failed_less mid c.late new (lead_reads_failed (16 * i) 16 mid c.late c.reads) (off_less c.late new c.new_is)
      go false m = mends_failed mid new m

blocks_less : (k : ℕ) (old new : MirrorShown) → ResyncsBlocks old new k → NoLess old new
blocks_less zero old new same = same_mirror_less old new same
blocks_less (suc k) old new (mid, blocks, one) = less_less old mid new (blocks_less k old mid blocks) (through_less k mid new one)

pub resync_fault : (old new : MirrorShown) → ResyncCause old new resyncs.Fault → OneFailed old new
resync_fault old new cause = go old.on cause
  where
    go : (b : Bool) → MatchBool b (ResyncsOn old new resyncs.Fault) ((resyncs.Fault ≡ resyncs.Off) × (new ≡ old)) → OneFailed old new
    go true c = less_failed old c.mid new (blocks_less c.before old c.mid c.through) (stops_failed c.before c.mid new c.stops)
    go false p = absurd (let w = p.0 in cc)

-- The lead is given by hand.
pub give_fault : (old new : MirrorShown) (to_a : Bool) → GiveLeadCause old new to_a gives.Fault → OneFailed old new
give_fault old new to_a not_given = go (is_to_turn old.lead_is_a to_a) not_given
  where
    go : (turns : Bool) → IsNotGiven turns old new records.Fault → OneFailed old new
    go turns g = less_failed old (turned turns old) new (turn_less turns old) (failed_less (turned turns old) g.mid new (lead_raises_failed (turned turns old) g.mid _ g.raises)
        (less_less g.mid (turned turns g.mid) new (turn_less turns g.mid) (off_less (turned turns g.mid) new g.new_is)))

-- The power on.
module _ (x y : Shown) (was now : Noted) (told : Waking) (wakes : WakesSide x y was now told) where
  power_of_side : PowerFaults x wakes.mounted told.power
  power_of_side = power_faults x wakes.mounted told.power wakes.powers

  record_of_side : RecordFaults wakes.mounted y told.record
  record_of_side = generation_faults wakes.mounted y wakes.notes.value told.record wakes.notes.cause

  wakes_less : faults x ≤ faults y
  wakes_less = less_then _ _ _ (power_less x wakes.mounted told.power power_of_side) (record_less wakes.mounted y told.record record_of_side)

  power_failed : told.power ≡ power_outs.Fault → Rose (faults x) (faults y)
  power_failed is = rose_before (faults x) (faults wakes.mounted) (faults y) (subst (PowerFaults x wakes.mounted) is power_of_side) (record_less wakes.mounted y told.record record_of_side)

  record_failed : told.record ≡ records.Fault → Rose (faults x) (faults y)
  record_failed is = rose_after (faults x) (faults wakes.mounted) (faults y) (power_less x wakes.mounted told.power power_of_side) (subst (RecordFaults wakes.mounted y) is record_of_side)

-- Who leads cannot be told, and that is no fault.
nobody_not : (mid new : MirrorShown) → NobodyLeads mid new powers.Fault → ⊥
nobody_not mid new n = let w = n.out_is in cc

module _ (late new : MirrorShown) where
  finishes_not : (there : PowerOut) (on : Bool) (power : PowerOut) → Finishes late new there on power powers.Fault → ⊥
  finishes_not there on (power_outs.Ready known) ends = let w = ends.out_is in cc
  finishes_not there on power_outs.NotFormatted ends = let w = ends.out_is in cc
  finishes_not there on power_outs.Cut ends = nobody_not late new ends
  finishes_not there on power_outs.Fault ends = nobody_not late new ends

follows_not : (mid new : MirrorShown) (lead other : Waking) → OtherFollows mid new lead other powers.Fault → ⊥
follows_not mid new lead other f = go (still_tells f.late.who f.raised) f.ends
  where
    go : (b : Bool) → MatchBool b (Finishes f.late new other.power (stays_on other.record && stays_on f.raised) lead.power powers.Fault) (NobodyLeads f.late new powers.Fault) → ⊥
    go true ends = finishes_not f.late new other.power _ lead.power ends
    go false nobody = nobody_not f.late new nobody

leads_failed : (mid new : MirrorShown) (lead other : Waking) → Leads mid new lead other powers.Fault → OneFailed mid new
leads_failed mid new lead other l = go l.raised l.raises l.ends
  where
    go : (raised : RecordOut) → LeadRaises mid l.late (floor_of mid.who.other) raised → LeadGoesOn l.late new lead other powers.Fault raised → OneFailed mid new
    go records.Good raises ends = absurd (follows_not l.late new lead other ends)
    go records.Lost raises ends = absurd (nobody_not l.late new ends)
    go records.Cut raises ends = absurd (let w = ends.0 in cc)
    go records.Off raises ends = absurd (nobody_not l.late new ends)
    go records.Fault raises ends = failed_less mid l.late new (lead_raises_failed mid l.late _ raises) (same_mirror_less l.late new ends.1)

-- A lead that was stopped and answers Fault: its power or its record did.
stop_fault : (power : PowerOut) → powers.Fault ≡ stop_of power → power ≡ power_outs.Fault
stop_fault (power_outs.Ready known) e = absurd (let w = e in cc)
stop_fault power_outs.NotFormatted e = absurd (let w = e in cc)
stop_fault power_outs.Cut e = absurd (let w = e in cc)
stop_fault power_outs.Fault e = refl

lead_stops : (mid new : MirrorShown) (stop : MirrorPowerOut) → LeadStops mid new stop powers.Fault → (powers.Fault ≡ stop) × (new ≡ mid)
lead_stops mid new stop stops = go mid.who.known stops
  where
    go : (b : Bool) → MatchBool b ((powers.Fault ≡ stop) × (new ≡ mid)) (NobodyLeads mid new powers.Fault) → (powers.Fault ≡ stop) × (new ≡ mid)
    go true p = p
    go false nobody = absurd (nobody_not mid new nobody)

-- A start that answers so: a record was written and failed; or the side that was to lead failed before.
starts_failed : (old mid new : MirrorShown) (lead other : Waking) (out : RecordOut) → NoLess old mid → (lead.power ≡ power_outs.Fault → OneFailed old mid) → (out ≡ records.Fault → OneFailed old mid)
    → Starts mid new lead other powers.Fault out → OneFailed old new
starts_failed old mid new lead other records.Good less power read starts = go (can_tell mid.who other.record) starts
  where
    go : (b : Bool) → MatchBool b (Leads mid new lead other powers.Fault) (NobodyLeads mid new powers.Fault) → OneFailed old new
    go true l = less_failed old mid new less (leads_failed mid new lead other l)
    go false nobody = absurd (nobody_not mid new nobody)
starts_failed old mid new lead other records.Lost less power read starts = absurd (nobody_not mid new starts)
starts_failed old mid new lead other records.Cut less power read starts = absurd (let w = (lead_stops mid new powers.Cut starts).0 in cc)
starts_failed old mid new lead other records.Off less power read starts =
    let p = lead_stops mid new (stop_of lead.power) starts in
    failed_less old mid new (power (stop_fault lead.power p.0)) (same_mirror_less mid new p.1)
starts_failed old mid new lead other records.Fault less power read starts = failed_less old mid new (read refl) (same_mirror_less mid new (lead_stops mid new powers.Fault starts).1)

pub power_fault : (old new : MirrorShown) → MirrorPowerCause old new powers.Fault → OneFailed old new
power_fault old new c = go (is_to_lead c.mid c.lead.record c.other.record) c.starts
  where
    same : c.mid.lead_is_a ≡ old.lead_is_a
    same = ap (λ (s : MirrorShown). s.lead_is_a) c.wakes.new_is

    less : NoLess old c.mid
    less = roles_less old c.mid same (wakes_less _ _ _ _ c.lead c.wakes.led) (wakes_less _ _ _ _ c.other c.wakes.followed)

    exchanged_less : NoLess old (exchanged c.mid)
    exchanged_less = less_less old c.mid (exchanged c.mid) less (exchange_less c.mid)

    go : (b : Bool) → MatchBool b (Starts (exchanged c.mid) new c.other c.lead powers.Fault c.other.record) (Starts c.mid new c.lead c.other powers.Fault c.lead.record) → OneFailed old new
    go true starts = starts_failed old (exchanged c.mid) new c.other c.lead c.other.record exchanged_less
        (λ is. failed_less old c.mid (exchanged c.mid) (other_failed old c.mid same (power_failed _ _ _ _ c.other c.wakes.followed is)) (exchange_less c.mid))
        (λ is. failed_less old c.mid (exchanged c.mid) (other_failed old c.mid same (record_failed _ _ _ _ c.other c.wakes.followed is)) (exchange_less c.mid)) starts
    go false starts = starts_failed old c.mid new c.lead c.other c.lead.record less
        (λ is. lead_failed old c.mid same (power_failed _ _ _ _ c.lead c.wakes.led is)) (λ is. lead_failed old c.mid same (record_failed _ _ _ _ c.lead c.wakes.led is)) starts
