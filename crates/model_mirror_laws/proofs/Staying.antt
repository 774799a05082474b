-- A sector that is kept stays kept in each call of a mirror that does not write it.
use Rattle.std.specs.Prelude.{◌≡◌, ◌≢◌, ◌⊎◌, ℕ, ◌+◌, ◌*◌, ◌<◌, ◌≤◌, not, MatchBool, if◌then◌else◌, Bool, true, false, nat_lt, List, [], ◌∷◌, length}
use Rattle.std.specs.List.{AllByRecursion}
use Rattle.std.proofs.Common.{refl, sym, ap, ◌∙◌, inl, inr, subst}
use Rattle.std.proofs.lemmas.Bool.{false≢true}
use Rattle.model_geometry.specs.Geometry.{Shape}
use Rattle.model_sectors.specs.Discs.{Standing, On, Off, replaced}
use Rattle.model_drive.specs.declared.WriteOut.{WriteOut}
use Rattle.model_drive.specs.declared.WriteOut.TheVariants as writes
use Rattle.model_drive.specs.declared.RecordOut.{RecordOut}
use Rattle.model_drive.specs.declared.RecordOut.TheVariants as records
use Rattle.model_drive.specs.Shown.{Shown, StandsFor}
use Rattle.model_mirror.specs.declared.Resync.{Resync}
use Rattle.model_mirror.specs.declared.Resync.TheVariants as resyncs
use Rattle.model_mirror.specs.Shown.{MirrorShown}
use Rattle.model_mirror.specs.Standing.{StandsSomehow, MayBe}
use Rattle.model_mirror.specs.Steps.{ResyncStep}
use Rattle.model_mirror.specs.Whole.{MirrorFormatCause, ResyncCause}
use Rattle.model_lists.specs.Records.{LeadRecord}
use Rattle.model_sectors.proofs.Pieces.{length_replaced, other_sectors_replaced}
use Rattle.model_drive.specs.Shown.{IsKnown}
use Rattle.model_drive.specs.Parts.{IsInRange}
use Rattle.model_drive.specs.Records.{LeadFromCause, StopsWritingRecord}
use Rattle.model_stops.specs.declared.Stop.{Stop}
use Rattle.model_stops.specs.declared.Stop.TheVariants as stops
use Rattle.model_drive.specs.declared.FormatOut.{FormatOut}
use Rattle.model_drive.specs.declared.FormatOut.TheVariants as formats
use Rattle.model_drive.specs.declared.Kind.TheVariants as kinds
use Rattle.model_drive.specs.Formats.{FormatStep}
use Rattle.model_drive.specs.FullFormats.{FullStep}
use Rattle.model_mirror_laws.specs.Runs.{IsRefusedFormat}
use Rattle.model_drive.specs.Writes.{WriteCause, WriteStep}
use Rattle.model_drive.proofs.RecordSteps.{lead_step}
use Rattle.model_cache.specs.Falling.{LiesIn}
use Rattle.model_mirror.specs.Leading.{WritesNumber, WritesNoNumber, numbered, last_number}
use Rattle.model_mirror.specs.Shown.{may_lead}
use Rattle.model_mirror.specs.Taking.{LeadIsTaken, LeadIsNotTaken, CannotTake}
use Rattle.model_mirror.specs.Writes.{WritesLed, WritesElsewhere, WriteStopped, WritesWithSides, MirrorWriteCause, write_is_stopped}
use Rattle.model_mirror.proofs.Handing.{takes_the_lead}
use Rattle.model_mirror.proofs.WriteSteps.{lies_in_range}
use Rattle.model_mirror.specs.Sides.{named_side}
use Rattle.model_mirror_laws.specs.Kept.{AreSides, KeepsRecords}
use Rattle.model_mirror_laws.specs.Ahead.{HoldsOfCopies, IsAhead, KnowsRecords, SideIsAhead}
use Rattle.model_mirror_laws.specs.Bytes.{ComesSo, HasSector, AllHave, HoldsSector, IsKept}
use Rattle.model_mirror_laws.proofs.Numbers.{kept_copies, lost_copies}
use Rattle.model_mirror_laws.proofs.MirrorRecords.{resync_leaves, format_leaves, lead_writes, writes_led, old_valid, write_around}
use Rattle.model_mirror_laws.proofs.Knowing.{on_ahead, numbers_ahead, knows_lead, kept_lead, kept_leads, taken_knows}

-- what is said of the side that leads, and of the other one, by their names
side_by : (P : Shown → Type 0) (on_a : Bool) (shown : MirrorShown) → shown.lead_is_a ≡ on_a → P shown.lead → P (named_side on_a shown)
side_by P true shown e has = subst (λ (b : Bool). P (if b then shown.lead else shown.other)) (sym e) has
side_by P false shown e has = subst (λ (b : Bool). P (if b then shown.other else shown.lead)) (sym e) has

other_by : (P : Shown → Type 0) (on_a : Bool) (shown : MirrorShown) → shown.lead_is_a ≡ on_a → P shown.other → P (named_side (not on_a) shown)
other_by P true shown e has = subst (λ (b : Bool). P (if b then shown.other else shown.lead)) (sym e) has
other_by P false shown e has = subst (λ (b : Bool). P (if b then shown.lead else shown.other)) (sym e) has

ahead_by : (on_a : Bool) (shown : MirrorShown) → shown.lead_is_a ≡ on_a → IsAhead shown.lead shown.other → SideIsAhead on_a shown
ahead_by true shown e ahead = subst (λ (b : Bool). IsAhead (if b then shown.lead else shown.other) (if b then shown.other else shown.lead)) (sym e) ahead
ahead_by false shown e ahead = subst (λ (b : Bool). IsAhead (if b then shown.other else shown.lead) (if b then shown.lead else shown.other)) (sym e) ahead

pub kept_ahead : (old new : MirrorShown) → KeepsRecords old new → IsAhead old.lead old.other → IsAhead new.lead new.other
kept_ahead old new keeps ahead = record {
  between = ahead.between;
  above = kept_copies (λ number. ahead.between < number) old.lead new.lead keeps.lead ahead.above;
  below = kept_copies (λ number. number ≤ ahead.between) old.other new.other keeps.other ahead.below;
}

module _ (at : ℕ) (bytes : List ℕ) where
  -- the side that leads keeps it where the mirror may stand for discs that all have it
  module _ (new : MirrorShown) where
    lead_holds : (s : Standing) → MayBe new s → AllHave at bytes s → HoldsSector at bytes new.lead
    lead_holds (On disc) stands each = record { standing = On disc; stands = stands.1; each = each }
    lead_holds (Off discs) stands each = elim stands.0 [
      | inl off ↦ record { standing = Off discs; stands = off; each = each }
      | inr idle ↦ record { standing = On idle.disc; stands = idle.stands; each = subst (AllByRecursion (HasSector at bytes)) idle.one each }
    ]

    other_stands : (s : Standing) → MayBe new s → StandsSomehow (StandsFor new.other)
    other_stands (On disc) stands = stands.2.some
    other_stands (Off discs) stands = stands.1

    pub lead_keeps : (s : Standing) → MayBe new s → AllHave at bytes s → HoldsSector at bytes new.other ⊎ IsAhead new.lead new.other → IsKept at bytes new
    lead_keeps s stands each rest = (
      new.lead_is_a,
      record {
        holds = side_by (HoldsSector at bytes) new.lead_is_a new refl (lead_holds s stands each);
        rest = elim rest [ inl both ↦ inl (other_by (HoldsSector at bytes) new.lead_is_a new refl both) | inr ahead ↦ inr (ahead_by new.lead_is_a new refl ahead) ];
        leads = λ _. refl;
        other = other_by (λ (x : Shown). StandsSomehow (StandsFor x)) new.lead_is_a new refl (other_stands s stands);
        shows = λ _. record { standing = s; stands = stands; each = each };
      },
    )

  -- A resynchronisation.
  resync_all : (s t : Standing) (out : Resync) → AllHave at bytes s → ResyncStep (λ x. x ≡ t) s out → AllHave at bytes t
  resync_all (On disc) t (resyncs.Done left) each step = subst (AllHave at bytes) step each
  resync_all (On disc) t resyncs.NotFormatted each step = subst (AllHave at bytes) step.1 each
  resync_all (On disc) t resyncs.Cut each step = subst (AllHave at bytes) step each
  resync_all (On disc) t resyncs.Off each step = absurd step
  resync_all (On disc) t resyncs.Fault each step = subst (AllHave at bytes) step each
  resync_all (Off discs) t (resyncs.Done left) each step = absurd step
  resync_all (Off discs) t resyncs.NotFormatted each step = absurd step
  resync_all (Off discs) t resyncs.Cut each step = absurd step
  resync_all (Off discs) t resyncs.Off each step = subst (AllHave at bytes) step each
  resync_all (Off discs) t resyncs.Fault each step = absurd step

  module _ (old new : MirrorShown) (kept : IsKept at bytes old) where
    -- a mirror that is off does nothing
    pub by_on : (X Y : Type 0) → (X → old.on ≡ true → IsKept at bytes new) → (b : Bool) → old.on ≡ b → MatchBool b X (Y × (new ≡ old)) → IsKept at bytes new
    by_on X Y each true e cause = each cause e
    by_on X Y each false e p = subst (IsKept at bytes) (sym p.1) kept

  module _ (shape : Shape) (old new : MirrorShown) (sides : AreSides shape old) (knows : KnowsRecords old) (kept : IsKept at bytes old) where
    pub resync_keeps : (out : Resync) → ResyncCause old new out → ComesSo old new (λ s t. ResyncStep (λ x. x ≡ t) s out) → IsKept at bytes new
    resync_keeps out cause comes = by_on old new kept _ _ (λ _ on. go on) old.on refl cause
      where
        go : old.on ≡ true → IsKept at bytes new
        go on =
            let shows = kept.1.shows on in
            let after = comes shows.standing shows.stands in
            lead_keeps new after.0 after.1 (resync_all shows.standing after.0 out shows.each after.2) (inr (kept_ahead old new (resync_leaves shape old new sides out cause) (on_ahead old knows on)))

-- A format that was refused.
module _ (at : ℕ) (bytes : List ℕ) where
  full_all : (old new : Shown) (disc : List ℕ) (t : Standing) (out : FormatOut) → IsRefusedFormat out → AllHave at bytes (On disc) → FullStep old new (λ x. x ≡ t) disc out → AllHave at bytes t
  full_all old new disc t formats.Good refused each step = absurd refused
  full_all old new disc t (formats.TooMany found) refused each step = subst (AllHave at bytes) step (inl refl, tt)
  full_all old new disc t (formats.NoUpdate counter) refused each step = elim step [ inl kept ↦ subst (AllHave at bytes) kept.1 each | inr lost ↦ subst (AllHave at bytes) lost.1 (inl refl, tt) ]
  full_all old new disc t formats.Cut refused each step = absurd refused
  full_all old new disc t formats.Off refused each step = absurd step
  full_all old new disc t formats.Fault refused each step = absurd refused

  format_all : (old new : Shown) (s t : Standing) (out : FormatOut) → IsRefusedFormat out → AllHave at bytes s → FormatStep old new (λ x. x ≡ t) s (kinds.Full true) out → AllHave at bytes t
  format_all old new (On disc) t out refused each step = full_all old new disc t out refused each step
  format_all old new (Off discs) t formats.Good refused each step = absurd step
  format_all old new (Off discs) t (formats.TooMany found) refused each step = absurd step
  format_all old new (Off discs) t (formats.NoUpdate counter) refused each step = absurd step
  format_all old new (Off discs) t formats.Cut refused each step = absurd step
  format_all old new (Off discs) t formats.Off refused each step = subst (AllHave at bytes) step each
  format_all old new (Off discs) t formats.Fault refused each step = absurd step

  pub format_keeps : (old new : MirrorShown) (out : FormatOut) → IsRefusedFormat out → MirrorFormatCause old new out
      → ComesSo old new (λ s t. FormatStep old.lead new.lead (λ x. x ≡ t) s (kinds.Full true) out) → KnowsRecords old → IsKept at bytes old → IsKept at bytes new
  format_keeps old new out refused cause comes knows kept = by_on at bytes old new kept _ _ (λ _ on. go on) old.on refl cause
    where
      go : old.on ≡ true → IsKept at bytes new
      go on =
          let shows = kept.1.shows on in
          let after = comes shows.standing shows.stands in
          lead_keeps at bytes new after.0 after.1 (format_all old.lead new.lead shows.standing after.0 out refused shows.each after.2)
          (inr (kept_ahead old new (format_leaves old new out cause) (on_ahead old knows on)))

-- what the other side holds, whatever it has buffered
pub record HoldsWith (at : ℕ) (bytes : List ℕ) (mid : MirrorShown) : Type 0 where
  pub disc : List ℕ
  pub has : HasSector at bytes disc
  pub buffer : List (ℕ × List ℕ)
  pub stands : StandsFor (record mid.other { buffer = buffer }) (On disc)

-- a writing of a record that was stopped, whatever was buffered
stopped_with : (old new : Shown) (value : LeadRecord) (stop : Stop) (buffer : List (ℕ × List ℕ)) → StopsWritingRecord old new value stop → StopsWritingRecord (record old { buffer = buffer }) new value stop
stopped_with old new value stop buffer cause = record {
  was_on = cause.was_on;
  stopped = record { stops = cause.stopped.stops; no_lists = cause.stopped.no_lists; no_mark = cause.stopped.no_mark; no_buffer = cause.stopped.no_buffer };
  only = cause.only;
  left = λ known. let left = cause.left known in record { at = left.at; stops = left.stops; may = left.may; stays_dead = left.stays_dead; one_lost = left.one_lost };
}

-- The other side did not take the lead: it is behind still, or it holds what it held.
module _ (at : ℕ) (bytes : List ℕ) (mid new : MirrorShown) (ahead : IsAhead mid.lead mid.other) where
  abbrev Rest : MirrorShown → Type 0
  Rest late = HoldsSector at bytes late.other ⊎ IsAhead late.lead late.other

  same_rest : (late : MirrorShown) → late.lead ≡ mid.lead → late.other ≡ mid.other → Rest late
  same_rest late one two = inr (subst (λ (s : Shown). IsAhead s late.other) (sym one) (subst (IsAhead mid.lead) (sym two) ahead))

  wrote_rest : (late : MirrorShown) (value : LeadRecord) (told : RecordOut) → IsKnown mid.other → late.lead ≡ mid.lead → late.other.shape ≡ mid.other.shape → HoldsWith at bytes mid → told ≢ records.Good
      → LeadFromCause mid.other late.other value told → Rest late
  wrote_rest late value records.Good known one same held not_good cause = absurd (not_good refl)
  wrote_rest late value records.Lost known one same held not_good cause = inr (record {
    between = ahead.between;
    above = subst (HoldsOfCopies (λ number. ahead.between < number)) (sym one) ahead.above;
    below = lost_copies (λ number. number ≤ ahead.between) late.other (cause.lost known);
  })
  wrote_rest late value records.Cut known one same held not_good cause =
      inl (record { standing = Off (held.disc ∷ []); stands = lead_step (record mid.other { buffer = held.buffer }) late.other same value (On held.disc) records.Cut (stopped_with mid.other late.other value stops.Cut held.buffer cause) held.stands; each = (held.has, tt) })
  wrote_rest late value records.Off known one same held not_good cause = same_rest late one cause.nothing
  wrote_rest late value records.Fault known one same held not_good cause =
      inl (record { standing = Off (held.disc ∷ []); stands = lead_step (record mid.other { buffer = held.buffer }) late.other same value (On held.disc) records.Fault (stopped_with mid.other late.other value stops.Fault held.buffer cause) held.stands; each = (held.has, tt) })

  pub not_taken_rest : LeadIsNotTaken mid new → IsKnown mid.other → (may_lead mid ≡ true → HoldsWith at bytes mid) → Rest new
  not_taken_rest taken known held = from_late (go (may_lead mid) refl taken.why)
    where
      at_lead : new.lead ≡ taken.late.lead
      at_lead = ap (λ (s : MirrorShown). s.lead) taken.new_is

      at_other : new.other ≡ taken.late.other
      at_other = ap (λ (s : MirrorShown). s.other) taken.new_is

      from_late : Rest taken.late → Rest new
      from_late (inl holds) = inl (subst (HoldsSector at bytes) (sym at_other) holds)
      from_late (inr is) = inr (subst (λ (s : Shown). IsAhead s new.other) (sym at_lead) (subst (IsAhead taken.late.lead) (sym at_other) is))

      cannot : may_lead mid ≡ true → CannotTake mid taken.late → Rest taken.late
      cannot may c = raised (nat_lt mid.who.lead.most mid.who.other.most) c.wrote.raises
        where
          lead_same : taken.late.lead ≡ mid.lead
          lead_same = ap (λ (s : MirrorShown). s.lead) c.wrote.new_is

          inner : (b : Bool) → MatchBool b (WritesNumber mid.other taken.late.other mid.who.other taken.late.who.other (mid.who.lead.most + 1) c.told)
              (WritesNoNumber mid.other taken.late.other mid.who.other taken.late.who.other × (c.told ≡ records.Lost)) → Rest taken.late
          inner true wrote = wrote_rest taken.late (numbered mid.who.other (mid.who.lead.most + 1)) c.told known lead_same wrote.leaves.same_shape (held may) c.not_good wrote.cause
          inner false p = same_rest taken.late lead_same p.0.same

          raised : (b : Bool) → MatchBool b (WritesNoNumber mid.other taken.late.other mid.who.other taken.late.who.other × (c.told ≡ records.Good))
              (MatchBool (nat_lt mid.who.lead.most last_number) (WritesNumber mid.other taken.late.other mid.who.other taken.late.who.other (mid.who.lead.most + 1) c.told)
              (WritesNoNumber mid.other taken.late.other mid.who.other taken.late.who.other × (c.told ≡ records.Lost))) → Rest taken.late
          raised true p = absurd (c.not_good p.1)
          raised false p = inner (nat_lt mid.who.lead.most last_number) p

      go : (b : Bool) → may_lead mid ≡ b → MatchBool b (CannotTake mid taken.late) (taken.late ≡ mid) → Rest taken.late
      go true may c = cannot may c
      go false may same = same_rest taken.late (ap (λ (s : MirrorShown). s.lead) same) (ap (λ (s : MirrorShown). s.other) same)

-- A write.
-- it may have written
abbrev MayWrite : WriteOut → Type 0
MayWrite writes.NotFormatted = ⊥
MayWrite (writes.Range known) = ⊥
MayWrite writes.Off = ⊥
MayWrite _ = Unit {0}

empty_list : (l : List ℕ) → length l ≡ 0 → l ≡ []
empty_list [] e = refl
empty_list (x ∷ l) e = absurd (let w = e in cc)

module _ (lba n : ℕ) (payload : List ℕ) (whole : length payload ≡ 2048 * n) where
  in_range : (old new : Shown) (out : WriteOut) → MayWrite out → WriteCause old new lba n out → IsInRange old lba n
  in_range old new writes.Good may cause = cause.ends.wrote.inside
  in_range old new writes.NotFormatted may cause = absurd may
  in_range old new (writes.Range known) may cause = absurd may
  in_range old new (writes.Unread named block) may cause = cause.ends.wrote.inside
  in_range old new (writes.NoSpare named) may cause = cause.ends.wrote.inside
  in_range old new (writes.NoUpdate counter) may cause = cause.ends.wrote.inside
  in_range old new writes.Cut may cause = cause.wrote.inside
  in_range old new writes.Off may cause = absurd may
  in_range old new writes.Fault may cause = cause.wrote.inside

  stop_may : (out : WriteOut) → write_is_stopped out ≡ true → MayWrite out
  stop_may writes.Good e = tt
  stop_may writes.NotFormatted e = absurd (false≢true e)
  stop_may (writes.Range known) e = absurd (false≢true e)
  stop_may (writes.Unread named block) e = tt
  stop_may (writes.NoSpare named) e = tt
  stop_may (writes.NoUpdate counter) e = tt
  stop_may writes.Cut e = tt
  stop_may writes.Off e = absurd (false≢true e)
  stop_may writes.Fault e = tt

  -- the lead was written, or refused, in range
  led_range : (old new : MirrorShown) (out : WriteOut) → MayWrite out → WritesLed old new lba n out → IsInRange old.lead lba n
  led_range old new writes.Good may led = in_range old.lead led.mid.lead writes.Good tt led.lead.0.wrote
  led_range old new writes.NotFormatted may led = absurd may
  led_range old new (writes.Range known) may led = absurd may
  led_range old new (writes.Unread named block) may led = in_range old.lead led.mid.lead (writes.Unread named block) tt led.lead.0.wrote
  led_range old new (writes.NoSpare named) may led = in_range old.lead led.mid.lead (writes.NoSpare named) tt led.lead.0.wrote
  led_range old new (writes.NoUpdate counter) may led = in_range old.lead led.mid.lead (writes.NoUpdate counter) tt led.lead.0.wrote
  led_range old new writes.Cut may led = in_range old.lead new.lead writes.Cut tt led.0.wrote
  led_range old new writes.Off may led = absurd may
  led_range old new writes.Fault may led = in_range old.lead new.lead writes.Fault tt led.0.wrote

  pub sides_range : (old new : MirrorShown) (out : WriteOut) → MayWrite out → WritesWithSides old new lba n out → IsInRange old.lead lba n
  sides_range old new out may (inl led) = led_range old new out may led.1
  sides_range old new out may (inr (inl e)) = in_range old.lead e.mid.lead e.lost (stop_may e.lost e.stopped) e.led.0.wrote
  sides_range old new out may (inr (inr s)) = in_range old.lead s.mid.lead out may s.led.0.wrote

  module _ (at : ℕ) (bytes : List ℕ) (apart : (at + 1 ≤ lba) ⊎ (lba + n ≤ at)) where
    still_has : (disc : List ℕ) → LiesIn disc lba n payload → HasSector at bytes disc → (block : ℕ) → HasSector at bytes (replaced disc lba payload block)
    still_has disc lies (inl none) block = inl (empty_list _ (length_replaced disc lies.blocks lba n payload block whole lies.inside lies.as_long ∙ ap length none))
    still_has disc lies (inr is) block = inr (other_sectors_replaced disc lies.blocks lba n payload block at 1 whole lies.inside lies.as_long (elim apart [ inl before ↦ inl before | inr behind ↦ inr (inl behind) ]) ∙ is)

    write_all : (shown : Shown) (s t : Standing) (out : WriteOut) → (MayWrite out → (disc : List ℕ) → s ≡ On disc → LiesIn disc lba n payload) → AllHave at bytes s → WriteStep shown (λ x. x ≡ t) s lba n payload out → AllHave at bytes t
    write_all shown (On disc) t writes.Good lies each step = subst (AllHave at bytes) step (still_has disc (lies tt disc refl) each.0 _, tt)
    write_all shown (On disc) t writes.NotFormatted lies each step = subst (AllHave at bytes) step.1 each
    write_all shown (On disc) t (writes.Range known) lies each step = subst (AllHave at bytes) step each
    write_all shown (On disc) t (writes.Unread named block) lies each step = subst (AllHave at bytes) step (still_has disc (lies tt disc refl) each.0 _, tt)
    write_all shown (On disc) t (writes.NoSpare named) lies each step = subst (AllHave at bytes) step (still_has disc (lies tt disc refl) each.0 _, tt)
    write_all shown (On disc) t (writes.NoUpdate counter) lies each step = subst (AllHave at bytes) step.before (still_has disc (lies tt disc refl) each.0 _, tt)
    write_all shown (On disc) t writes.Cut lies each step = subst (AllHave at bytes) step.either (still_has disc (lies tt disc refl) each.0 _, (still_has disc (lies tt disc refl) each.0 _, tt))
    write_all shown (On disc) t writes.Off lies each step = absurd step
    write_all shown (On disc) t writes.Fault lies each step = subst (AllHave at bytes) step.either (still_has disc (lies tt disc refl) each.0 _, (still_has disc (lies tt disc refl) each.0 _, tt))
    write_all shown (Off discs) t writes.Good lies each step = absurd step
    write_all shown (Off discs) t writes.NotFormatted lies each step = absurd step
    write_all shown (Off discs) t (writes.Range known) lies each step = absurd step
    write_all shown (Off discs) t (writes.Unread named block) lies each step = absurd step
    write_all shown (Off discs) t (writes.NoSpare named) lies each step = absurd step
    write_all shown (Off discs) t (writes.NoUpdate counter) lies each step = absurd step
    write_all shown (Off discs) t writes.Cut lies each step = absurd step
    write_all shown (Off discs) t writes.Off lies each step = subst (AllHave at bytes) step each
    write_all shown (Off discs) t writes.Fault lies each step = absurd step

  -- The records after a write: the lead is ahead, or the other side holds what it held.
  module _ (shape : Shape) (old new : MirrorShown) (sides : AreSides shape old) (knows : KnowsRecords old) (on : old.on ≡ true) where
    -- the other side took the lead in between
    taken_ahead : (mid late : MirrorShown) → KeepsRecords old mid → LeadIsTaken mid late → KeepsRecords late new → IsAhead new.lead new.other
    taken_ahead mid late before taken after =
        let leads = taken_knows mid late taken (kept_lead old mid before (knows_lead old knows)) (kept_leads old mid before (knows.leads on)) in
        kept_ahead late new after (numbers_ahead late leads.0.noted leads.1)

    pub elsewhere_ahead : (out : WriteOut) → WritesElsewhere old new lba n out → IsAhead new.lead new.other
    elsewhere_ahead out e = let around = write_around lba n shape old new sides out e in taken_ahead e.mid e.late around.0 e.takes around.1

    off_stops : (shown : Shown) (after : Standing → Type 0) (discs : List (List ℕ)) (out : WriteOut) → write_is_stopped out ≡ true → WriteStep shown after (Off discs) lba n payload out → ⊥
    off_stops shown after discs writes.Good e step = step
    off_stops shown after discs writes.NotFormatted e step = step
    off_stops shown after discs (writes.Range known) e step = step
    off_stops shown after discs (writes.Unread named block) e step = step
    off_stops shown after discs (writes.NoSpare named) e step = step
    off_stops shown after discs (writes.NoUpdate counter) e step = step
    off_stops shown after discs writes.Cut e step = step
    off_stops shown after discs writes.Off e step = false≢true e
    off_stops shown after discs writes.Fault e step = step

    module _ (at : ℕ) (bytes : List ℕ) where
      write_stopped : (s : Standing) → MayBe old s → AllHave at bytes s → (after : Standing → Type 0) (out : WriteOut) → WriteStep new.lead after s lba n payload out → WriteStopped old new lba n out
          → HoldsSector at bytes new.other ⊎ IsAhead new.lead new.other
      write_stopped (Off discs) stands each after out step stop = absurd (off_stops new.lead after discs out stop.stopped step)
      write_stopped (On disc) stands each after out step stop =
          not_taken_rest at bytes stop.mid new (kept_ahead old stop.mid before (on_ahead old knows on)) stop.takes
          (before.other.as_known ∙ knows.other_known) held
        where
          before : KeepsRecords old stop.mid
          before = (lead_writes old stop.mid lba n out (old_valid lba n shape old new sides) stop.led).keeps

          held : may_lead stop.mid ≡ true → HoldsWith at bytes stop.mid
          held may = record {
            disc = disc;
            has = each.0;
            buffer = stop.mid.other.buffer;
            stands = subst (λ (o : Shown). StandsFor o (On disc)) (sym (ap (λ (x : MirrorShown). x.other) stop.led.1)) (takes_the_lead old (StandsFor old.other) disc stands.2 (sym (ap may_lead stop.led.1) ∙ may));
          }

      write_rest : (s : Standing) → MayBe old s → AllHave at bytes s → (after : Standing → Type 0) (out : WriteOut) → WriteStep new.lead after s lba n payload out → WritesWithSides old new lba n out
          → HoldsSector at bytes new.other ⊎ IsAhead new.lead new.other
      write_rest s stands each after out step (inl led) = inr (kept_ahead old new (writes_led lba n shape old new sides out led.1) (on_ahead old knows on))
      write_rest s stands each after out step (inr (inl e)) = inr (elsewhere_ahead out e)
      write_rest s stands each after out step (inr (inr stop)) = write_stopped s stands each after out step stop

  module _ (at : ℕ) (bytes : List ℕ) (apart : (at + 1 ≤ lba) ⊎ (lba + n ≤ at)) where
    pub write_keeps : (shape : Shape) (old new : MirrorShown) → AreSides shape old → (out : WriteOut) → MirrorWriteCause old new lba n out
        → ComesSo old new (λ s t. WriteStep new.lead (λ x. x ≡ t) s lba n payload out) → KnowsRecords old → IsKept at bytes old → IsKept at bytes new
    write_keeps shape old new sides out cause comes knows kept = by_on at bytes old new kept _ _ go old.on refl cause
      where
        go : WritesWithSides old new lba n out → old.on ≡ true → IsKept at bytes new
        go with_sides on =
            let shows = kept.1.shows on in
            let after = comes shows.standing shows.stands in
            lead_keeps at bytes new after.0 after.1
            (write_all at bytes apart new.lead shows.standing after.0 out (lies shows.standing shows.stands) shows.each after.2)
            (write_rest shape old new sides knows on at bytes shows.standing shows.stands shows.each (λ x. x ≡ after.0) out after.2 with_sides)
          where
            lies : (s : Standing) → MayBe old s → MayWrite out → (disc : List ℕ) → s ≡ On disc → LiesIn disc lba n payload
            lies s stands may disc is =
                let on_disc : MayBe old (On disc) = subst (MayBe old) is stands in
                lies_in_range old.lead disc lba n payload on_disc.1 (sides_range old new out may with_sides) whole
