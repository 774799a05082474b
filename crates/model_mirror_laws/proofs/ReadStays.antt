-- A sector that is kept stays kept in a read: where the lead was stopped, the other side holds what it held, or is behind.
use Rattle.std.specs.Prelude.{◌≡◌, ◌⊎◌, ℕ, zero, suc, ◌*◌, ◌&&◌, not, MatchBool, Bool, true, false, List, [], ◌∷◌, length, take}
use Rattle.std.proofs.Common.{refl, sym, ap, ◌∙◌, inl, inr, subst, arith}
use Rattle.std.proofs.Math.Seq.{drop-nil, take-nil}
use Rattle.std.proofs.lemmas.Bool.{false≢true}
use Rattle.model_geometry.specs.Geometry.{Shape}
use Rattle.model_medium.specs.Cells.{Cell, IsSameOrDead, cell_at}
use Rattle.model_sectors.specs.Discs.{Standing, On, Off, sectors_of}
use Rattle.model_sectors.specs.declared.ReadOut.{ReadOut}
use Rattle.model_sectors.specs.declared.ReadOut.TheVariants as reads
use Rattle.model_drive.specs.Shown.{Shown, IsOn, StandsFor, cells_in}
use Rattle.model_drive.specs.Parts.{KeepsLists, AreSameOrDead}
use Rattle.model_drive.specs.Reads.{ReadStep}
use Rattle.model_drive.proofs.Dying.{one_dies, same_on}
use Rattle.model_drive.proofs.Kept.{read_kept}
use Rattle.model_cache.specs.Chains.{ReadsDisc}
use Rattle.model_mirror.specs.Table.{is_apart, some_apart}
use Rattle.model_mirror.specs.Shown.{MirrorShown, stands_in, may_lead}
use Rattle.model_mirror.specs.Reads.{LeadReads, AsksOther, EndsPart, MirrorReadsPart, MirrorReadsParts, EndsMirrorRead, ReadsLed, ReadsElsewhere, ReadStopped, ReadsWithSides, MirrorReadCause, up_after_read, read_is_stopped}
use Rattle.model_mirror.proofs.Handing.{takes_the_lead}
use Rattle.model_mirror.specs.Standing.{MayBe}
use Rattle.model_mirror_laws.specs.Kept.{AreSides, KeepsRecords}
use Rattle.model_mirror_laws.specs.Ahead.{IsAhead, KnowsRecords}
use Rattle.model_mirror_laws.specs.Bytes.{ComesSo, HasSector, AllHave, HoldsSector, IsKept}
use Rattle.model_mirror_laws.proofs.MirrorRecords.{reads_led_stays, old_valid, read_around}
use Rattle.model_mirror_laws.proofs.Knowing.{and_left, and_right, on_ahead, numbers_ahead, knows_lead, kept_lead, kept_leads, taken_knows}
use Rattle.model_mirror_laws.proofs.Staying.{HoldsWith, kept_ahead, lead_keeps, by_on, not_taken_rest}

-- A side lives on: its lists stay, its power stays on, and its cells only die.
record Lives (old new : Shown) : Type 0 where
  pub same_shape : new.shape ≡ old.shape
  pub as_known : new.medium.world.known ≡ old.medium.world.known
  pub lists : KeepsLists old new
  pub on : IsOn old → IsOn new
  pub cells : AreSameOrDead (cells_in old) (cells_in new)

lives_same : (old new : Shown) → new ≡ old → Lives old new
lives_same old new same = record {
  same_shape = ap (λ (s : Shown). s.shape) same;
  as_known = ap (λ (s : Shown). s.medium.world.known) same;
  lists = record { same_lists = ap (λ (s : Shown). s.lists) same; same_mark = ap (λ (s : Shown). s.mark) same };
  on = λ on. subst IsOn (sym same) on;
  cells = λ block. inl (ap (λ (s : Shown). cell_at (cells_in s) block) same);
}

dead_then : (a b c : Cell) → IsSameOrDead a b → IsSameOrDead b c → IsSameOrDead a c
dead_then a b c (inl one) (inl two) = inl (two ∙ one)
dead_then a b c (inr one) (inl two) = inr (two ∙ one)
dead_then a b c one (inr two) = inr two

lives_then : (x y z : Shown) → Lives x y → Lives y z → Lives x z
lives_then x y z one two = record {
  same_shape = two.same_shape ∙ one.same_shape;
  as_known = two.as_known ∙ one.as_known;
  lists = record { same_lists = two.lists.same_lists ∙ one.lists.same_lists; same_mark = two.lists.same_mark ∙ one.lists.same_mark };
  on = λ on. two.on (one.on on);
  cells = λ block. dead_then _ _ _ (one.cells block) (two.cells block);
}

-- The other side of a mirror does, while it is up.
abbrev StaysUp : MirrorShown → MirrorShown → Type 0
StaysUp old new = new.up ≡ true → (old.up ≡ true) × (new.table ≡ old.table) × Lives old.other new.other

up_same : (old new : MirrorShown) → new.up ≡ old.up → new.table ≡ old.table → new.other ≡ old.other → StaysUp old new
up_same old new up table other is = (sym up ∙ is, table, lives_same old.other new.other other)

up_then : (x y z : MirrorShown) → StaysUp x y → StaysUp y z → StaysUp x z
up_then x y z one two is =
    let later = two is in
    let first = one later.0 in
    (first.0, later.1 ∙ first.1, lives_then x.other y.other z.other first.2 later.2)

same_up : (old new : MirrorShown) → new ≡ old → StaysUp old new
same_up old new same = up_same old new (ap (λ (s : MirrorShown). s.up) same) (ap (λ (s : MirrorShown). s.table) same) (ap (λ (s : MirrorShown). s.other) same)

module _ (lba n : ℕ) where
  lead_up : (old new : MirrorShown) (at count : ℕ) (out : ReadOut) → LeadReads old new at count out → StaysUp old new
  lead_up old new at count out r = up_same old new (ap (λ (s : MirrorShown). s.up) r.1) (ap (λ (s : MirrorShown). s.table) r.1) (ap (λ (s : MirrorShown). s.other) r.1)

  read_lives : (old new : Shown) (at count : ℕ) (out : ReadOut) → ReadsDisc old new at count out → up_after_read out ≡ true → Lives old new
  read_lives old new at count reads.Good r up = record {
    same_shape = r.leaves.same_shape;
    as_known = (read_kept old new at count reads.Good r.cause).as_known;
    lists = r.cause.keeps;
    on = λ _. r.cause.ends.is_on;
    cells = λ block. inl (r.cause.same_cells block);
  }
  read_lives old new at count (reads.Unread named block) r up = record {
    same_shape = r.leaves.same_shape;
    as_known = (read_kept old new at count (reads.Unread named block) r.cause).as_known;
    lists = r.cause.keeps;
    on = λ _. r.cause.ends.is_on;
    cells = one_dies old new block r.cause.dies;
  }
  read_lives old new at count reads.NotFormatted r up = absurd (false≢true up)
  read_lives old new at count (reads.Range known) r up = absurd (false≢true up)
  read_lives old new at count reads.Cut r up = absurd (false≢true up)
  read_lives old new at count reads.Off r up = absurd (false≢true up)
  read_lives old new at count reads.Fault r up = absurd (false≢true up)

  module _ (block : ℕ) where
    asks_up : (mid new : MirrorShown) (refused out : ReadOut) → stands_in mid block ≡ true → AsksOther mid new lba n block refused out → StaysUp mid new
    asks_up mid new refused out may asks is = (
      and_left mid.up (not (is_apart mid.table block)) may,
      ap (λ (s : MirrorShown). s.table) asks.new_is,
      read_lives mid.other new.other _ _ asks.told asks.reads (sym (ap (λ (s : MirrorShown). s.up) asks.new_is) ∙ is),
    )

    ends_up : (mid new : MirrorShown) (told out : ReadOut) → EndsPart mid new lba n block told out → StaysUp mid new
    ends_up mid new (reads.Unread named home) out ends = go (stands_in mid block) refl ends
      where
        go : (b : Bool) → stands_in mid block ≡ b → MatchBool b (AsksOther mid new lba n block (reads.Unread named home) out) ((new ≡ mid) × (out ≡ reads.Unread named home)) → StaysUp mid new
        go true may asks = asks_up mid new (reads.Unread named home) out may asks
        go false may p = same_up mid new p.0
    ends_up mid new reads.Good out ends = same_up mid new ends.0
    ends_up mid new reads.NotFormatted out ends = same_up mid new ends.0
    ends_up mid new (reads.Range known) out ends = same_up mid new ends.0
    ends_up mid new reads.Cut out ends = same_up mid new ends.0
    ends_up mid new reads.Off out ends = same_up mid new ends.0
    ends_up mid new reads.Fault out ends = same_up mid new ends.0

    part_up : (old new : MirrorShown) (out : ReadOut) → MirrorReadsPart old new lba n block out → StaysUp old new
    part_up old new out part = up_then old part.mid new (lead_up old part.mid _ _ part.told part.reads) (ends_up part.mid new part.told out part.ends)

  parts_up : (k : ℕ) (old new : MirrorShown) → MirrorReadsParts old new lba n k → StaysUp old new
  parts_up zero old new same = same_up old new same
  parts_up (suc k) old new (mid, parts, part) = up_then old mid new (parts_up k old mid parts) (part_up _ mid new reads.Good part)

  ends_read_up : (old new : MirrorShown) (out : ReadOut) → EndsMirrorRead old new lba n out → StaysUp old new
  ends_read_up old new out ends = up_then old ends.mid new (parts_up ends.before old ends.mid ends.parts) (part_up _ ends.mid new out ends.ends)

  led_up : (old new : MirrorShown) (out : ReadOut) → read_is_stopped out ≡ true → ReadsLed old new lba n out → StaysUp old new
  led_up old new reads.Good e led = absurd (false≢true e)
  led_up old new reads.NotFormatted e led = absurd (false≢true e)
  led_up old new (reads.Range known) e led = absurd (false≢true e)
  led_up old new (reads.Unread named block) e led = absurd (false≢true e)
  led_up old new reads.Cut e led = ends_read_up old new reads.Cut led
  led_up old new reads.Off e led = absurd (false≢true e)
  led_up old new reads.Fault e led = ends_read_up old new reads.Fault led

  off_stops : (after : Standing → Type 0) (discs : List (List ℕ)) (into : List ℕ) (out : ReadOut) → read_is_stopped out ≡ true → ReadStep after (Off discs) lba n into out → ⊥
  off_stops after discs into reads.Good e step = step
  off_stops after discs into reads.NotFormatted e step = step
  off_stops after discs into (reads.Range known) e step = step
  off_stops after discs into (reads.Unread named block) e step = step
  off_stops after discs into reads.Cut e step = step
  off_stops after discs into reads.Off e step = false≢true e
  off_stops after discs into reads.Fault e step = step

  module _ (at : ℕ) (bytes : List ℕ) (into : List ℕ) where
    read_all : (s t : Standing) (out : ReadOut) → AllHave at bytes s → ReadStep (λ x. x ≡ t) s lba n into out → AllHave at bytes t
    read_all (On disc) t reads.Good each step = subst (AllHave at bytes) step.1 each
    read_all (On disc) t reads.NotFormatted each step = subst (AllHave at bytes) step.1 each
    read_all (On disc) t (reads.Range known) each step = subst (AllHave at bytes) step each
    read_all (On disc) t (reads.Unread named block) each step = subst (AllHave at bytes) step each
    read_all (On disc) t reads.Cut each step = subst (AllHave at bytes) step each
    read_all (On disc) t reads.Off each step = absurd step
    read_all (On disc) t reads.Fault each step = subst (AllHave at bytes) step each
    read_all (Off discs) t reads.Good each step = absurd step
    read_all (Off discs) t reads.NotFormatted each step = absurd step
    read_all (Off discs) t (reads.Range known) each step = absurd step
    read_all (Off discs) t (reads.Unread named block) each step = absurd step
    read_all (Off discs) t reads.Cut each step = absurd step
    read_all (Off discs) t reads.Off each step = subst (AllHave at bytes) step each
    read_all (Off discs) t reads.Fault each step = absurd step

    module _ (shape : Shape) (old new : MirrorShown) (sides : AreSides shape old) (knows : KnowsRecords old) (on : old.on ≡ true) where
      elsewhere_ahead : (out : ReadOut) → ReadsElsewhere old new lba n out → IsAhead new.lead new.other
      elsewhere_ahead out e =
          let around = read_around lba n shape old new sides out e in
          let leads = taken_knows e.mid e.late e.takes (kept_lead old e.mid around.0 (knows_lead old knows)) (kept_leads old e.mid around.0 (knows.leads on)) in
          kept_ahead e.late new around.1 (numbers_ahead e.late leads.0.noted leads.1)

      read_stopped : (s : Standing) → MayBe old s → AllHave at bytes s → (after : Standing → Type 0) (out : ReadOut) → ReadStep after s lba n into out → ReadStopped old new lba n out
          → HoldsSector at bytes new.other ⊎ IsAhead new.lead new.other
      read_stopped (Off discs) stands each after out step stop = absurd (off_stops after discs into out stop.stopped step)
      read_stopped (On disc) stands each after out step stop =
          not_taken_rest at bytes stop.mid new (kept_ahead old stop.mid before (on_ahead old knows on)) stop.takes
          (before.other.as_known ∙ knows.other_known) held
        where
          before : KeepsRecords old stop.mid
          before = (reads_led_stays lba n old stop.mid (old_valid lba n shape old new sides) out stop.led).keeps

          held : may_lead stop.mid ≡ true → HoldsWith at bytes stop.mid
          held may =
              let stays = led_up old stop.mid out stop.stopped stop.led (and_left stop.mid.up (not (some_apart stop.mid.table)) may) in
              let may_old : may_lead old ≡ true = both old.up (some_apart old.table) stays.0 (ap some_apart (sym stays.1)) (and_right stop.mid.up (not (some_apart stop.mid.table)) may) in
              let stood = takes_the_lead old (StandsFor old.other) disc stands.2 may_old in
              record {
                disc = disc;
                has = each.0;
                buffer = old.other.buffer;
                stands = same_on old.other (record stop.mid.other { buffer = old.other.buffer }) stays.2.same_shape stays.2.as_known
                    (record { same_lists = stays.2.lists.same_lists; same_mark = stays.2.lists.same_mark }) refl (stays.2.on stood.1) stays.2.cells disc stood;
              }
            where
              both : (a b : Bool) {c : Bool} → a ≡ true → b ≡ c → not c ≡ true → (a && not b) ≡ true
              both a b one two three = ap (λ x. x && not b) one ∙ ap not two ∙ three

      read_rest : (s : Standing) → MayBe old s → AllHave at bytes s → (after : Standing → Type 0) (out : ReadOut) → ReadStep after s lba n into out → ReadsWithSides old new lba n out
          → HoldsSector at bytes new.other ⊎ IsAhead new.lead new.other
      read_rest s stands each after out step (inl led) = inr (kept_ahead old new (reads_led_stays lba n old new (old_valid lba n shape old new sides) out led.1).keeps (on_ahead old knows on))
      read_rest s stands each after out step (inr (inl e)) = inr (elsewhere_ahead out e)
      read_rest s stands each after out step (inr (inr stop)) = read_stopped s stands each after out step stop

    pub read_keeps : (shape : Shape) (old new : MirrorShown) → AreSides shape old → (out : ReadOut) → MirrorReadCause old new lba n out
        → ComesSo old new (λ s t. ReadStep (λ x. x ≡ t) s lba n into out) → KnowsRecords old → IsKept at bytes old → IsKept at bytes new
    read_keeps shape old new sides out cause comes knows kept = by_on at bytes old new kept _ _ go old.on refl cause
      where
        go : ReadsWithSides old new lba n out → old.on ≡ true → IsKept at bytes new
        go with_sides on =
            let shows = kept.1.shows on in
            let after = comes shows.standing shows.stands in
            lead_keeps at bytes new after.0 after.1 (read_all shows.standing after.0 out shows.each after.2)
            (read_rest shape old new sides knows on shows.standing shows.stands shows.each (λ x. x ≡ after.0) out after.2 with_sides)

none_of : (at : ℕ) → sectors_of [] at 1 ≡ []
unfolding sectors_of
none_of at = ap (take (2048 * 1)) (drop-nil (2048 * at)) ∙ take-nil (2048 * 1)

no_bytes : (l : List ℕ) → length l ≡ 2048 → l ≡ [] → ⊥
no_bytes [] long e = let w : 0 ≡ 2048 = long in omega (arith, w)
no_bytes (x ∷ l) long e = absurd (let w = e in cc)

-- A read of the sector shows it.
module _ (at : ℕ) (bytes into : List ℕ) (whole : length into ≡ 2048) where
  shown_so : (s t : Standing) → AllHave at bytes s → ReadStep (λ x. x ≡ t) s at 1 into reads.Good → into ≡ bytes
  shown_so (On disc) t each step = go each.0
    where
      go : HasSector at bytes disc → into ≡ bytes
      go (inr is) = step.0 ∙ is
      go (inl none) = absurd (no_bytes into whole (step.0 ∙ ap (λ d. sectors_of d at 1) none ∙ none_of at))
  shown_so (Off discs) t each step = absurd step

  pub read_shows : (old new : MirrorShown) → MirrorReadCause old new at 1 reads.Good → ComesSo old new (λ s t. ReadStep (λ x. x ≡ t) s at 1 into reads.Good) → IsKept at bytes old → into ≡ bytes
  read_shows old new cause comes kept = go old.on refl cause
    where
      go : (b : Bool) → old.on ≡ b → MatchBool b (ReadsWithSides old new at 1 reads.Good) ((reads.Good ≡ reads.Off) × (new ≡ old)) → into ≡ bytes
      go true on c =
          let shows = kept.1.shows on in
          let after = comes shows.standing shows.stands in
          shown_so shows.standing after.0 shows.each after.2
      go false on p = absurd (let w = p.0 in cc)
