-- Reads, writes, formats and resynchronisations of a mirror, and the register of a sector.
use Rattle.std.specs.List.{Contains}
use Rattle.std.specs.Prelude.{◌≡◌, ℕ, ◌+◌, ◌*◌, ◌<◌, ◌≤◌, ◌⊎◌, Bool, true, false, nat_lt, if◌then◌else◌, MatchBool, Some, List, [], ◌∷◌, length}
use Rattle.std.proofs.Common.{arith, refl, sym, ap, ◌∙◌, inl, inr, subst}
use Rattle.std.proofs.lemmas.Bool.{cases_lt, lt-ltb, le-ltb}
use Rattle.model_geometry.specs.Geometry.{Shape}
use Rattle.model_sectors.specs.Discs.{Standing, On, Off, replaced, zeros, candidates}
use Rattle.model_sectors.specs.Requests.{block_with, blocks_covered}
use Rattle.model_sectors.specs.declared.ReadOut.{ReadOut}
use Rattle.model_sectors.specs.declared.ReadOut.TheVariants as reads
use Rattle.model_sectors.proofs.Covering.{covered_all}
use Rattle.model_sectors.proofs.Fitting.{length-zeros}
use Rattle.model_places.specs.Places.{count_of}
use Rattle.model_formats.specs.Stopped.{zero_disc}
use Rattle.model_drive.specs.declared.WriteOut.{WriteOut}
use Rattle.model_drive.specs.declared.WriteOut.TheVariants as writes
use Rattle.model_drive.specs.declared.FormatOut.{FormatOut}
use Rattle.model_drive.specs.declared.FormatOut.TheVariants as formats
use Rattle.model_drive.specs.declared.Kind.TheVariants as kinds
use Rattle.model_drive.specs.Reads.{ReadStep}
use Rattle.model_drive.specs.Writes.{WriteStep}
use Rattle.model_drive.specs.Formats.{FormatStep}
use Rattle.model_cache.specs.Falling.{LiesIn}
use Rattle.model_cache.proofs.Members.{Contains-first}
use Rattle.model_mirror.specs.declared.Resync.{Resync}
use Rattle.model_mirror.specs.declared.Resync.TheVariants as resyncs
use Rattle.model_mirror.specs.Shown.{MirrorShown}
use Rattle.model_mirror.specs.Steps.{ResyncStep}
use Rattle.model_mirror.specs.Standing.{MayBe}
use Rattle.ram_machine.specs.SectorBytes.{bytes_of_sector, is_sector_among}
use Rattle.ram_machine.specs.Register.{Value, Bytes}
use Rattle.ram_machine.proofs.SectorValues.{now_under, falls_under}
use Rattle.ram_machine.proofs.SectorNow.{now_there}
use Rattle.ram_machine.proofs.SectorBoth.{one_lost, other_lost}
use Rattle.ram_pair.specs.Told.{read_told, write_told, format_told, resync_told}
use Rattle.ram_pair.specs.PairLines.{Leads}
use Rattle.ram_mirrored.specs.MirrorRegister.{MirrorRegister, settled_at, or_later, has_none, emptied, written_before, OnRead, OnWrite, OnOther, OnFormat, OnResync}
use Rattle.ram_mirrored.proofs.MirrorSectors.{now_at, FallTo, Fits, Held, HeldBoth, MatchesMirror, Turned, match_led, shown_value, KnowsAll, by_one, by_other, fits_same, fits_off, found_some, found_none, fits_two, fall_more, fall_short, fall_one, unreached, reached, either, zeros_sector, is_among, is_beside, sector_among, has_sectors}

-- what a call leaves of what a mirror stood for that wrote nothing: the same; or its discs, where it was stopped
abbrev pub LeftBy : (stopped : Bool) → Standing → Standing → Type 0
LeftBy true s t = Off (candidates s) ≡ t
LeftBy false s t = s ≡ t

-- where a write went, the sectors are the disc's
abbrev pub LiesFor : (old : MirrorShown) (lba n : ℕ) (payload : List ℕ) → WriteOut → Type 0
LiesFor old lba n payload writes.NotFormatted = Unit {0}
LiesFor old lba n payload (writes.Range capacity) = Unit {0}
LiesFor old lba n payload writes.Off = Unit {0}
LiesFor old lba n payload _ = (disc : List ℕ) → MayBe old (On disc) → LiesIn disc lba n payload

module _ (at : ℕ) (old new : MirrorShown) (r : MirrorRegister) where
  -- from each thing that it may stand for before
  pub moved : (Steps : Standing → Standing → Type 0) → Leads old new Steps → (x : MirrorRegister)
      → ((lost : List ℕ) (s t : Standing) → MayBe old s → Steps s t → Fits lost at s r → Fits lost at t x) → HeldBoth at old r → HeldBoth at new x
  moved Steps leads x each both = record { one = go one_lost both.one; other = go other_lost both.other }
    where
      go : (lost : List ℕ) → Held lost at old r → Held lost at new x
      go lost held =
          let led = leads held.standing held.stands in
          record { standing = led.0; stands = led.1; fits = each lost held.standing led.0 held.stands led.2 held.fits }

  -- one of two registers, of which the second loses no sector
  pub moved_either : (Steps : Standing → Standing → Type 0) → Leads old new Steps → (x y : MirrorRegister) → KnowsAll y
      → ((lost : List ℕ) (s t : Standing) → MayBe old s → Steps s t → Fits lost at s r → Fits lost at t x ⊎ Fits lost at t y) → HeldBoth at old r → HeldBoth at new x ⊎ HeldBoth at new y
  moved_either Steps leads x y knows each both = join (go one_lost both.one) (go other_lost both.other)
    where
      go : (lost : List ℕ) → Held lost at old r → Held lost at new x ⊎ Held lost at new y
      go lost held =
          let led = leads held.standing held.stands in
          elim (each lost held.standing led.0 held.stands led.2 held.fits) [
            | inl a ↦ inl (record { standing = led.0; stands = led.1; fits = a })
            | inr b ↦ inr (record { standing = led.0; stands = led.1; fits = b })
          ]

      join : Held one_lost at new x ⊎ Held one_lost at new y → Held other_lost at new x ⊎ Held other_lost at new y → HeldBoth at new x ⊎ HeldBoth at new y
      join (inl a) (inl b) = inl (record { one = a; other = b })
      join (inr a) p = inr (by_one at new y knows a)
      join (inl a) (inr b) = inr (by_other at new y knows b)

  -- a call of a mirror that is off
  pub when_off : (Yes No : Type 0) → (b : Bool) → b ≡ false → MatchBool b Yes No → No
  when_off Yes No true is p = absurd (let w = is in cc)
  when_off Yes No false is p = p

  pub unchanged : new ≡ old → MatchesMirror at old r → MatchesMirror at new r
  unchanged is was = subst (λ (x : MirrorShown). MatchesMirror at x r) (sym is) was

  module _ (led : r.led ≡ true) (known : new.who.known ≡ true) (both : HeldBoth at old r) where
    -- to a register that it is known of who leads
    pub to : (Rule : MirrorRegister → Type 0) (x : MirrorRegister) → Rule x → x.led ≡ r.led → HeldBoth at new x → Turned at new Rule
    to Rule x rule same held = record { after = x; rule = rule; matches = match_led at new x known (same ∙ led) held }

    -- ---- a read
    module _ (lba n : ℕ) (bytes : List ℕ) where
      good_left : (s t : Standing) → ReadStep (λ x. x ≡ t) s lba n bytes reads.Good → s ≡ t
      good_left (On disc) t step = step.1
      good_left (Off discs) t step = absurd step

      bare_left : (s t : Standing) → ReadStep (λ x. x ≡ t) s lba n bytes reads.NotFormatted → s ≡ t
      bare_left (On disc) t step = step.1
      bare_left (Off discs) t step = absurd step

      range_left : (capacity : ℕ) (s t : Standing) → ReadStep (λ x. x ≡ t) s lba n bytes (reads.Range capacity) → s ≡ t
      range_left capacity (On disc) t step = step
      range_left capacity (Off discs) t step = absurd step

      unread_left : (named block : ℕ) (s t : Standing) → ReadStep (λ x. x ≡ t) s lba n bytes (reads.Unread named block) → s ≡ t
      unread_left named block (On disc) t step = step
      unread_left named block (Off discs) t step = absurd step

      cut_left : (s t : Standing) → ReadStep (λ x. x ≡ t) s lba n bytes reads.Cut → Off (candidates s) ≡ t
      cut_left (On disc) t step = step
      cut_left (Off discs) t step = absurd step

      fault_left : (s t : Standing) → ReadStep (λ x. x ≡ t) s lba n bytes reads.Fault → Off (candidates s) ≡ t
      fault_left (On disc) t step = step
      fault_left (Off discs) t step = absurd step

      off_left : (s t : Standing) → ReadStep (λ x. x ≡ t) s lba n bytes reads.Off → s ≡ t
      off_left (On disc) t step = absurd step
      off_left (Off discs) t step = step

      shown_in : (whole : length bytes ≡ 2048 * n) → lba ≤ at → at < lba + n → (s t : Standing) → ReadStep (λ x. x ≡ t) s lba n bytes reads.Good → now_at at s ≡ Some (bytes_of_sector lba bytes at)
      shown_in whole from past (On disc) t step =
          let has = has_sectors disc lba n (omega (arith, from, past)) (ap length (sym step.0) ∙ whole) in
          now_there at disc (omega (arith, from, past, has))
          ∙ ap Some (sym (sector_among disc lba n at from past) ∙ ap (λ (b : List ℕ). bytes_of_sector lba b at) (sym step.0))
      shown_in whole from past (Off discs) t step = absurd step

      pub read_turn : (out : ReadOut) → length bytes ≡ 2048 * n → Leads old new (λ s t. ReadStep (λ x. x ≡ t) s lba n bytes out) → Turned at new (λ after. OnRead at r lba n bytes (read_told lba out) after)
      read_turn reads.Good whole leads =
          to (λ after. OnRead at r lba n bytes (read_told lba reads.Good) after) r (refl, record { whole = whole; shown = shown }, refl) refl
          (moved (λ s t. ReadStep (λ x. x ≡ t) s lba n bytes reads.Good) leads r (λ lost s t may step was. fits_same lost at s t r (good_left s t step) was) both)
        where
          in_one : (lost : List ℕ) → Held lost at old r → is_sector_among lba n at ≡ true → now_under lost r.now ≡ Some (bytes_of_sector lba bytes at)
          in_one lost held among =
              let inside = is_among lba n at among in
              let step = leads held.standing held.stands in
              held.fits.now ∙ shown_in whole inside.0 inside.1 held.standing step.0 step.2

          shown : is_sector_among lba n at ≡ true → r.now ≡ Some (Bytes (bytes_of_sector lba bytes at))
          shown among = shown_value r.now (bytes_of_sector lba bytes at) (in_one one_lost both.one among) (in_one other_lost both.other among)
      read_turn reads.NotFormatted whole leads = to (λ after. after ≡ r) r refl refl (moved (λ s t. ReadStep (λ x. x ≡ t) s lba n bytes reads.NotFormatted) leads r (λ lost s t may step was. fits_same lost at s t r (bare_left s t step) was) both)
      read_turn (reads.Range capacity) whole leads = to (λ after. after ≡ r) r refl refl (moved (λ s t. ReadStep (λ x. x ≡ t) s lba n bytes (reads.Range capacity)) leads r (λ lost s t may step was. fits_same lost at s t r (range_left capacity s t step) was) both)
      read_turn (reads.Unread named block) whole leads = to (λ after. after ≡ r) r refl refl (moved (λ s t. ReadStep (λ x. x ≡ t) s lba n bytes (reads.Unread named block)) leads r (λ lost s t may step was. fits_same lost at s t r (unread_left named block s t step) was) both)
      read_turn reads.Cut whole leads = to (λ after. after ≡ has_none r) (has_none r) refl refl (moved (λ s t. ReadStep (λ x. x ≡ t) s lba n bytes reads.Cut) leads (has_none r) (λ lost s t may step was. fits_off lost at s t r (cut_left s t step) was) both)
      read_turn reads.Off whole leads = to (λ after. after ≡ r) r refl refl (moved (λ s t. ReadStep (λ x. x ≡ t) s lba n bytes reads.Off) leads r (λ lost s t may step was. fits_same lost at s t r (off_left s t step) was) both)
      read_turn reads.Fault whole leads = to (λ after. after ≡ has_none r) (has_none r) refl refl (moved (λ s t. ReadStep (λ x. x ≡ t) s lba n bytes reads.Fault) leads (has_none r) (λ lost s t may step was. fits_off lost at s t r (fault_left s t step) was) both)

    -- ---- a resynchronisation
    pub resync_turn : (out : Resync) → Leads old new (λ s t. ResyncStep (λ x. x ≡ t) s out) → Turned at new (λ after. OnResync r (resync_told out) after)
    resync_turn (resyncs.Done count) leads = to (λ after. after ≡ r) r refl refl (moved (λ s t. ResyncStep (λ x. x ≡ t) s (resyncs.Done count)) leads r (λ lost s t may step was. fits_same lost at s t r (done s t step) was) both)
      where
        done : (s t : Standing) → ResyncStep (λ x. x ≡ t) s (resyncs.Done count) → s ≡ t
        done (On disc) t step = step
        done (Off discs) t step = absurd step
    resync_turn resyncs.NotFormatted leads = to (λ after. after ≡ r) r refl refl (moved (λ s t. ResyncStep (λ x. x ≡ t) s resyncs.NotFormatted) leads r (λ lost s t may step was. fits_same lost at s t r (bare s t step) was) both)
      where
        bare : (s t : Standing) → ResyncStep (λ x. x ≡ t) s resyncs.NotFormatted → s ≡ t
        bare (On disc) t step = step.1
        bare (Off discs) t step = absurd step
    resync_turn resyncs.Cut leads = to (λ after. after ≡ has_none r) (has_none r) refl refl (moved (λ s t. ResyncStep (λ x. x ≡ t) s resyncs.Cut) leads (has_none r) (λ lost s t may step was. fits_off lost at s t r (cut s t step) was) both)
      where
        cut : (s t : Standing) → ResyncStep (λ x. x ≡ t) s resyncs.Cut → Off (candidates s) ≡ t
        cut (On disc) t step = step
        cut (Off discs) t step = absurd step
    resync_turn resyncs.Off leads = to (λ after. after ≡ r) r refl refl (moved (λ s t. ResyncStep (λ x. x ≡ t) s resyncs.Off) leads r (λ lost s t may step was. fits_same lost at s t r (off s t step) was) both)
      where
        off : (s t : Standing) → ResyncStep (λ x. x ≡ t) s resyncs.Off → s ≡ t
        off (On disc) t step = absurd step
        off (Off discs) t step = step
    resync_turn resyncs.Fault leads = to (λ after. after ≡ has_none r) (has_none r) refl refl (moved (λ s t. ResyncStep (λ x. x ≡ t) s resyncs.Fault) leads (has_none r) (λ lost s t may step was. fits_off lost at s t r (cut s t step) was) both)
      where
        cut : (s t : Standing) → ResyncStep (λ x. x ≡ t) s resyncs.Fault → Off (candidates s) ≡ t
        cut (On disc) t step = step
        cut (Off discs) t step = absurd step

    -- ---- a format
    zeros_fit : (lost : List ℕ) (shape : Shape) → 2048 * (at + 1) ≤ length (zero_disc shape) → Fits lost at (On (zero_disc shape)) (settled_at r (Bytes (zeros 2048)))
    zeros_fit lost shape inside =
        found_some lost at (zero_disc shape) r (Bytes (zeros 2048)) inside
        (sym (zeros_sector at (32768 * count_of shape 0) (let long = length-zeros (32768 * count_of shape 0) in omega (arith, inside, long))))

    zeros_fall : (lost : List ℕ) (shape : Shape) → FallTo at (zeros 2048 ∷ falls_under lost r.falls) (zero_disc shape ∷ [])
    zeros_fall lost shape = elim (cases_lt (length (zero_disc shape)) (2048 * (at + 1))) [
      | inl past ↦ fall_short lost at (zeros 2048 ∷ falls_under lost r.falls) (zero_disc shape) past
      | inr inside ↦ fall_one lost at (zeros 2048 ∷ falls_under lost r.falls) (zero_disc shape)
          (subst (Contains (zeros 2048 ∷ falls_under lost r.falls)) (sym (zeros_sector at (32768 * count_of shape 0) (let long = length-zeros (32768 * count_of shape 0) in omega (arith, inside, long))))
          (Contains-first (zeros 2048) (falls_under lost r.falls)))
    ]

    abbrev FormatTo : FormatOut → Standing → Standing → Type 0
    FormatTo out s t = FormatStep old.lead new.lead (λ x. x ≡ t) s (kinds.Full true) out

    short_zeros : 0 < 2048 * (at + 1)
    short_zeros = omega arith

    good_format : Leads old new (FormatTo formats.Good) → Turned at new (λ after. (after ≡ settled_at r (Bytes (zeros 2048))) ⊎ (after ≡ emptied r))
    good_format leads = elim (cases_lt (length (zero_disc old.lead.shape)) (2048 * (at + 1))) [
      | inl past ↦ to (λ after. (after ≡ settled_at r (Bytes (zeros 2048))) ⊎ (after ≡ emptied r)) (emptied r) (inr refl) refl (moved (FormatTo formats.Good) leads (emptied r) (none past) both)
      | inr inside ↦ to (λ after. (after ≡ settled_at r (Bytes (zeros 2048))) ⊎ (after ≡ emptied r)) (settled_at r (Bytes (zeros 2048))) (inl refl) refl (moved (FormatTo formats.Good) leads (settled_at r (Bytes (zeros 2048))) (some inside) both)
    ]
      where
        none : length (zero_disc old.lead.shape) < 2048 * (at + 1) → (lost : List ℕ) (s t : Standing) → MayBe old s → FormatTo formats.Good s t → Fits lost at s r → Fits lost at t (emptied r)
        none past lost (On disc) t may step was = subst (λ (x : Standing). Fits lost at x (emptied r)) step (found_none lost at (zero_disc old.lead.shape) r past)
        none past lost (Off discs) t may step was = absurd step

        some : 2048 * (at + 1) ≤ length (zero_disc old.lead.shape) → (lost : List ℕ) (s t : Standing) → MayBe old s → FormatTo formats.Good s t → Fits lost at s r → Fits lost at t (settled_at r (Bytes (zeros 2048)))
        some inside lost (On disc) t may step was = subst (λ (x : Standing). Fits lost at x (settled_at r (Bytes (zeros 2048)))) step (zeros_fit lost old.lead.shape inside)
        some inside lost (Off discs) t may step was = absurd step

    -- it may have come so far or not
    cut_fits : (lost : List ℕ) (disc : List ℕ) (t : Standing) → Fits lost at (On disc) r → ((Off (disc ∷ [] ∷ []) ≡ t) ⊎ (Off ([] ∷ []) ≡ t) ⊎ (Off ([] ∷ zero_disc old.lead.shape ∷ []) ≡ t)) → Fits lost at t (has_none (or_later r (Bytes (zeros 2048))))
    cut_fits lost disc t was (inl is) = subst (λ (x : Standing). Fits lost at x (has_none (or_later r (Bytes (zeros 2048))))) is
        (fits_two lost at disc [] (or_later r (Bytes (zeros 2048))) (fall_more lost at (Bytes (zeros 2048)) r.falls (disc ∷ []) was.falls) (fall_short lost at (zeros 2048 ∷ falls_under lost r.falls) [] short_zeros))
    cut_fits lost disc t was (inr (inl is)) = subst (λ (x : Standing). Fits lost at x (has_none (or_later r (Bytes (zeros 2048))))) is
        (record { now = refl; falls = fall_short lost at (zeros 2048 ∷ falls_under lost r.falls) [] short_zeros })
    cut_fits lost disc t was (inr (inr is)) = subst (λ (x : Standing). Fits lost at x (has_none (or_later r (Bytes (zeros 2048))))) is
        (fits_two lost at [] (zero_disc old.lead.shape) (or_later r (Bytes (zeros 2048))) (fall_short lost at (zeros 2048 ∷ falls_under lost r.falls) [] short_zeros) (zeros_fall lost old.lead.shape))

    pub format_turn : (out : FormatOut) → Leads old new (FormatTo out) → Turned at new (λ after. OnFormat r (format_told out) after)
    format_turn formats.Good leads = good_format leads
    format_turn (formats.TooMany found) leads = to (λ after. after ≡ emptied r) (emptied r) refl refl (moved (FormatTo (formats.TooMany found)) leads (emptied r) each both)
      where
        each : (lost : List ℕ) (s t : Standing) → MayBe old s → FormatTo (formats.TooMany found) s t → Fits lost at s r → Fits lost at t (emptied r)
        each lost (On disc) t may step was = subst (λ (x : Standing). Fits lost at x (emptied r)) step (found_none lost at [] r short_zeros)
        each lost (Off discs) t may step was = absurd step
    format_turn (formats.NoUpdate counter) leads = elim (moved_either (FormatTo (formats.NoUpdate counter)) leads r (emptied r) (record { now = refl; falls = refl }) each both) [
      | inl kept ↦ to (λ after. (after ≡ r) ⊎ (after ≡ emptied r)) r (inl refl) refl kept
      | inr none ↦ to (λ after. (after ≡ r) ⊎ (after ≡ emptied r)) (emptied r) (inr refl) refl none
    ]
      where
        each : (lost : List ℕ) (s t : Standing) → MayBe old s → FormatTo (formats.NoUpdate counter) s t → Fits lost at s r → Fits lost at t r ⊎ Fits lost at t (emptied r)
        each lost (On disc) t may (inl kept) was = inl (fits_same lost at (On disc) t r kept.1 was)
        each lost (On disc) t may (inr none) was = inr (subst (λ (x : Standing). Fits lost at x (emptied r)) none.1 (found_none lost at [] r short_zeros))
        each lost (Off discs) t may step was = absurd step
    format_turn formats.Cut leads = to (λ after. after ≡ has_none (or_later r (Bytes (zeros 2048)))) (has_none (or_later r (Bytes (zeros 2048)))) refl refl (moved (FormatTo formats.Cut) leads (has_none (or_later r (Bytes (zeros 2048)))) each both)
      where
        each : (lost : List ℕ) (s t : Standing) → MayBe old s → FormatTo formats.Cut s t → Fits lost at s r → Fits lost at t (has_none (or_later r (Bytes (zeros 2048))))
        each lost (On disc) t may step was = cut_fits lost disc t was step
        each lost (Off discs) t may step was = absurd step
    format_turn formats.Off leads = to (λ after. after ≡ r) r refl refl (moved (FormatTo formats.Off) leads r each both)
      where
        each : (lost : List ℕ) (s t : Standing) → MayBe old s → FormatTo formats.Off s t → Fits lost at s r → Fits lost at t r
        each lost (On disc) t may step was = absurd step
        each lost (Off discs) t may step was = fits_same lost at (Off discs) t r step was
    format_turn formats.Fault leads = to (λ after. after ≡ has_none (or_later r (Bytes (zeros 2048)))) (has_none (or_later r (Bytes (zeros 2048)))) refl refl (moved (FormatTo formats.Fault) leads (has_none (or_later r (Bytes (zeros 2048)))) each both)
      where
        each : (lost : List ℕ) (s t : Standing) → MayBe old s → FormatTo formats.Fault s t → Fits lost at s r → Fits lost at t (has_none (or_later r (Bytes (zeros 2048))))
        each lost (On disc) t may step was = cut_fits lost disc t was step
        each lost (Off discs) t may step was = absurd step

    -- ---- a write
    module _ (lba n : ℕ) (payload : List ℕ) where
      abbrev new_value : Value
      new_value = Bytes (bytes_of_sector lba payload at)

      abbrev WriteTo : WriteOut → Standing → Standing → Type 0
      WriteTo out s t = WriteStep new.lead (λ x. x ≡ t) s lba n payload out

      -- what leaves the sector
      write_bare : (s t : Standing) → WriteTo writes.NotFormatted s t → s ≡ t
      write_bare (On disc) t step = step.1
      write_bare (Off discs) t step = absurd step

      write_range : (capacity : ℕ) (s t : Standing) → WriteTo (writes.Range capacity) s t → s ≡ t
      write_range capacity (On disc) t step = step
      write_range capacity (Off discs) t step = absurd step

      write_off : (s t : Standing) → WriteTo writes.Off s t → s ≡ t
      write_off (On disc) t step = absurd step
      write_off (Off discs) t step = step

      -- ---- of other sectors
      module _ (beside : (at < lba) ⊎ (lba + n ≤ at)) where
        aside : (b : ℕ) → (at < lba) ⊎ (lba + n ≤ at) ⊎ (16 * b ≤ at)
        aside b = elim beside [ inl before ↦ inl before | inr past ↦ inr (inl past) ]

        beside_at : (lost : List ℕ) (disc : List ℕ) (t : Standing) (b : ℕ) → LiesIn disc lba n payload → Fits lost at (On disc) r → On (replaced disc lba payload b) ≡ t → Fits lost at t r
        beside_at lost disc t b lies was is = fits_same lost at (On (replaced disc lba payload b)) t r is (unreached lost at lba n payload disc r lies was b (aside b))

        beside_cut : (lost : List ℕ) (disc : List ℕ) (t : Standing) (b c : ℕ) → LiesIn disc lba n payload → Fits lost at (On disc) r → Off (replaced disc lba payload b ∷ replaced disc lba payload c ∷ []) ≡ t → Fits lost at t (has_none r)
        beside_cut lost disc t b c lies was is = subst (λ (x : Standing). Fits lost at x (has_none r)) is
            (fits_two lost at (replaced disc lba payload b) (replaced disc lba payload c) r (unreached lost at lba n payload disc r lies was b (aside b)).falls (unreached lost at lba n payload disc r lies was c (aside c)).falls)

        beside_turn : (out : WriteOut) → LiesFor old lba n payload out → Leads old new (WriteTo out) → Turned at new (λ after. OnOther r (write_told out) after)
        beside_turn writes.Good lies leads = to (λ after. after ≡ r) r refl refl (moved (WriteTo writes.Good) leads r each both)
          where
            each : (lost : List ℕ) (s t : Standing) → MayBe old s → WriteTo writes.Good s t → Fits lost at s r → Fits lost at t r
            each lost (On disc) t may step was = beside_at lost disc t (block_with lba + blocks_covered lba n) (lies disc may) was step
            each lost (Off discs) t may step was = absurd step
        beside_turn writes.NotFormatted lies leads = to (λ after. after ≡ r) r refl refl (moved (WriteTo writes.NotFormatted) leads r (λ lost s t may step was. fits_same lost at s t r (write_bare s t step) was) both)
        beside_turn (writes.Range capacity) lies leads = to (λ after. after ≡ r) r refl refl (moved (WriteTo (writes.Range capacity)) leads r (λ lost s t may step was. fits_same lost at s t r (write_range capacity s t step) was) both)
        beside_turn (writes.Unread named block) lies leads = to (λ after. after ≡ r) r refl refl (moved (WriteTo (writes.Unread named block)) leads r each both)
          where
            each : (lost : List ℕ) (s t : Standing) → MayBe old s → WriteTo (writes.Unread named block) s t → Fits lost at s r → Fits lost at t r
            each lost (On disc) t may step was = beside_at lost disc t (block_with named) (lies disc may) was step
            each lost (Off discs) t may step was = absurd step
        beside_turn (writes.NoSpare named) lies leads = to (λ after. after ≡ r) r refl refl (moved (WriteTo (writes.NoSpare named)) leads r each both)
          where
            each : (lost : List ℕ) (s t : Standing) → MayBe old s → WriteTo (writes.NoSpare named) s t → Fits lost at s r → Fits lost at t r
            each lost (On disc) t may step was = beside_at lost disc t (block_with named) (lies disc may) was step
            each lost (Off discs) t may step was = absurd step
        beside_turn (writes.NoUpdate counter) lies leads = to (λ after. after ≡ r) r refl refl (moved (WriteTo (writes.NoUpdate counter)) leads r each both)
          where
            each : (lost : List ℕ) (s t : Standing) → MayBe old s → WriteTo (writes.NoUpdate counter) s t → Fits lost at s r → Fits lost at t r
            each lost (On disc) t may step was = beside_at lost disc t (block_with lba + step.block) (lies disc may) was step.before
            each lost (Off discs) t may step was = absurd step
        beside_turn writes.Cut lies leads = to (λ after. after ≡ has_none r) (has_none r) refl refl (moved (WriteTo writes.Cut) leads (has_none r) each both)
          where
            each : (lost : List ℕ) (s t : Standing) → MayBe old s → WriteTo writes.Cut s t → Fits lost at s r → Fits lost at t (has_none r)
            each lost (On disc) t may step was = beside_cut lost disc t (block_with lba + step.block) (block_with lba + (step.block + 1)) (lies disc may) was step.either
            each lost (Off discs) t may step was = absurd step
        beside_turn writes.Off lies leads = to (λ after. after ≡ r) r refl refl (moved (WriteTo writes.Off) leads r (λ lost s t may step was. fits_same lost at s t r (write_off s t step) was) both)
        beside_turn writes.Fault lies leads = to (λ after. after ≡ has_none r) (has_none r) refl refl (moved (WriteTo writes.Fault) leads (has_none r) each both)
          where
            each : (lost : List ℕ) (s t : Standing) → MayBe old s → WriteTo writes.Fault s t → Fits lost at s r → Fits lost at t (has_none r)
            each lost (On disc) t may step was = beside_cut lost disc t (block_with lba + step.block) (block_with lba + (step.block + 1)) (lies disc may) was step.either
            each lost (Off discs) t may step was = absurd step

      -- ---- of this one
      module _ (from : lba ≤ at) (past : at < lba + n) where
        end_behind : at < 16 * (block_with lba + blocks_covered lba n)
        end_behind = let all = covered_all lba n (omega (arith, from, past)) in omega (arith, past, all)

        -- the blocks before this one were written
        up_to : (lost : List ℕ) (disc : List ℕ) (t : Standing) (b : ℕ) → LiesIn disc lba n payload → Fits lost at (On disc) r → On (replaced disc lba payload b) ≡ t → Fits lost at t (if nat_lt at (16 * b) then settled_at r new_value else r)
        up_to lost disc t b lies was is = elim (cases_lt at (16 * b)) [
          | inl before ↦ subst (λ (c : Bool). Fits lost at t (if c then settled_at r new_value else r)) (sym (lt-ltb at (16 * b) before)) (fits_as (settled_at r new_value) (reached lost at lba n payload disc r lies was from past b before))
          | inr behind ↦ subst (λ (c : Bool). Fits lost at t (if c then settled_at r new_value else r)) (sym (le-ltb at (16 * b) behind)) (fits_as r (unreached lost at lba n payload disc r lies was b (inr (inr behind))))
        ]
          where
            fits_as : (x : MirrorRegister) → Fits lost at (On (replaced disc lba payload b)) x → Fits lost at t x
            fits_as x fits = fits_same lost at (On (replaced disc lba payload b)) t x is fits

        old_or_new : (lost : List ℕ) (disc : List ℕ) (t : Standing) (b : ℕ) → LiesIn disc lba n payload → Fits lost at (On disc) r → On (replaced disc lba payload b) ≡ t → Fits lost at t r ⊎ Fits lost at t (settled_at r new_value)
        old_or_new lost disc t b lies was is = elim (cases_lt at (16 * b)) [
          | inl before ↦ inr (fits_same lost at (On (replaced disc lba payload b)) t (settled_at r new_value) is (reached lost at lba n payload disc r lies was from past b before))
          | inr behind ↦ inl (fits_same lost at (On (replaced disc lba payload b)) t r is (unreached lost at lba n payload disc r lies was b (inr (inr behind))))
        ]

        cut_either : (lost : List ℕ) (disc : List ℕ) (t : Standing) (b c : ℕ) → LiesIn disc lba n payload → Fits lost at (On disc) r → Off (replaced disc lba payload b ∷ replaced disc lba payload c ∷ []) ≡ t → Fits lost at t (has_none (or_later r new_value))
        cut_either lost disc t b c lies was is = subst (λ (x : Standing). Fits lost at x (has_none (or_later r new_value))) is
            (fits_two lost at (replaced disc lba payload b) (replaced disc lba payload c) (or_later r new_value) (either lost at lba n payload disc r lies was from past b) (either lost at lba n payload disc r lies was from past c))

        same_led : (c : Bool) → (if c then settled_at r new_value else r).led ≡ r.led
        same_led true = refl
        same_led false = refl

        write_turn : (out : WriteOut) → LiesFor old lba n payload out → Leads old new (WriteTo out) → Turned at new (λ after. OnWrite at r (bytes_of_sector lba payload at) (write_told out) after)
        write_turn writes.Good lies leads = to (λ after. after ≡ settled_at r new_value) (settled_at r new_value) refl refl (moved (WriteTo writes.Good) leads (settled_at r new_value) each both)
          where
            each : (lost : List ℕ) (s t : Standing) → MayBe old s → WriteTo writes.Good s t → Fits lost at s r → Fits lost at t (settled_at r new_value)
            each lost (On disc) t may step was = fits_same lost at (On (replaced disc lba payload (block_with lba + blocks_covered lba n))) t (settled_at r new_value) step
                (reached lost at lba n payload disc r (lies disc may) was from past (block_with lba + blocks_covered lba n) end_behind)
            each lost (Off discs) t may step was = absurd step
        write_turn writes.NotFormatted lies leads = to (λ after. after ≡ r) r refl refl (moved (WriteTo writes.NotFormatted) leads r (λ lost s t may step was. fits_same lost at s t r (write_bare s t step) was) both)
        write_turn (writes.Range capacity) lies leads = to (λ after. after ≡ r) r refl refl (moved (WriteTo (writes.Range capacity)) leads r (λ lost s t may step was. fits_same lost at s t r (write_range capacity s t step) was) both)
        write_turn (writes.Unread named block) lies leads =
            to (λ after. after ≡ written_before named at r new_value) (written_before named at r new_value) refl (same_led (nat_lt at (16 * block_with named))) (moved (WriteTo (writes.Unread named block)) leads (written_before named at r new_value) each both)
          where
            each : (lost : List ℕ) (s t : Standing) → MayBe old s → WriteTo (writes.Unread named block) s t → Fits lost at s r → Fits lost at t (written_before named at r new_value)
            each lost (On disc) t may step was = up_to lost disc t (block_with named) (lies disc may) was step
            each lost (Off discs) t may step was = absurd step
        write_turn (writes.NoSpare named) lies leads =
            to (λ after. after ≡ written_before named at r new_value) (written_before named at r new_value) refl (same_led (nat_lt at (16 * block_with named))) (moved (WriteTo (writes.NoSpare named)) leads (written_before named at r new_value) each both)
          where
            each : (lost : List ℕ) (s t : Standing) → MayBe old s → WriteTo (writes.NoSpare named) s t → Fits lost at s r → Fits lost at t (written_before named at r new_value)
            each lost (On disc) t may step was = up_to lost disc t (block_with named) (lies disc may) was step
            each lost (Off discs) t may step was = absurd step
        write_turn (writes.NoUpdate counter) lies leads = elim (moved_either (WriteTo (writes.NoUpdate counter)) leads r (settled_at r new_value) (record { now = refl; falls = refl }) each both) [
          | inl kept ↦ to (λ after. (after ≡ r) ⊎ (after ≡ settled_at r new_value)) r (inl refl) refl kept
          | inr done ↦ to (λ after. (after ≡ r) ⊎ (after ≡ settled_at r new_value)) (settled_at r new_value) (inr refl) refl done
        ]
          where
            each : (lost : List ℕ) (s t : Standing) → MayBe old s → WriteTo (writes.NoUpdate counter) s t → Fits lost at s r → Fits lost at t r ⊎ Fits lost at t (settled_at r new_value)
            each lost (On disc) t may step was = old_or_new lost disc t (block_with lba + step.block) (lies disc may) was step.before
            each lost (Off discs) t may step was = absurd step
        write_turn writes.Cut lies leads = to (λ after. after ≡ has_none (or_later r new_value)) (has_none (or_later r new_value)) refl refl (moved (WriteTo writes.Cut) leads (has_none (or_later r new_value)) each both)
          where
            each : (lost : List ℕ) (s t : Standing) → MayBe old s → WriteTo writes.Cut s t → Fits lost at s r → Fits lost at t (has_none (or_later r new_value))
            each lost (On disc) t may step was = cut_either lost disc t (block_with lba + step.block) (block_with lba + (step.block + 1)) (lies disc may) was step.either
            each lost (Off discs) t may step was = absurd step
        write_turn writes.Off lies leads = to (λ after. after ≡ r) r refl refl (moved (WriteTo writes.Off) leads r (λ lost s t may step was. fits_same lost at s t r (write_off s t step) was) both)
        write_turn writes.Fault lies leads = to (λ after. after ≡ has_none (or_later r new_value)) (has_none (or_later r new_value)) refl refl (moved (WriteTo writes.Fault) leads (has_none (or_later r new_value)) each both)
          where
            each : (lost : List ℕ) (s t : Standing) → MayBe old s → WriteTo writes.Fault s t → Fits lost at s r → Fits lost at t (has_none (or_later r new_value))
            each lost (On disc) t may step was = cut_either lost disc t (block_with lba + step.block) (block_with lba + (step.block + 1)) (lies disc may) was step.either
            each lost (Off discs) t may step was = absurd step

      pub any_write : (out : WriteOut) → LiesFor old lba n payload out → Leads old new (WriteTo out)
          → Turned at new (λ after. MatchBool (is_sector_among lba n at) (OnWrite at r (bytes_of_sector lba payload at) (write_told out) after) (OnOther r (write_told out) after))
      any_write out lies leads = go (is_sector_among lba n at) refl
        where
          go : (b : Bool) → is_sector_among lba n at ≡ b → Turned at new (λ after. MatchBool b (OnWrite at r (bytes_of_sector lba payload at) (write_told out) after) (OnOther r (write_told out) after))
          go true is = let among = is_among lba n at is in write_turn among.0 among.1 out lies leads
          go false is = beside_turn (is_beside lba n at is) out lies leads
