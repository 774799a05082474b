-- A resynchronisation, block after block, over plain values.
use Rattle.std.proofs.Common.{◌≡◌, ◌≢◌, ℕ, suc, ◌+◌, ◌*◌, ◌<◌, Bool, true, false, List, refl, sym, ap, ◌∙◌, subst, arith}
use Rattle.std.specs.Prelude.{MatchBool, IsSome}
use Rattle.model_sectors.specs.Discs.{Standing, On, Off}
use Rattle.model_sectors.specs.declared.ReadOut.{ReadOut}
use Rattle.model_sectors.specs.declared.ReadOut.TheVariants as reads
use Rattle.model_drive.specs.declared.WriteOut.{WriteOut}
use Rattle.model_drive.specs.declared.WriteOut.TheVariants as writes
use Rattle.model_drive.specs.Parts.{IsInRange}
use Rattle.model_drive.specs.Reads.{VerifyStep}
use Rattle.model_drive.specs.Shown.{IsOn, block_count}
use Rattle.model_drive.specs.Sound.{IsSound}
use Rattle.model_drive.specs.Tells.{HasDisc}
use Rattle.model_mirror.specs.Table.{is_apart}
use Rattle.model_mirror.specs.Shown.{MirrorShown, led_by, mirror_turned_off}
use Rattle.model_mirror.proofs.Somehow.{led_off}
use Rattle.model_mirror.specs.Standing.{MirrorStands}
use Rattle.model_mirror.specs.Reads.{LeadReads, read_is_stopped}
use Rattle.model_mirror.specs.Writes.{WritesSide, write_is_stopped, after_lone_write}
use Rattle.model_mirror.proofs.Mends.{write_keeps, mended_good}
use Rattle.model_mirror.specs.declared.Resync.TheVariants as resyncs
use Rattle.model_mirror.specs.Steps.{ResyncStep}
use Rattle.model_mirror.specs.Whole.{CopyEnds, CopyGoesOn, CopiesBlock, CopyStopped, MendsBlock, MendsLack, MendEnds, MendGoesOn, ResyncsBlock, ResyncsBlocks, ResyncStopped, once_written}
use Rattle.ram_mirror.specs.Sides.{CopiesOrStops}
use Rattle.ram_mirror.specs.Resyncs.{PassesBlock, ThroughAll}

-- The first k blocks were gone through.
pub record HasPassed (start now : MirrorShown) (k : ℕ) (lead other lead' other' : Standing → Type 0) : Type 0 where
  pub through : ResyncsBlocks start now k
  pub on : now.on ≡ true
  pub disc : HasDisc now.lead
  pub same_count : block_count now.lead ≡ block_count start.lead
  pub stands : (disc : List ℕ) → MirrorStands start lead other (On disc) → MirrorStands now lead' other' (On disc)

pub passed_none : (start : MirrorShown) (lead other : Standing → Type 0) → start.on ≡ true → HasDisc start.lead → HasPassed start start 0 lead other lead other
passed_none start lead other on disc = record { through = refl; on = on; disc = disc; same_count = refl; stands = λ d so. so }

-- what a block that was passed keeps of the mirror
record Keeps (old new : MirrorShown) : Type 0 where
  pub on : new.on ≡ old.on
  pub disc : HasDisc new.lead
  pub same_count : block_count new.lead ≡ block_count old.lead

-- the answer of the other side leaves the lead and whether the mirror is on
ends_leave : (mid new : MirrorShown) (i : ℕ) (told : WriteOut) → CopyEnds mid new i told → (new.on ≡ mid.on) × (new.lead ≡ mid.lead)
ends_leave mid new i writes.Good ends = (ap (λ (s : MirrorShown). s.on) ends.0, ap (λ (s : MirrorShown). s.lead) ends.0)
ends_leave mid new i (writes.Unread named block) ends = (ap (λ (s : MirrorShown). s.on) ends, ap (λ (s : MirrorShown). s.lead) ends)
ends_leave mid new i (writes.NoSpare named) ends = (ap (λ (s : MirrorShown). s.on) ends, ap (λ (s : MirrorShown). s.lead) ends)
ends_leave mid new i (writes.NoUpdate counter) ends = (ap (λ (s : MirrorShown). s.on) ends, ap (λ (s : MirrorShown). s.lead) ends)
ends_leave mid new i writes.NotFormatted ends = (ap (λ (s : MirrorShown). s.on) ends, ap (λ (s : MirrorShown). s.lead) ends)
ends_leave mid new i (writes.Range known) ends = (ap (λ (s : MirrorShown). s.on) ends, ap (λ (s : MirrorShown). s.lead) ends)
ends_leave mid new i writes.Cut ends = (ap (λ (s : MirrorShown). s.on) ends, ap (λ (s : MirrorShown). s.lead) ends)
ends_leave mid new i writes.Off ends = (ap (λ (s : MirrorShown). s.on) ends, ap (λ (s : MirrorShown). s.lead) ends)
ends_leave mid new i writes.Fault ends = (ap (λ (s : MirrorShown). s.on) ends, ap (λ (s : MirrorShown). s.lead) ends)

module _ (old mid new : MirrorShown) (i : ℕ) (disc : HasDisc old.lead) where
  counted : mid.lead.shape ≡ old.lead.shape → mid.lead.lists ≡ old.lead.lists → block_count mid.lead ≡ block_count old.lead
  counted same_shape same = rw (same_shape, same) refl

  copied_keeps : (out : ReadOut) → LeadReads old mid (16 * i) 16 out → CopyGoesOn mid new i out → Keeps old new
  copied_keeps reads.Good (r, is) copy =
      let left = ends_leave mid new i copy.told copy.ends in
      record {
        on = left.0 ∙ ap (λ (s : MirrorShown). s.on) is;
        disc = subst HasDisc (sym left.1) (r.cause.ends.is_on, subst (λ l. IsSome l) (sym r.cause.keeps.same_lists) disc.1);
        same_count = ap block_count left.1 ∙ counted r.leaves.same_shape r.cause.keeps.same_lists;
      }
  copied_keeps (reads.Unread named home) (r, is) same = record {
    on = ap (λ (s : MirrorShown). s.on) (same ∙ is);
    disc = subst (λ (s : MirrorShown). HasDisc s.lead) (sym same) (r.cause.ends.is_on, subst (λ l. IsSome l) (sym r.cause.keeps.same_lists) disc.1);
    same_count = ap (λ (s : MirrorShown). block_count s.lead) same ∙ counted r.leaves.same_shape r.cause.keeps.same_lists;
  }
  copied_keeps reads.NotFormatted r none = absurd none
  copied_keeps (reads.Range known) r none = absurd none
  copied_keeps reads.Cut r none = absurd none
  copied_keeps reads.Off r none = absurd none
  copied_keeps reads.Fault r none = absurd none

-- a block that is not apart was read from the lead, and mended there, or could not be
module _ (old new : MirrorShown) (i : ℕ) (disc : HasDisc old.lead) where
  -- by the writing back to the lead
  back_keeps : (late : MirrorShown) → HasDisc late.lead → IsSound late.lead → (told : WriteOut) → write_is_stopped told ≡ false → WritesSide late.lead new.lead (16 * i) 16 told
      → new ≡ after_lone_write told (led_by late new.lead) → Keeps late new
  back_keeps late disc sound told stop wrote is =
      let keeps = write_keeps late.lead new.lead (16 * i) 16 wrote.leaves.same_shape sound disc told stop wrote.wrote in
      record { on = same_on told stop is; disc = keeps.0; same_count = keeps.1 }
    where
      same_on : (told : WriteOut) → write_is_stopped told ≡ false → new ≡ after_lone_write told (led_by late new.lead) → new.on ≡ late.on
      same_on writes.Good stop is = ap (λ (s : MirrorShown). s.on) is
      same_on writes.NotFormatted stop is = ap (λ (s : MirrorShown). s.on) is
      same_on (writes.Range known) stop is = ap (λ (s : MirrorShown). s.on) is
      same_on (writes.Unread named block) stop is = ap (λ (s : MirrorShown). s.on) is
      same_on (writes.NoSpare named) stop is = ap (λ (s : MirrorShown). s.on) is
      same_on (writes.NoUpdate counter) stop is = ap (λ (s : MirrorShown). s.on) is
      same_on writes.Cut stop is = absurd (let w = stop in cc)
      same_on writes.Off stop is = ap (λ (s : MirrorShown). s.on) is
      same_on writes.Fault stop is = absurd (let w = stop in cc)

  same_keeps : (late : MirrorShown) → HasDisc late.lead → new ≡ late → Keeps late new
  same_keeps late disc same = record {
    on = ap (λ (s : MirrorShown). s.on) same;
    disc = subst (λ (s : MirrorShown). HasDisc s.lead) (sym same) disc;
    same_count = ap (λ (s : MirrorShown). block_count s.lead) same;
  }

  not_stopped : (told : WriteOut) → reads.Good ≡ once_written told → write_is_stopped told ≡ false
  not_stopped writes.Good is = refl
  not_stopped writes.NotFormatted is = refl
  not_stopped (writes.Range known) is = refl
  not_stopped (writes.Unread named block) is = refl
  not_stopped (writes.NoSpare named) is = refl
  not_stopped (writes.NoUpdate counter) is = refl
  not_stopped writes.Cut is = absurd (let w = is in cc)
  not_stopped writes.Off is = refl
  not_stopped writes.Fault is = absurd (let w = is in cc)

  lack_keeps : (mid : MirrorShown) → HasDisc mid.lead → IsSound mid.lead → MendsLack mid new i reads.Good → Keeps mid new
  lack_keeps mid disc sound lack = moved (go lack.told lack.ends)
    where
      same_lead : lack.late.lead ≡ mid.lead
      same_lead = ap (λ (s : MirrorShown). s.lead) lack.late_is

      late_disc : HasDisc lack.late.lead
      late_disc = subst HasDisc (sym same_lead) disc

      go : (told : ReadOut) → MendEnds lack.late new i told reads.Good → Keeps lack.late new
      go reads.Good back = back_keeps lack.late late_disc (subst IsSound (sym same_lead) sound) back.told (not_stopped back.told back.out_is) back.wrote back.new_is
      go reads.NotFormatted p = same_keeps lack.late late_disc p.0
      go (reads.Range known) p = same_keeps lack.late late_disc p.0
      go (reads.Unread named block) p = same_keeps lack.late late_disc p.0
      go reads.Cut p = same_keeps lack.late late_disc p.0
      go reads.Off p = same_keeps lack.late late_disc p.0
      go reads.Fault p = same_keeps lack.late late_disc p.0

      moved : Keeps lack.late new → Keeps mid new
      moved keeps = record { on = keeps.on ∙ ap (λ (s : MirrorShown). s.on) lack.late_is; disc = keeps.disc; same_count = keeps.same_count ∙ ap block_count same_lead }

  mended_keeps : MendsBlock old new i reads.Good → Keeps old new
  mended_keeps mends = go mends.told mends.reads mends.goes_on
    where
      after : Keeps mends.mid new → mends.mid.on ≡ old.on → block_count mends.mid.lead ≡ block_count old.lead → Keeps old new
      after keeps same_on same_count = record { on = keeps.on ∙ same_on; disc = keeps.disc; same_count = keeps.same_count ∙ same_count }

      go : (told : ReadOut) → LeadReads old mends.mid (16 * i) 16 told → MendGoesOn mends.mid new i told reads.Good → Keeps old new
      go reads.Good (r, is) p = after
          (same_keeps mends.mid (r.cause.ends.is_on, subst (λ l. IsSome l) (sym r.cause.keeps.same_lists) disc.1) p.0)
          (ap (λ (s : MirrorShown). s.on) is) (counted old mends.mid new i disc r.leaves.same_shape r.cause.keeps.same_lists)
      go reads.NotFormatted r p = absurd p
      go (reads.Range known) r p = absurd p
      go (reads.Unread named block) (r, is) lack = after
          (lack_keeps mends.mid (r.cause.ends.is_on, subst (λ l. IsSome l) (sym r.cause.keeps.same_lists) disc.1) r.leaves.sound lack)
          (ap (λ (s : MirrorShown). s.on) is) (counted old mends.mid new i disc r.leaves.same_shape r.cause.keeps.same_lists)
      go reads.Cut r p = absurd (let w = p.1 in cc)
      go reads.Off r p = absurd p
      go reads.Fault r p = absurd (let w = p.1 in cc)

-- a block was passed: it was copied or mended, or could not be, or was not to be
passed_keeps : (old new : MirrorShown) (i : ℕ) (out : ReadOut) → HasDisc old.lead → read_is_stopped out ≡ false → PassesBlock old new i out → Keeps old new × ResyncsBlock old new i
passed_keeps old new i out disc goes_on passes = go old.up (is_apart old.table i) passes
  where
    go : (up apart : Bool) → MatchBool up (MatchBool apart (CopiesOrStops old new i out) (MendsBlock old new i out)) ((new ≡ old) × (out ≡ reads.Good))
        → Keeps old new × MatchBool up (MatchBool apart (CopiesBlock old new i) (MendsBlock old new i reads.Good)) (new ≡ old)
    go true true copy =
        let on = subst (λ (b : Bool). MatchBool b (new ≡ mirror_turned_off copy.mid) (CopyGoesOn copy.mid new i out)) goes_on copy.ends in
        (copied_keeps old copy.mid new i disc out copy.reads on, record { mid = copy.mid; told = out; reads = copy.reads; goes_on = on })
    go true false mends =
        let good = subst (MendsBlock old new i) (mended_good old new i out goes_on mends) mends in
        (mended_keeps old new i disc good, good)
    go false apart (same, good) = (same_keeps old new i disc old disc same, same)

-- a read that was neither cut nor failed was not stopped
pub goes_on : (out : ReadOut) → out ≢ reads.Cut → out ≢ reads.Fault → read_is_stopped out ≡ false
goes_on reads.Good cut fault = refl
goes_on reads.NotFormatted cut fault = refl
goes_on (reads.Range known) cut fault = refl
goes_on (reads.Unread named home) cut fault = refl
goes_on reads.Cut cut fault = absurd (cut refl)
goes_on reads.Off cut fault = refl
goes_on reads.Fault cut fault = absurd (fault refl)

-- a step of a call that was not stopped leaves the disc
verified : (after : Standing → Type 0) (disc : List ℕ) (out : ReadOut) → read_is_stopped out ≡ false → VerifyStep after (On disc) out → after (On disc)
verified after disc reads.Good stop step = step
verified after disc reads.NotFormatted stop step = step
verified after disc (reads.Range known) stop step = step
verified after disc (reads.Unread named home) stop step = step
verified after disc reads.Cut stop step = absurd (let w = stop in cc)
verified after disc reads.Off stop step = absurd step
verified after disc reads.Fault stop step = absurd (let w = stop in cc)

-- the next block lies on the disc
pub next_inside : (start now : MirrorShown) (k : ℕ) (lead other lead₁ other₁ : Standing → Type 0) → HasPassed start now k lead other lead₁ other₁ → k < block_count start.lead → IsInRange now.lead (16 * k) 16
next_inside start now k lead other lead₁ other₁ far early =
    let same = far.same_count in record { on = far.disc.0; formatted = far.disc.1; inside = omega (arith, same, early) }

module _ (start now new : MirrorShown) (k : ℕ) (lead other lead₁ other₁ lead₂ other₂ : Standing → Type 0) (far : HasPassed start now k lead other lead₁ other₁) (early : k < block_count start.lead) where
  pub passed_more : (out : ReadOut) → read_is_stopped out ≡ false → PassesBlock now new k out → ((s : Standing) → MirrorStands now lead₁ other₁ s → VerifyStep (MirrorStands new lead₂ other₂) s out)
      → HasPassed start new (k + 1) lead other lead₂ other₂
  passed_more out stop passes step =
      let keeps = passed_keeps now new k out far.disc stop passes in
      let more : suc k ≡ k + 1 = omega arith in
      record {
        through = subst (ResyncsBlocks start new) more (now, far.through, keeps.1);
        on = keeps.0.on ∙ far.on;
        disc = keeps.0.disc;
        same_count = keeps.0.same_count ∙ far.same_count;
        stands = λ disc so. verified (MirrorStands new lead₂ other₂) disc out stop (step (On disc) (far.stands disc so));
      }

  -- the lead was stopped at it
  pub passing_stopped : (out : ReadOut) → read_is_stopped out ≡ true → PassesBlock now new k out → ResyncStopped start new out
  passing_stopped out stop passes = go now.up refl passes
    where
      at : (apart : Bool) → MatchBool apart (CopiesOrStops now new k out) (MendsBlock now new k out) → MatchBool apart (CopyStopped now new k out) (MendsBlock now new k out)
      at true copy = record {
        late = copy.mid;
        reads = copy.reads;
        new_is = subst (λ (b : Bool). MatchBool b (new ≡ mirror_turned_off copy.mid) (CopyGoesOn copy.mid new k out)) stop copy.ends;
      }
      at false mends = mends

      go : (up : Bool) → now.up ≡ up → MatchBool up (MatchBool (is_apart now.table k) (CopiesOrStops now new k out) (MendsBlock now new k out)) ((new ≡ now) × (out ≡ reads.Good)) → ResyncStopped start new out
      go true up some = record { before = k; early = early; mid = now; through = far.through; up = up; stops = at (is_apart now.table k) some }
      go false up (same, good) = absurd (let e : true ≡ false = sym stop ∙ ap read_is_stopped good in cc)

  pub passing_step : (on : start.on ≡ true) (on_lead : IsOn start.lead) → ((discs : List (List ℕ)) → lead (Off discs) → IsOn start.lead → ⊥) → (out : ReadOut)
      → ((s : Standing) → MirrorStands now lead₁ other₁ s → VerifyStep (MirrorStands new lead₂ other₂) s out)
      → (s : Standing) → MirrorStands start lead other s → VerifyStep (MirrorStands new lead₂ other₂) s out
  passing_step on on_lead not_off out step (On disc) so = step (On disc) (far.stands disc so)
  passing_step on on_lead not_off out step (Off discs) stood = absurd (not_off discs (led_off start on lead other discs stood) on_lead)

-- all blocks were passed
pub all_passed : (start now : MirrorShown) (k : ℕ) (lead other lead₁ other₁ : Standing → Type 0) → HasPassed start now k lead other lead₁ other₁ → k ≡ block_count start.lead → ThroughAll start now reads.Good
all_passed start now k lead other lead₁ other₁ far all = record { disc = far.disc; through = subst (ResyncsBlocks start now) all far.through }

pub all_stand : (start now : MirrorShown) (k : ℕ) (lead other lead₁ other₁ : Standing → Type 0) → HasPassed start now k lead other lead₁ other₁ → start.on ≡ true → IsOn start.lead
    → ((discs : List (List ℕ)) → lead (Off discs) → IsOn start.lead → ⊥) → (s : Standing) → MirrorStands start lead other s → VerifyStep (MirrorStands now lead₁ other₁) s reads.Good
all_stand start now k lead other lead₁ other₁ far on on_lead not_off (On disc) so = far.stands disc so
all_stand start now k lead other lead₁ other₁ far on on_lead not_off (Off discs) stood = absurd (not_off discs (led_off start on lead other discs stood) on_lead)

-- where the lead was not stopped all blocks were gone through
pub all_good : (old new : MirrorShown) (out : ReadOut) → ThroughAll old new out → out ≢ reads.Cut → out ≢ reads.Fault → out ≡ reads.Good
all_good old new reads.Good all cut fault = refl
all_good old new reads.NotFormatted all cut fault = absurd all
all_good old new (reads.Range known) all cut fault = absurd all
all_good old new (reads.Unread named home) all cut fault = absurd all
all_good old new reads.Cut all cut fault = absurd (cut refl)
all_good old new reads.Off all cut fault = absurd all
all_good old new reads.Fault all cut fault = absurd (fault refl)

pub resynced : (after : Standing → Type 0) (s : Standing) (left : ℕ) → VerifyStep after s reads.Good → ResyncStep after s (resyncs.Done left)
resynced after (On disc) left step = step
resynced after (Off discs) left step = absurd step
