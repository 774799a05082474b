-- What the write of pending blocks is for a synchronisation, and for a tick.
use Rattle.std.proofs.Common.{◌≡◌, ℕ, ◌*◌, ◌<◌, Bool, true, false, not, ◌&&◌, List, [], ◌∷◌, None, length, refl, sym, ap, ◌∙◌, subst, inl, inr, arith}
use Rattle.std.specs.Prelude.{nat_lt, IsTrue, ◌↔◌}
use Rattle.std.specs.List.{Contains, filter, remove}
use Rattle.std.proofs.lemmas.Bool.{cond-true, le-ltb}
use Rattle.std.proofs.lemmas.List.{length-map}
use Rattle.model_sectors.specs.Discs.{Standing}
use Rattle.model_buffer.specs.Buffer.{numbers_in}
use Rattle.model_drive.specs.declared.WriteOut.{WriteOut}
use Rattle.model_drive.specs.declared.WriteOut.TheVariants as writes
use Rattle.model_drive.specs.Shown.{block_count, buffered}
use Rattle.model_cache.specs.Values.{Values, Contents, Has, MayHave, IsPending, StandsCached, settled_values, settled_but, is_among}
use Rattle.model_cache.specs.Shown.{CacheShown, AreApart, pending_in}
use Rattle.model_cache.specs.Steps.{SyncContents}
use Rattle.model_cache.specs.Drains.{IsRefusal, FallsShort, StopsTrying, DrainCause}
use Rattle.model_cache.specs.Causes.{DrainsAll, TriesOldest, TickCauseOf, as_write}
use Rattle.model_cache.proofs.Settled.{under_settled}
use Rattle.model_cache.proofs.Members.{Contains-none}
use Rattle.ram_cache.specs.Rooms.{pending_at}
use Rattle.ram_cache.specs.Flushes.{CanFlush, FlushesAt, FlushContents, DrainsDue, due_of, left_at, tick_out, sync_out}
use Rattle.ram_cache.proofs.Indices.{but_removed, inside_at}
use Rattle.ram_cache.proofs.OneFlush.{not_partly}
use Rattle.ram_cache.proofs.Due.{back, refuses}

-- ---- a synchronisation

all_due : (xs : List ℕ) → filter (λ i. not (is_among 0 0 i)) xs ≡ xs
all_due [] = refl
all_due (i ∷ xs) =
    cond-true (not (is_among 0 0 i)) (i ∷ filter (λ i. not (is_among 0 0 i)) xs) (filter (λ i. not (is_among 0 0 i)) xs) (none i (nat_lt i 0) (le-ltb i 0 (omega arith)))
    ∙ ap (λ (l : List ℕ). i ∷ l) (all_due xs)
  where
    none : (i : ℕ) (b : Bool) → b ≡ false → not (not b && b) ≡ true
    none i true e = absurd (let w = e in cc)
    none i false e = refl

module _ (old new : CacheShown) where
  pub all_long : length (pending_in old) ≡ length old.pending
  all_long = length-map old.pending (λ (x : ℕ × List ℕ). x.0)

  pub due_long : length (due_of false 0 0 old) ≡ length old.pending
  due_long = ap length (all_due (pending_in old)) ∙ all_long

  module _ (all : ℕ) (all_is : all ≡ length old.pending) where
    ends : (out : WriteOut) → DrainCause old new (due_of false 0 0 old) all out → DrainCause old new (pending_in old) (length (pending_in old)) out
    ends out cause = subst (λ (l : List ℕ). DrainCause old new l (length (pending_in old)) out) (all_due (pending_in old))
        (subst (λ (m : ℕ). DrainCause old new (due_of false 0 0 old) m out) (all_is ∙ sym all_long) cause)

    drains_all : CanFlush old → (out : WriteOut) → DrainCause old new (due_of false 0 0 old) all out → DrainsAll old new out
    drains_all can out cause = record { on = can.on; formatted = can.formatted; drained = ends out cause }

    pub sync_cause : CanFlush old → (out : WriteOut) → DrainsDue old new false 0 0 all out → DrainsAll old new (as_write (sync_out out))
    sync_cause can writes.Good rule = drains_all can writes.Good (rule.0, rule.1.tried)
    sync_cause can writes.NotFormatted rule = absurd rule
    sync_cause can (writes.Range known) rule = absurd rule
    sync_cause can (writes.Unread named block) rule = absurd rule
    sync_cause can (writes.NoSpare named) rule = drains_all can (writes.NoSpare named) (record { short = rule.missing; tried = rule.drained.tried })
    sync_cause can (writes.NoUpdate counter) rule = drains_all can (writes.NoUpdate counter) (record { short = rule.missing; tried = rule.drained.tried })
    sync_cause can writes.Cut rule = drains_all can writes.Cut rule
    sync_cause can writes.Off rule = absurd rule
    sync_cause can writes.Fault rule = drains_all can writes.Fault rule

    empty : (p : List (ℕ × List ℕ)) → length p ≡ 0 → p ≡ []
    empty [] none = refl
    empty (held ∷ p) none = absurd (omega (arith, none))

    -- nothing is pending after all left
    none_left : DrainsDue old new false 0 0 all writes.Good → new.pending ≡ []
    none_left rule =
        let left = rule.1.left in
        let now_long : length (due_of false 0 0 new) ≡ length new.pending = ap length (all_due (pending_in new)) ∙ length-map new.pending (λ (x : ℕ × List ℕ). x.0) in
        let was_long = due_long in
        let is = all_is in
        empty new.pending (omega (arith, left, now_long, was_long, is))

    -- then each block has its last value on the disc
    settles : (stands : Standing → Type 0) (p : List (ℕ × List ℕ)) (v : Values) → p ≡ [] → StandsCached stands p (Has v) → StandsCached stands p (Has (settled_values v.disc))
    settles stands p v none (d, so, under) = (
      d,
      so,
      record {
        taken = record { as_long = under.taken.as_long; each = λ i. inl (sym (under.others i (not_one i))) };
        inside = under.inside;
        last = under.last;
        others = under.others;
      },
    )
      where
        not_one : (i : ℕ) → ¬ IsPending p i
        not_one i (bytes, has) = Contains-none (i, bytes) (subst (λ (l : List (ℕ × List ℕ)). Contains l (i, bytes)) none has)

    settles_but : (stands : Standing → Type 0) (p : List (ℕ × List ℕ)) (v : Values) → StandsCached stands p (Has v) → StandsCached stands p (Has (settled_but p v))
    settles_but stands p v (d, so, under) = (d, so, under_settled p d v under)

    pub sync_step : (stands : Standing → Type 0) (s : Contents) (out : WriteOut) → DrainsDue old new false 0 0 all out → FlushContents (StandsCached stands new.pending) s out
        → SyncContents new (StandsCached stands new.pending) s (sync_out out)
    sync_step stands (Has v) writes.Good rule step = settles stands new.pending v (none_left rule) step
    sync_step stands (Has v) writes.NotFormatted rule step = absurd step
    sync_step stands (Has v) (writes.Range known) rule step = absurd step
    sync_step stands (Has v) (writes.Unread named block) rule step = absurd step
    sync_step stands (Has v) (writes.NoSpare named) rule step = settles_but stands new.pending v step
    sync_step stands (Has v) (writes.NoUpdate counter) rule step = settles_but stands new.pending v step
    sync_step stands (Has v) writes.Cut rule step = step
    sync_step stands (Has v) writes.Off rule step = absurd step
    sync_step stands (Has v) writes.Fault rule step = step
    sync_step stands (MayHave all) out rule step = absurd step

-- ---- a tick

module _ (old new : CacheShown) (can : CanFlush old) (apart : AreApart old.pending) (some : 0 < length old.pending) where
  oldest : pending_in old ≡ (pending_at old.pending 0).0 ∷ numbers_in (remove old.pending 0)
  oldest = first_of old.pending some
    where
      first_of : (p : List (ℕ × List ℕ)) → 0 < length p → numbers_in p ≡ (pending_at p 0).0 ∷ numbers_in (remove p 0)
      first_of [] none = absurd (omega arith)
      first_of (held ∷ p) one = refl

  inside : (pending_at old.pending 0).0 < block_count old.drive
  inside = inside_at old.pending 0 some can.inside

  abbrev i : ℕ
  i = (pending_at old.pending 0).0

  abbrev tries : (out : WriteOut) → DrainCause old new (i ∷ []) 1 out → TriesOldest old new out
  tries out cause = record { on = can.on; block = i; rest = numbers_in (remove old.pending 0); oldest = oldest; drained = cause }

  refused : (out : WriteOut) → IsRefusal out → FlushesAt old new 0 out → FallsShort old new (i ∷ []) 1 out
  refused out is flushes = record { short = 0; tried = inr (new, out, None, refuses old new 0 out apart some is flushes, (refl, refl, refl), refl) }

  stopped : (out : WriteOut) → FlushesAt old new 0 out → left_at out 0 old.pending ≡ [] → StopsTrying old new (i ∷ []) 1 out
  stopped out flushes none = record {
    done = [];
    block = i;
    rest = [];
    due_is = refl;
    mid = old;
    short = 0;
    first = None;
    tried = (refl, refl, refl);
    stops = back old new 0 out some flushes;
    none_left = flushes.1 ∙ none;
  }

  pub tick_cause : (lba : ℕ) (out : WriteOut) → lba ≡ 16 * (pending_at old.pending 0).0 → FlushesAt old new 0 out → TickCauseOf old new (tick_out out lba)
  tick_cause lba writes.Good is flushes = (
    tries writes.Good (
      None,
      inl (new, record { back = back old new 0 writes.Good some flushes; left = flushes.1 ∙ sym (but_removed old.pending 0 apart some) }, (refl, refl, refl)),
    ),
    is,
  )
  tick_cause lba writes.NotFormatted is flushes = absurd (flushes.0.0.unformatted can.formatted)
  tick_cause lba (writes.Range known) is flushes = let past = flushes.0.0.past in let here = inside in absurd (omega (arith, here, past))
  tick_cause lba (writes.Unread named block) is flushes =
      absurd (not_partly ((pending_at old.pending 0).0) (length flushes.0.0.course) (buffered old.drive) flushes.0.0.is_named.covered flushes.0.0.partly)
  tick_cause lba (writes.NoSpare named) is flushes = tries (writes.NoSpare named) (refused (writes.NoSpare named) tt flushes)
  tick_cause lba (writes.NoUpdate counter) is flushes = tries (writes.NoUpdate counter) (refused (writes.NoUpdate counter) tt flushes)
  tick_cause lba writes.Cut is flushes = tries writes.Cut (stopped writes.Cut flushes refl)
  tick_cause lba writes.Off is flushes = absurd (flushes.0.0.off can.on)
  tick_cause lba writes.Fault is flushes = tries writes.Fault (stopped writes.Fault flushes refl)

-- a list that is not empty
pub not_empty : (p : List (ℕ × List ℕ)) (b : Bool) → b ≡ false → IsTrue b ↔ (p ≡ []) → 0 < length p
not_empty [] b e both = absurd (let w = both.1 refl in let v = e in cc)
not_empty (held ∷ p) b e both = omega arith
