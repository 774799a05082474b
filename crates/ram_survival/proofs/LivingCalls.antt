-- That a block which is not pending, and which no request covers, keeps living over each read and each write of a drive with a write
-- cache, over what a scrubber does, and over a mount, a rewriting format and an expansion.
use Rattle.std.specs.Prelude.{◌≡◌, ℕ, zero, suc, ◌+◌, ◌-◌, ◌*◌, ◌<◌, ◌≤◌, ◌⊎◌, Bool, true, false, MatchBool, Option, Some, None, List, [], ◌∷◌, map, length}
use Rattle.std.specs.List.{Contains}
use Rattle.std.proofs.Common.{arith, sym, ap, inl, inr, subst}
use Rattle.std.proofs.lemmas.List.Elements.{Contains-append_cases}
use Rattle.model_geometry.specs.Geometry.{Shape}
use Rattle.model_buffer.specs.Buffer.{bytes_at}
use Rattle.model_sectors.specs.Requests.{block_with, blocks_covered, is_partly}
use Rattle.model_sectors.specs.declared.ReadOut.{ReadOut}
use Rattle.model_sectors.specs.declared.ReadOut.TheVariants as reads
use Rattle.model_drive.specs.declared.WriteOut.{WriteOut}
use Rattle.model_drive.specs.declared.WriteOut.TheVariants as writes
use Rattle.model_drive.specs.declared.FormatOut.{FormatOut}
use Rattle.model_drive.specs.declared.FormatOut.TheVariants as formats
use Rattle.model_drive.specs.declared.ExpandOut.{ExpandOut}
use Rattle.model_drive.specs.declared.ExpandOut.TheVariants as expands
use Rattle.model_cache.specs.Values.{IsPending}
use Rattle.model_cache.specs.Shown.{CacheShown, dropped, pending_covered, goes_into_cache}
use Rattle.model_cache.specs.Causes.{leaves_after_read, ReadsPart, ReadsParts, EndsReading, ReadPartsCause, CacheReadBy, CacheReadCause, WritesThrough, StopsWritingThrough, ThroughCauseOf, ThroughCause, leave_first, DrainsCovered, MakesRoom, ReadsRest, ReadsRests, put_over, ComesIn, GoesIntoCache, LacksRestInCache, CachedCauseOf, CachedCause, CacheWriteCause, leaves_after_rewrite, leaves_after_expansion}
use Rattle.model_cache.proofs.Members.{Contains-none, Contains-first, Contains-later, Contains-cases, Contains-passed}
use Rattle.model_cache.proofs.FlushedHomes.{numbered}
use Rattle.ram_cache.proofs.Fresh.{fresh_below}
use Rattle.ram_survival.proofs.LivingFlushes.{none_pending, as_was, left_pending, IsApart, LivesOn, IsKept, same_kept, dropped_kept, read_lives, write_lives, drained_kept}

-- ---- what a call leaves pending was pending

pub read_left : (out : ReadOut) (pending now : List (ℕ × List ℕ)) (i : ℕ) → now ≡ leaves_after_read out pending → IsPending now i → IsPending pending i
read_left reads.Cut pending now i is held = absurd (none_pending now i is held)
read_left reads.Fault pending now i is held = absurd (none_pending now i is held)
read_left out pending now i is held = as_was pending now i is held

pub rewrite_left : (out : FormatOut) (pending now : List (ℕ × List ℕ)) (i : ℕ) → now ≡ leaves_after_rewrite out pending → IsPending now i → IsPending pending i
rewrite_left formats.Cut pending now i is held = absurd (none_pending now i is held)
rewrite_left formats.Fault pending now i is held = absurd (none_pending now i is held)
rewrite_left out pending now i is held = as_was pending now i is held

pub expand_left : (out : ExpandOut) (new : CacheShown) (pending now : List (ℕ × List ℕ)) (i : ℕ) → now ≡ leaves_after_expansion new out pending → IsPending now i → IsPending pending i
expand_left expands.Good new pending now i is (bytes, has) =
    (bytes, (Contains-passed {X = ℕ × List ℕ} _ pending (i, bytes) (subst (λ (p : List (ℕ × List ℕ)). Contains p (i, bytes)) is has)).1)
expand_left expands.Cut new pending now i is held = absurd (none_pending now i is held)
expand_left expands.Fault new pending now i is held = absurd (none_pending now i is held)
expand_left out new pending now i is held = as_was pending now i is held

-- ---- what comes into the cache is covered, or was pending

put_before : (lba n : ℕ) (bytes : List ℕ) (pending : List (ℕ × List ℕ)) (i : ℕ) (now : List ℕ) → Contains {X = ℕ × List ℕ} (map (put_over lba n bytes) pending) (i, now) → IsPending pending i
put_before lba n bytes [] i now has = absurd (Contains-none {X = ℕ × List ℕ} (i, now) has)
put_before lba n bytes (held ∷ pending) i now has = elim (Contains-cases {X = ℕ × List ℕ} (put_over lba n bytes held) (map (put_over lba n bytes) pending) (i, now) has) [
  | inl here ↦ (held.1, subst (λ (m : ℕ). Contains {X = ℕ × List ℕ} (held ∷ pending) (m, held.1)) (ap (λ (h : ℕ × List ℕ). h.0) here) (Contains-first held pending))
  | inr later ↦ let before = put_before lba n bytes pending i now later in (before.0, Contains-later held pending (i, before.0) before.1)
]

comes_left : (old new : CacheShown) (lba n : ℕ) (bytes : List ℕ) (i : ℕ) → ComesIn old new lba n bytes → IsApart i lba n → IsPending new.pending i → IsPending old.pending i
comes_left old new lba n bytes i comes apart (now, has) =
    elim (Contains-append_cases {X = ℕ × List ℕ} (map (put_over lba n bytes) old.pending) comes.fresh (i, now) (subst (λ (p : List (ℕ × List ℕ)). Contains p (i, now)) comes.pending_are has)) [
      | inl before ↦ put_before lba n bytes old.pending i now before
      | inr fresh ↦ absurd (covered (fresh_below old.pending (block_with lba) (blocks_covered lba n) i (subst (λ (all : List ℕ). Contains all i) comes.fresh_are (numbered comes.fresh i now fresh))))
    ]
  where
    covered : (block_with lba ≤ i) × (i < block_with lba + blocks_covered lba n) → ⊥
    covered (low, high) = apart (i - block_with lba) (omega (arith, low, high)) (omega (arith, low))

module _ (shape : Shape) (i : ℕ) where
  -- ---- drains

  covered_kept : (lba n : ℕ) (old new : CacheShown) (out : WriteOut) → DrainsCovered old new lba n out → IsKept shape i old → IsKept shape i new
  covered_kept lba n old new out p kept = drained_kept shape i (pending_covered true old lba n) (length (pending_covered true old lba n)) old new out p kept

  room_kept : (lba n : ℕ) (old new : CacheShown) (out : WriteOut) → MakesRoom old new lba n out → IsKept shape i old → IsKept shape i new
  room_kept lba n old new out p kept = drained_kept shape i (pending_covered false old lba n) (leave_first old lba n) old new out p kept

  -- ---- a read

  module _ (lba n : ℕ) where
    part_kept : (block : ℕ) (old new : CacheShown) (held : Option (List ℕ)) (out : ReadOut) → ReadsPart old new lba n block held out → IsKept shape i old → IsKept shape i new
    part_kept block old new (Some bytes) out p kept = same_kept shape i old new p.1 kept
    part_kept block old new None out p kept = record {
      on = read_lives shape i old.drive new.drive _ _ out p.0.leaves p.0.cause kept.on;
      settled = λ held. kept.settled (read_left out old.pending new.pending i p.1 held);
    }

    parts_kept : (k : ℕ) (old new : CacheShown) → ReadsParts old new lba n k → IsKept shape i old → IsKept shape i new
    parts_kept zero old new is kept = same_kept shape i old new is kept
    parts_kept (suc k) old new is kept = part_kept (block_with lba + k) is.0 new (bytes_at (block_with lba + k) old.pending) reads.Good is.2 (parts_kept k old is.0 is.1 kept)

    ended_reading : (old new : CacheShown) (out : ReadOut) → EndsReading old new lba n out → IsKept shape i old → IsKept shape i new
    ended_reading old new out p kept = part_kept (block_with lba + p.before) p.mid new None out p.ends (parts_kept p.before old p.mid p.parts kept)

    parts_cause : (old new : CacheShown) (out : ReadOut) → ReadPartsCause old new lba n out → IsKept shape i old → IsKept shape i new
    parts_cause old new reads.Good p kept = parts_kept (blocks_covered lba n) old new p.1 kept
    parts_cause old new reads.NotFormatted p kept = absurd p
    parts_cause old new (reads.Range known) p kept = same_kept shape i (dropped old) new p.nothing (dropped_kept shape i old kept)
    parts_cause old new (reads.Unread named block) p kept = ended_reading old new (reads.Unread named block) p kept
    parts_cause old new reads.Cut p kept = ended_reading old new reads.Cut p kept
    parts_cause old new reads.Off p kept = absurd p
    parts_cause old new reads.Fault p kept = ended_reading old new reads.Fault p kept

    read_by : (pending : List (ℕ × List ℕ)) (old new : CacheShown) (out : ReadOut) → CacheReadBy pending old new lba n out → IsKept shape i old → IsKept shape i new
    read_by [] old new out p kept = record {
      on = read_lives shape i old.drive new.drive lba n out p.0.leaves p.0.cause kept.on;
      settled = none_pending new.pending i p.1.0;
    }
    read_by (held ∷ pending) old new out p kept = parts_cause old new out p kept

    pub read_kept_alive : (old new : CacheShown) (out : ReadOut) → CacheReadCause old new lba n out → IsKept shape i old → IsKept shape i new
    read_kept_alive old new reads.Off p kept = same_kept shape i old new p.nothing kept
    read_kept_alive old new out p kept = read_by (dropped old).pending (dropped old) new out p (dropped_kept shape i old kept)

    -- ---- a write of other blocks

    module _ (apart : IsApart i lba n) where
      through : (old new : CacheShown) (out : WriteOut) → WritesThrough old new lba n out → IsKept shape i old → IsKept shape i new
      through old new out p kept =
          let mid = covered_kept lba n old p.mid writes.Good p.drained kept in
          record {
            on = write_lives shape i p.mid.drive new.drive lba n out p.leaves p.wrote apart mid.on;
            settled = λ held. mid.settled (left_pending out p.mid.pending new.pending i p.left held);
          }

      stopped_through : (old new : CacheShown) (out : WriteOut) → StopsWritingThrough old new lba n out → IsKept shape i old → IsKept shape i new
      stopped_through old new out (inside, inl ends) kept = covered_kept lba n old new out ends kept
      stopped_through old new out (inside, inr wrote) kept = through old new out wrote kept

      through_of : (old new : CacheShown) (out : WriteOut) → ThroughCauseOf old new lba n out → IsKept shape i old → IsKept shape i new
      through_of old new writes.Good p kept = through old new writes.Good p.1 kept
      through_of old new writes.NotFormatted p kept = absurd p
      through_of old new (writes.Range known) p kept = same_kept shape i (dropped old) new p.nothing (dropped_kept shape i old kept)
      through_of old new (writes.Unread named block) p kept = through old new (writes.Unread named block) p.1 kept
      through_of old new writes.Off p kept = absurd p
      through_of old new out p kept = stopped_through old new out p kept

      through_kept : (old new : CacheShown) (out : WriteOut) → ThroughCause old new lba n out → IsKept shape i old → IsKept shape i new
      through_kept old new writes.NotFormatted p kept = same_kept shape i (dropped old) new p.nothing (dropped_kept shape i old kept)
      through_kept old new writes.Off p kept = same_kept shape i old new p.nothing kept
      through_kept old new out p kept = through_of (dropped old) new out p (dropped_kept shape i old kept)

      rest_kept : (block : ℕ) (old new : CacheShown) (partly : Bool) (held : Option (List ℕ)) → ReadsRest old new block partly held → IsKept shape i old → IsKept shape i new
      rest_kept block old new true None p kept = record {
        on = read_lives shape i old.drive new.drive (16 * block) 16 reads.Good p.0.leaves p.0.cause kept.on;
        settled = λ held. kept.settled (as_was old.pending new.pending i p.1.0 held);
      }
      rest_kept block old new true (Some bytes) p kept = same_kept shape i old new p kept
      rest_kept block old new false held p kept = same_kept shape i old new p kept

      rests_kept : (k : ℕ) (old new : CacheShown) → ReadsRests old new lba n k → IsKept shape i old → IsKept shape i new
      rests_kept zero old new is kept = same_kept shape i old new is kept
      rests_kept (suc k) old new is kept =
          rest_kept (block_with lba + k) is.0 new (is_partly lba n (block_with lba + k)) (bytes_at (block_with lba + k) is.0.pending) is.2 (rests_kept k old is.0 is.1 kept)

      went_in : (bytes : List ℕ) (old new : CacheShown) → GoesIntoCache old new lba n bytes → IsKept shape i old → IsKept shape i new
      went_in bytes old new p kept =
          let late = rests_kept (blocks_covered lba n) p.mid p.late p.rests (room_kept lba n old p.mid writes.Good p.drained kept) in
          record {
            on = subst (LivesOn shape i) (sym p.comes.same_drive) late.on;
            settled = λ held. late.settled (comes_left p.late new lba n bytes i p.comes apart held);
          }

      lacking : (old new : CacheShown) (out : WriteOut) → LacksRestInCache old new lba n out → IsKept shape i old → IsKept shape i new
      lacking old new out p kept =
          let late = rests_kept p.before p.mid p.late p.rests (room_kept lba n old p.mid writes.Good p.drained kept) in
          record {
            on = read_lives shape i p.late.drive new.drive (16 * (block_with lba + p.before)) 16 p.read_out p.ends.leaves p.ends.cause late.on;
            settled = λ held. late.settled (left_pending out p.late.pending new.pending i p.left held);
          }

      stopped_cached : (old new : CacheShown) (out : WriteOut) → MakesRoom old new lba n out ⊎ LacksRestInCache old new lba n out → IsKept shape i old → IsKept shape i new
      stopped_cached old new out (inl ends) kept = room_kept lba n old new out ends kept
      stopped_cached old new out (inr lacks) kept = lacking old new out lacks kept

      cached_of : (bytes : List ℕ) (old new : CacheShown) (out : WriteOut) → CachedCauseOf old new lba n bytes out → IsKept shape i old → IsKept shape i new
      cached_of bytes old new writes.Good p kept = went_in bytes old new p kept
      cached_of bytes old new writes.NotFormatted p kept = absurd p
      cached_of bytes old new (writes.Range known) p kept = same_kept shape i (dropped old) new p.nothing (dropped_kept shape i old kept)
      cached_of bytes old new (writes.Unread named block) p kept = lacking old new (writes.Unread named block) p.1 kept
      cached_of bytes old new writes.Cut p kept = stopped_cached old new writes.Cut p.1 kept
      cached_of bytes old new writes.Off p kept = absurd p
      cached_of bytes old new writes.Fault p kept = stopped_cached old new writes.Fault p.1 kept
      cached_of bytes old new out p kept = room_kept lba n old new out p.1 kept

      cached_kept : (bytes : List ℕ) (old new : CacheShown) (out : WriteOut) → CachedCause old new lba n bytes out → IsKept shape i old → IsKept shape i new
      cached_kept bytes old new writes.NotFormatted p kept = same_kept shape i (dropped old) new p.nothing (dropped_kept shape i old kept)
      cached_kept bytes old new writes.Off p kept = same_kept shape i old new p.nothing kept
      cached_kept bytes old new out p kept = cached_of bytes (dropped old) new out p (dropped_kept shape i old kept)

      by_kept : (into_cache : Bool) (bytes : List ℕ) (old new : CacheShown) (out : WriteOut) → MatchBool into_cache (CachedCause old new lba n bytes out) (ThroughCause old new lba n out) → IsKept shape i old → IsKept shape i new
      by_kept true bytes old new out p kept = cached_kept bytes old new out p kept
      by_kept false bytes old new out p kept = through_kept old new out p kept

      pub written_kept : (fua : Bool) (bytes : List ℕ) (old new : CacheShown) (out : WriteOut) → MatchBool fua (ThroughCause old new lba n out) (CacheWriteCause old new lba n bytes out) → IsKept shape i old → IsKept shape i new
      written_kept true bytes old new out p kept = through_kept old new out p kept
      written_kept false bytes old new out p kept = by_kept (goes_into_cache old lba n) bytes old new out p kept
