-- A read of blocks that are pending, or can be read, is good.
use Rattle.std.specs.Prelude.{◌≡◌, ℕ, zero, suc, ◌+◌, ◌-◌, ◌*◌, ◌<◌, ◌≤◌, Option, Some, None, List, [], ◌∷◌}
use Rattle.std.proofs.Common.{arith, refl, sym, ap, ◌∙◌, inl, inr, subst}
use Rattle.model_buffer.specs.Buffer.{bytes_at}
use Rattle.model_medium.specs.Cells.{IsGood, cell_at}
use Rattle.model_sectors.specs.Requests.{block_with, blocks_covered, start_in, end_in}
use Rattle.model_sectors.specs.declared.ReadOut.{ReadOut}
use Rattle.model_sectors.specs.declared.ReadOut.TheVariants as reads
use Rattle.model_sectors.proofs.Covering.{block_with_start, covers_some, covered_part}
use Rattle.model_stops.specs.declared.Stop.TheVariants as stops
use Rattle.model_drive.specs.Shown.{Shown, IsOn, cells_in, home_cell}
use Rattle.model_drive.specs.Parts.{IsInRange, NoneCounted}
use Rattle.model_drive.specs.Reads.{uses_of_read, ReadsAll, MeetsUnread, StopsInRead, ReadCause}
use Rattle.model_drive.proofs.Ends.{none_stopped}
use Rattle.model_cache.specs.Shown.{CacheShown, dropped}
use Rattle.model_cache.specs.Causes.{ReadsPart, ReadsParts, EndsReading, ReadPartsCause, CacheReadBy, CacheReadCause}
use Rattle.model_cache.proofs.Held.{none_at}
use Rattle.model_cache.proofs.Completing.{WentOn, ended, none_after}
use Rattle.model_drains.specs.Leaving.{CanReadAll}

-- a read of the disc of which each home can be read
module _ (a b : Shown) (lba n : ℕ) (on : IsOn a) (none : NoneCounted a b) (good : (k : ℕ) → k < blocks_covered lba n → IsGood (home_cell b (block_with lba + k))) where
  met_none : (named block : ℕ) → MeetsUnread a b lba n named block → ⊥
  met_none named block met = met.unread (subst (λ (c : ℕ). IsGood (cell_at (cells_in b) c)) (sym met.block_is) (good met.before met.is_named.covered))

  cut_none : StopsInRead a b lba n (uses_of_read a lba n) stops.Cut → ⊥
  cut_none p = none_stopped a b _ stops.Cut on none p.stopped

  fault_none : StopsInRead a b lba n (uses_of_read a lba n) stops.Fault → ⊥
  fault_none p = none_stopped a b _ stops.Fault on none p.stopped

-- one part of a request lies in one block
within_block : (block start end : ℕ) → 16 * block ≤ start → start < end → end ≤ 16 * block + 16 → blocks_covered start (end - start) ≤ 1
within_block block start end from some to = let count = covers_some start (end - start) (omega (arith, some)) in omega (arith, count, from, some, to)

one_block : (lba n k : ℕ) → k < blocks_covered lba n → blocks_covered (start_in lba (block_with lba + k)) (end_in lba n (block_with lba + k) - start_in lba (block_with lba + k)) ≤ 1
one_block lba n k covered =
    within_block (block_with lba + k) (start_in lba (block_with lba + k)) (end_in lba n (block_with lba + k)) (omega arith) (covered_part lba n k covered) (omega arith)

-- the parts before it went on
part_goes_on : (old new : CacheShown) (lba n block : ℕ) (held : Option (List ℕ)) → IsOn old.drive → ReadsPart old new lba n block held reads.Good → WentOn old.drive new.drive
part_goes_on old new lba n block (Some bytes) on p = subst (λ (s : CacheShown). WentOn old.drive s.drive) (sym p.1) (record { on = on; cuts = refl; faults = refl; stays_dead = λ block dead. dead })
part_goes_on old new lba n block None on p =
    let all : ReadsAll old.drive new.drive (start_in lba block) (end_in lba n block - start_in lba block) = p.0.cause in ended old.drive new.drive _ all.ends

parts_go_on : (old new : CacheShown) (lba n k : ℕ) → IsOn old.drive → ReadsParts old new lba n k → WentOn old.drive new.drive
parts_go_on old new lba n zero on p = subst (λ (s : CacheShown). WentOn old.drive s.drive) (sym p) (record { on = on; cuts = refl; faults = refl; stays_dead = λ block dead. dead })
parts_go_on old new lba n (suc k) on (mid, before, last) =
    let first = parts_go_on old mid lba n k on before in
    let then = part_goes_on mid new lba n (block_with lba + k) (bytes_at (block_with lba + k) old.pending) first.on last in
    record {
      on = then.on;
      cuts = then.cuts ∙ first.cuts;
      faults = then.faults ∙ first.faults;
      stays_dead = λ block dead. then.stays_dead block (first.stays_dead block dead);
    }

module _ (old new : CacheShown) (lba n : ℕ) (inside : IsInRange old.drive lba n) (none : NoneCounted old.drive new.drive) (can : CanReadAll old new.drive lba n) where
  -- the block in which it would have ended
  module _ (out : ReadOut) (p : EndsReading old new lba n out) where
    went : WentOn old.drive p.mid.drive
    went = parts_go_on old p.mid lba n p.before inside.on p.parts

    none_then : NoneCounted p.mid.drive new.drive
    none_then = none_after old.drive p.mid.drive new.drive went none

    home_good : IsGood (home_cell new.drive (block_with lba + p.before))
    home_good = elim (can p.before p.covered) [
      | inl waits ↦ absurd (none_at old.pending (block_with lba + p.before) p.not_pending waits)
      | inr good ↦ good
    ]

    part_good : (k : ℕ) → k < blocks_covered (start_in lba (block_with lba + p.before)) (end_in lba n (block_with lba + p.before) - start_in lba (block_with lba + p.before))
        → IsGood (home_cell new.drive (block_with (start_in lba (block_with lba + p.before)) + k))
    part_good k covered =
        let few = one_block lba n p.before p.covered in
        let first = block_with_start lba n p.before p.covered in
        let only : k ≡ 0 = omega (arith, few, covered) in
        subst (λ (b : ℕ). IsGood (home_cell new.drive b)) (omega (arith, first, only)) home_good

  never_unread : (named block : ℕ) → EndsReading old new lba n (reads.Unread named block) → ⊥
  never_unread named block p =
      met_none p.mid.drive new.drive _ _ (went (reads.Unread named block) p).on (none_then (reads.Unread named block) p) (part_good (reads.Unread named block) p) named block p.ends.0.cause

  never_cut : EndsReading old new lba n reads.Cut → ⊥
  never_cut p = cut_none p.mid.drive new.drive _ _ (went reads.Cut p).on (none_then reads.Cut p) (part_good reads.Cut p) p.ends.0.cause

  never_failed : EndsReading old new lba n reads.Fault → ⊥
  never_failed p = fault_none p.mid.drive new.drive _ _ (went reads.Fault p).on (none_then reads.Fault p) (part_good reads.Fault p) p.ends.0.cause

  by_parts : (out : ReadOut) → ReadPartsCause old new lba n out → out ≡ reads.Good
  by_parts reads.Good p = refl
  by_parts reads.NotFormatted p = absurd p
  by_parts (reads.Range known) p = let past = p.past.past in let fits = inside.inside in absurd (omega (arith, past, fits))
  by_parts (reads.Unread named block) p = absurd (never_unread named block p)
  by_parts reads.Cut p = absurd (never_cut p)
  by_parts reads.Off p = absurd p
  by_parts reads.Fault p = absurd (never_failed p)

  module _ (empty : old.pending ≡ []) where
    each_good : (k : ℕ) → k < blocks_covered lba n → IsGood (home_cell new.drive (block_with lba + k))
    each_good k covered = elim (can k covered) [
      | inl waits ↦ absurd (none_at old.pending (block_with lba + k) (ap (λ (p : List (ℕ × List ℕ)). bytes_at (block_with lba + k) p) empty) waits)
      | inr good ↦ good
    ]

    on_disc : (out : ReadOut) → ReadCause old.drive new.drive lba n out → out ≡ reads.Good
    on_disc reads.Good p = refl
    on_disc reads.NotFormatted p = absurd (p.unformatted inside.formatted)
    on_disc (reads.Range known) p = let past = p.past in let fits = inside.inside in absurd (omega (arith, past, fits))
    on_disc (reads.Unread named block) p = absurd (met_none old.drive new.drive lba n inside.on none each_good named block p)
    on_disc reads.Cut p = absurd (cut_none old.drive new.drive lba n inside.on none each_good p)
    on_disc reads.Off p = absurd (p.off inside.on)
    on_disc reads.Fault p = absurd (fault_none old.drive new.drive lba n inside.on none each_good p)

  by_pending : (pending : List (ℕ × List ℕ)) → old.pending ≡ pending → (out : ReadOut) → CacheReadBy pending old new lba n out → out ≡ reads.Good
  by_pending [] empty out p = on_disc empty out p.0.cause
  by_pending (held ∷ pending) is out p = by_parts out p

module _ (old new : CacheShown) (lba n : ℕ) (inside : IsInRange old.drive lba n) (none : NoneCounted old.drive new.drive) (can : CanReadAll (dropped old) new.drive lba n) where
  by_dropped : (out : ReadOut) → CacheReadBy (dropped old).pending (dropped old) new lba n out → out ≡ reads.Good
  by_dropped out p = by_pending (dropped old) new lba n (record { on = inside.on; formatted = inside.formatted; inside = inside.inside }) none can (dropped old).pending refl out p

  pub read_good : (out : ReadOut) → CacheReadCause old new lba n out → out ≡ reads.Good
  read_good reads.Off p = absurd (p.off inside.on)
  read_good reads.Good p = refl
  read_good reads.NotFormatted p = by_dropped reads.NotFormatted p
  read_good (reads.Range known) p = by_dropped (reads.Range known) p
  read_good (reads.Unread named block) p = by_dropped (reads.Unread named block) p
  read_good reads.Cut p = by_dropped reads.Cut p
  read_good reads.Fault p = by_dropped reads.Fault p
