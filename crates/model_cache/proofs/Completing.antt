-- Calls that flush pending blocks, and could end well, did.
use Rattle.std.specs.Prelude.{◌≡◌, ◌≢◌, ℕ, ◌+◌, ◌-◌, ◌*◌, ◌<◌, ◌≤◌, nat_lt, not, zero, suc, Bool, true, false, IsSome, IsTrue, Option, Some, None, List, [], ◌∷◌, length}
use Rattle.std.specs.List.{Contains}
use Rattle.std.proofs.Common.{arith, refl, sym, ap, ◌∙◌, inl, inr, subst}
use Rattle.std.proofs.lemmas.Bool.{cases_eq, and_parts, ltb-true, ltb-false}
use Rattle.model_counts.specs.Counts.{Rose}
use Rattle.model_buffer.specs.Buffer.{numbers_in}
use Rattle.model_medium.specs.Cells.{Cell, Dead, IsGood, cell_at}
use Rattle.model_medium.specs.Machine.{Machine}
use Rattle.model_medium.specs.Reach.{Reach}
use Rattle.model_sectors.specs.Requests.{block_with, blocks_covered, is_partly, start_in, end_in}
use Rattle.model_sectors.proofs.Covering.{covered_inside}
use Rattle.model_drive.specs.declared.WriteOut.{WriteOut}
use Rattle.model_drive.specs.declared.WriteOut.TheVariants as writes
use Rattle.model_drive.specs.Shown.{Shown, IsOn, IsKnown, IsFormatted, block_count, cells_in, home_cell}
use Rattle.model_drive.specs.Sound.{IsSound}
use Rattle.model_drive.specs.Parts.{EndsBy, NoneCounted}
use Rattle.model_drive.specs.Writes.{WritesAll, LacksSpare, LacksUpdate, StopsInWrite, NothingDies}
use Rattle.model_drive.proofs.Ends.{none_stopped}
use Rattle.model_stops.specs.declared.Stop.TheVariants as stops
use Rattle.model_drive.proofs.WriteCompleting.{write_completes}
use Rattle.model_cache.specs.declared.SyncOut.{SyncOut}
use Rattle.model_cache.specs.declared.SyncOut.TheVariants as syncs
use Rattle.model_cache.specs.declared.TickOut.{TickOut}
use Rattle.model_cache.specs.declared.TickOut.TheVariants as ticks
use Rattle.model_cache.specs.Values.{is_among}
use Rattle.model_cache.specs.Shown.{CacheShown, dropped, pending_in, pending_below, pending_covered}
use Rattle.model_cache.specs.Chains.{Flushes, WritesBack}
use Rattle.model_cache.specs.Drains.{IsRefusal, Refuses, Tries, FallsShort, StopsTrying, DrainCause}
use Rattle.model_cache.specs.Causes.{DrainsCovered, WritesThrough, StopsWritingThrough, ThroughCause, DrainsAll, SyncCause, TriesOldest, TickCause}
use Rattle.model_cache.specs.Keeping.{FlushesSafely}
use Rattle.model_cache.proofs.Members.{Contains-none, Contains-first, Contains-later, Contains-cases, Contains-passed}
use Rattle.model_cache.proofs.FlushedHomes.{FlushesAll, all_flushed, first_alone, flushed_good, flush_leaves, flush_counts, flush_known, stays_good}
use Rattle.model_cache.proofs.Refusals.{refuses}

-- what work that went to its end leaves of the counts and the dead cells
pub record WentOn (a b : Shown) : Type 0 where
  pub on : IsOn b
  pub cuts : b.medium.world.cuts ≡ a.medium.world.cuts
  pub faults : b.medium.world.faults ≡ a.medium.world.faults
  pub stays_dead : (block : ℕ) → cell_at (cells_in a) block ≡ Dead → cell_at (cells_in b) block ≡ Dead

uncut : (a b : Machine) (k : ℕ) → Reach a b k → IsTrue b.world.power → b.world.cuts ≡ a.world.cuts
uncut a b k reach on = elim reach.ends [ inl none ↦ none.0.no_cut | inr came ↦ absurd (came.0.turns_off on) ]

pub ended : (a b : Shown) (uses : ℕ) → EndsBy a b uses → WentOn a b
ended a b uses p = record {
  on = p.is_on;
  cuts = uncut a.medium b.medium uses p.reach p.is_on;
  faults = p.reach.lasts.no_fault;
  stays_dead = p.reach.lasts.stays_dead;
}

pub none_before : (a b c : Shown) → WentOn b c → NoneCounted a c → NoneCounted a b
none_before a b c went none = record {
  cuts = λ rose. none.cuts (subst (Rose a.medium.world.cuts) (sym went.cuts) rose);
  faults = λ rose. none.faults (subst (Rose a.medium.world.faults) (sym went.faults) rose);
}

pub none_after : (a b c : Shown) → WentOn a b → NoneCounted a c → NoneCounted b c
none_after a b c went none = record {
  cuts = λ rose. none.cuts (subst (λ (count : ℕ). Rose count c.medium.world.cuts) went.cuts rose);
  faults = λ rose. none.faults (subst (λ (count : ℕ). Rose count c.medium.world.faults) went.faults rose);
}

-- what a chain of flushes leaves
pub record Flushed (a b : Shown) : Type 0 where
  pub formatted : IsFormatted b
  pub sound : IsSound b
  pub known : IsKnown b
  pub count : block_count b ≡ block_count a
  pub went : WentOn a b

one_flush : (a b : CacheShown) (i : ℕ) → Flushes a b i → IsSound a.drive → IsKnown a.drive → Flushed a.drive b.drive
one_flush a b i flush sound known =
    let wrote : WritesAll a.drive b.drive (16 * i) 16 = flush.back.wrote in
    record {
      formatted = subst IsSome (sym wrote.ends.now_in_use) refl;
      sound = flush.back.leaves.sound;
      known = flush_known a b i flush sound known;
      count = flush_counts a b i flush sound;
      went = ended a.drive b.drive _ wrote.ends.ends;
    }

one_refused : (a b : CacheShown) (i : ℕ) (out : WriteOut) → IsRefusal out → WritesBack a b i out → block_count b.drive ≡ block_count a.drive → b.drive.medium.world.known ≡ a.drive.medium.world.known
    → IsKnown a.drive → Flushed a.drive b.drive
one_refused a b i (writes.NoSpare named) is back count as_known known = let wrote : LacksSpare a.drive b.drive (16 * i) 16 named = back.wrote in record {
  formatted = subst IsSome (sym wrote.ends.now_in_use) refl;
  sound = back.leaves.sound;
  known = as_known ∙ known;
  count = count;
  went = ended a.drive b.drive _ wrote.ends.ends;
}
one_refused a b i (writes.NoUpdate counter) is back count as_known known = let wrote : LacksUpdate a.drive b.drive (16 * i) 16 counter = back.wrote in record {
  formatted = subst IsSome (sym wrote.ends.now_in_use) refl;
  sound = back.leaves.sound;
  known = as_known ∙ known;
  count = count;
  went = ended a.drive b.drive _ wrote.ends.ends;
}
one_refused a b i _ is back count as_known known = absurd is

joined : (a b c : Shown) → Flushed a b → Flushed b c → Flushed a c
joined a b c one rest = record {
  formatted = rest.formatted;
  sound = rest.sound;
  known = rest.known;
  count = rest.count ∙ one.count;
  went = record {
    on = rest.went.on;
    cuts = rest.went.cuts ∙ one.went.cuts;
    faults = rest.went.faults ∙ one.went.faults;
    stays_dead = λ block dead. rest.went.stays_dead block (one.went.stays_dead block dead);
  };
}

refused_leaves : (a b : CacheShown) (i : ℕ) (out : WriteOut) → Refuses a b i out → IsSound a.drive → IsKnown a.drive → Flushed a.drive b.drive
refused_leaves a b i out is sound known = let r = refuses a b i out is sound in one_refused a b i out is.refused is.back r.counts r.as_known known

pub tries_leave : (due : List ℕ) (enough short : ℕ) (a b : CacheShown) (first : Option WriteOut) → IsOn a.drive → IsFormatted a.drive → IsSound a.drive → IsKnown a.drive → Tries a due enough b short first
    → Flushed a.drive b.drive
tries_leave due zero short a b first on formatted sound known p = subst (λ (s : CacheShown). Flushed a.drive s.drive) (sym p.0) (record {
  formatted = formatted;
  sound = sound;
  known = known;
  count = refl;
  went = record { on = on; cuts = refl; faults = refl; stays_dead = λ block dead. dead };
})
tries_leave [] (suc enough) short a b first on formatted sound known p = subst (λ (s : CacheShown). Flushed a.drive s.drive) (sym p.0) (record {
  formatted = formatted;
  sound = sound;
  known = known;
  count = refl;
  went = record { on = on; cuts = refl; faults = refl; stays_dead = λ block dead. dead };
})
tries_leave (i ∷ due) (suc enough) short a b first on formatted sound known (inl (mid, flush, later)) =
    let one = one_flush a mid i flush sound known in
    joined a.drive mid.drive b.drive one (tries_leave due enough short mid b first one.went.on one.formatted one.sound one.known later)
tries_leave (i ∷ due) (suc enough) short a b first on formatted sound known (inr (mid, out, told, is, later, first_is)) =
    let one = refused_leaves a mid i out is sound known in
    joined a.drive mid.drive b.drive one (tries_leave due (suc enough) short mid b told one.went.on one.formatted one.sound one.known later)

-- a home that is not dead is not dead afterwards: it stays as it is, or its block is written
stays_undead : (due : List ℕ) (a b : CacheShown) → IsSound a.drive → IsKnown a.drive → FlushesAll a due b → (j : ℕ) → j < block_count a.drive → home_cell a.drive j ≢ Dead → home_cell b.drive j ≢ Dead
stays_undead [] a b sound known is j inside lives = subst (λ (s : CacheShown). home_cell s.drive j ≢ Dead) (sym is) lives
stays_undead (i ∷ due) a b sound known is j inside lives =
    stays_undead due is.0 b is.1.back.leaves.sound (flush_known a is.0 i is.1 sound known) is.2 j
    (subst (λ (c : ℕ). j < c) (sym (flush_counts a is.0 i is.1 sound)) inside) (elim (cases_eq j i) [
      | inl same ↦ λ dead. subst IsGood dead (subst (λ (n : ℕ). IsGood (home_cell is.0.drive n)) (sym same) (flushed_good a is.0 i is.1 sound known))
      | inr ne ↦ subst (λ (c : Cell). c ≢ Dead) (sym (flush_leaves a is.0 i is.1 sound j inside ne)) lives
    ])

-- ---- the write that comes after a chain

-- no part of a whole block is left out
whole_block : (i k : ℕ) → k < blocks_covered (16 * i) 16 → IsTrue (is_partly (16 * i) 16 (block_with (16 * i) + k)) → ⊥
whole_block i k covered partly =
    let there = first_alone i k covered in
    let few = ltb-true (end_in (16 * i) 16 (block_with (16 * i) + k) - start_in (16 * i) (block_with (16 * i) + k)) 16 partly in
    omega (arith, there, few)

next_good : (a b : CacheShown) (due : List ℕ) (i : ℕ) (out : WriteOut) → FlushesSafely a.drive b.drive due → Contains due i → i < block_count a.drive → WritesBack a b i out
    → out ≡ writes.Good
next_good a b due i out safely is_due inside ends =
    write_completes a.drive b.drive (16 * i) 16 (λ lists in_use. (safely.sound.in_use lists in_use).valid) ends.leaves.same_shape out ends.wrote safely.known
    (inl (record {
      inside = record { on = safely.on; formatted = safely.formatted; inside = by_count (block_count a.drive) inside };
      none_counted = safely.none_counted;
      none_dead = λ k h. subst (λ (n : ℕ). home_cell a.drive n ≢ Dead) (sym (first_alone i k h)) (safely.none_dead i is_due);
      none_dies = safely.none_dies;
      rests = λ k h partly. absurd (whole_block i k h partly);
    }))
  where
    by_count : (was : ℕ) → i < was → 16 * i + 16 ≤ was * 16
    by_count was inside = omega (arith, inside)

-- what is safe stays so behind a flush
safely_after : (a mid b : CacheShown) (i : ℕ) (due : List ℕ) → ((j : ℕ) → Contains due j → j < block_count a.drive) → Flushes a mid i → FlushesSafely a.drive b.drive due → FlushesSafely mid.drive b.drive due
safely_after a mid b i due inside flush safely =
    let one = one_flush a mid i flush safely.sound safely.known in
    record {
      on = one.went.on;
      formatted = one.formatted;
      sound = one.sound;
      known = one.known;
      none_counted = none_after a.drive mid.drive b.drive one.went safely.none_counted;
      none_dead = λ j has. stays_undead (i ∷ []) a mid safely.sound safely.known (mid, flush, refl) j (inside j has) (safely.none_dead j has);
      none_dies = λ block dead. one.went.stays_dead block (safely.none_dies block dead);
    }

-- so none was refused in a drain that could end well
never_refused : (rest : List ℕ) (enough short : ℕ) (a b : CacheShown) (first : Option WriteOut) (due : List ℕ) → ((j : ℕ) → Contains rest j → Contains due j) → ((j : ℕ) → Contains due j → j < block_count a.drive)
    → FlushesSafely a.drive b.drive due → Tries a rest enough b short first → first ≡ None
never_refused rest zero short a b first due among inside safely p = p.2
never_refused [] (suc enough) short a b first due among inside safely p = p.2
never_refused (i ∷ rest) (suc enough) short a b first due among inside safely (inl (mid, flush, later)) =
    never_refused rest enough short mid b first due (λ j has. among j (Contains-later i rest j has))
    (λ j has. subst (λ (c : ℕ). j < c) (sym (flush_counts a mid i flush safely.sound)) (inside j has)) (safely_after a mid b i due inside flush safely) later
never_refused (i ∷ rest) (suc enough) short a b first due among inside safely (inr (mid, out, told, is, later, first_is)) =
    let is_due = among i (Contains-first i rest) in
    let one = refused_leaves a mid i out is safely.sound safely.known in
    let left = tries_leave rest (suc enough) short mid b told one.went.on one.formatted one.sound one.known later in
    absurd (subst IsRefusal (next_good a mid due i out (record {
      on = safely.on;
      formatted = safely.formatted;
      sound = safely.sound;
      known = safely.known;
      none_counted = none_before a.drive mid.drive b.drive left.went safely.none_counted;
      none_dead = safely.none_dead;
      none_dies = λ block dead. safely.none_dies block (left.went.stays_dead block dead);
    }) is_due (inside i is_due) is.back) is.refused)

module _ (a b : CacheShown) (due : List ℕ) (enough : ℕ) (safely : FlushesSafely a.drive b.drive due) (inside : (i : ℕ) → Contains due i → i < block_count a.drive) where
  never_short : (out : WriteOut) → FallsShort a b due enough out → ⊥
  never_short out p = (let h : Some out ≡ None = never_refused due enough (suc p.short) a b (Some out) due (λ j has. has) inside safely p.tried in cc)

  -- before the write that was stopped neither a cut nor a fault was counted
  before_stop : (out : WriteOut) (p : StopsTrying a b due enough out) → IsOn p.mid.drive × NoneCounted p.mid.drive b.drive
  before_stop out p =
      let left = tries_leave p.done enough (suc p.short) a p.mid p.first safely.on safely.formatted safely.sound safely.known p.tried in
      (left.went.on, none_after a.drive p.mid.drive b.drive left.went safely.none_counted)

  never_cut : StopsTrying a b due enough writes.Cut → ⊥
  never_cut p = let before = before_stop writes.Cut p in let wrote : StopsInWrite p.mid.drive b.drive (16 * p.block) 16 stops.Cut = p.stops.wrote in
      none_stopped p.mid.drive b.drive _ stops.Cut before.0 before.1 wrote.stopped

  never_failed : StopsTrying a b due enough writes.Fault → ⊥
  never_failed p = let before = before_stop writes.Fault p in let wrote : StopsInWrite p.mid.drive b.drive (16 * p.block) 16 stops.Fault = p.stops.wrote in
      none_stopped p.mid.drive b.drive _ stops.Fault before.0 before.1 wrote.stopped

  -- so a drain that could end well did
  pub drain_good : (out : WriteOut) → DrainCause a b due enough out → out ≡ writes.Good
  drain_good writes.Good p = refl
  drain_good (writes.NoSpare named) p = absurd (never_short (writes.NoSpare named) p)
  drain_good (writes.NoUpdate counter) p = absurd (never_short (writes.NoUpdate counter) p)
  drain_good writes.Cut p = absurd (never_cut p)
  drain_good writes.Fault p = absurd (never_failed p)
  drain_good writes.NotFormatted p = absurd p
  drain_good (writes.Range known) p = absurd p
  drain_good (writes.Unread named block) p = absurd p
  drain_good writes.Off p = absurd p

-- ---- which blocks are due

held_of : (pending : List (ℕ × List ℕ)) (i : ℕ) → Contains (numbers_in pending) i → (bytes : List ℕ) × Contains {X = ℕ × List ℕ} pending (i, bytes)
held_of [] i has = absurd (Contains-none i has)
held_of (held ∷ pending) i has = elim (Contains-cases held.0 (numbers_in pending) i has) [
  | inl is ↦ (held.1, subst (λ (n : ℕ). Contains {X = ℕ × List ℕ} (held ∷ pending) (n, held.1)) is (Contains-first {X = ℕ × List ℕ} held pending))
  | inr more ↦ let found = held_of pending i more in (found.0, Contains-later {X = ℕ × List ℕ} held pending (i, found.0) found.1)
]

pub due_inside : (shown : CacheShown) (i : ℕ) → Contains (pending_in (dropped shown)) i → i < block_count shown.drive
due_inside shown i has =
    let found = held_of (pending_below (block_count shown.drive) shown.pending) i has in
    ltb-true i (block_count shown.drive) (Contains-passed {X = ℕ × List ℕ} (λ (held : ℕ × List ℕ). nat_lt held.0 (block_count shown.drive)) shown.pending (i, found.0) found.1).0

-- ---- a synchronisation

module _ (old new : CacheShown) where
  drained_good : (out : WriteOut) → FlushesSafely old.drive new.drive (pending_in (dropped old)) → DrainsAll (dropped old) new out → out ≡ writes.Good
  drained_good out safely p = drain_good (dropped old) new (pending_in (dropped old)) (length (pending_in (dropped old))) safely (due_inside old) out p.drained

  pub sync_completes : (out : SyncOut) → SyncCause old new out → FlushesSafely old.drive new.drive (pending_in (dropped old)) → out ≡ syncs.Good
  sync_completes syncs.Good cause safely = refl
  sync_completes syncs.NotFormatted cause safely = absurd (cause.unformatted safely.formatted)
  sync_completes (syncs.NoSpare lba) cause safely = absurd (let e = drained_good (writes.NoSpare lba) safely cause in cc)
  sync_completes (syncs.NoUpdate counter) cause safely = absurd (let e = drained_good (writes.NoUpdate counter) safely cause in cc)
  sync_completes syncs.Cut cause safely = absurd (let e = drained_good writes.Cut safely cause in cc)
  sync_completes syncs.Off cause safely = absurd (cause.off safely.on)
  sync_completes syncs.Fault cause safely = absurd (let e = drained_good writes.Fault safely cause in cc)

  -- ---- a tick

  module _ (i : ℕ) (rest : List ℕ) (oldest : pending_in (dropped old) ≡ i ∷ rest) (safely : FlushesSafely old.drive new.drive (i ∷ [])) where
    same_oldest : (block : ℕ) (later : List ℕ) → pending_in (dropped old) ≡ block ∷ later → block ≡ i
    same_oldest block later is = let e : block ∷ later ≡ i ∷ rest = sym is ∙ oldest in cc

    tick_never : (out : WriteOut) → TriesOldest (dropped old) new out → out ≡ writes.Good
    tick_never out p =
        let there : i < block_count old.drive = due_inside old i (subst (λ (l : List ℕ). Contains l i) (sym oldest) (Contains-first i rest)) in
        drain_good (dropped old) new (i ∷ []) 1 safely (λ j has. elim (Contains-cases i [] j has) [
          | inl is ↦ subst (λ (b : ℕ). b < block_count old.drive) is there
          | inr none ↦ absurd (Contains-none j none)
        ]) out (subst (λ (b : ℕ). DrainCause (dropped old) new (b ∷ []) 1 out) (same_oldest p.block p.rest p.oldest) p.drained)

    pub tick_completes : (out : TickOut) → TickCause old new out → out ≡ ticks.Written (16 * i)
    tick_completes ticks.Idle cause = absurd (let e : [] ≡ i ∷ rest = sym (ap numbers_in cause.none) ∙ oldest in cc)
    tick_completes (ticks.Written lba) cause = ap ticks.Written (cause.1 ∙ ap (λ (b : ℕ). 16 * b) (same_oldest cause.0.block cause.0.rest cause.0.oldest))
    tick_completes (ticks.NoSpare lba) cause = absurd (let e = tick_never (writes.NoSpare lba) cause in cc)
    tick_completes (ticks.NoUpdate counter) cause = absurd (let e = tick_never (writes.NoUpdate counter) cause in cc)
    tick_completes ticks.Cut cause = absurd (let e = tick_never writes.Cut cause in cc)
    tick_completes ticks.Off cause = absurd (cause.off safely.on)
    tick_completes ticks.Fault cause = absurd (let e = tick_never writes.Fault cause in cc)

  -- ---- a write through the cache

  module _ (lba n : ℕ) (sound : IsSound old.drive) (known : IsKnown old.drive) (can : NothingDies old.drive new.drive lba n) where
    covered_within : (k : ℕ) → k < blocks_covered lba n → block_with lba + k < block_count old.drive
    covered_within k h = let fits : lba + n ≤ block_count old.drive * 16 = can.inside.inside in covered_inside lba n k (block_count old.drive) (omega (arith, fits)) h

    -- a covered pending block, by its place in the request
    covered_at : (i : ℕ) → Contains (pending_covered true (dropped old) lba n) i → (k : ℕ) × (k < blocks_covered lba n) × (block_with lba + k ≡ i)
    covered_at i has =
        let passed = Contains-passed (is_among (block_with lba) (blocks_covered lba n)) (pending_in (dropped old)) i has in
        let parts = and_parts (not (nat_lt i (block_with lba))) (nat_lt i (block_with lba + blocks_covered lba n)) passed.0 in
        let low = ltb-false i (block_with lba) (not_true (nat_lt i (block_with lba)) parts.0) in
        let high = ltb-true i (block_with lba + blocks_covered lba n) parts.1 in
        (i - block_with lba, omega (arith, low, high), omega (arith, low))
      where
        not_true : (b : Bool) → not b ≡ true → b ≡ false
        not_true true is = absurd cc
        not_true false is = refl

    safely : FlushesSafely old.drive new.drive (pending_covered true (dropped old) lba n)
    safely = record {
      on = can.inside.on;
      formatted = can.inside.formatted;
      sound = sound;
      known = known;
      none_counted = can.none_counted;
      none_dead = λ i has. let at = covered_at i has in subst (λ (b : ℕ). home_cell old.drive b ≢ Dead) at.2 (can.none_dead at.0 at.1);
      none_dies = can.none_dies;
    }

    covered_good : (out : WriteOut) → DrainsCovered (dropped old) new lba n out → out ≡ writes.Good
    covered_good out p =
        drain_good (dropped old) new (pending_covered true (dropped old) lba n) (length (pending_covered true (dropped old) lba n)) safely
        (λ i has. let at = covered_at i has in subst (λ (b : ℕ). b < block_count old.drive) at.2 (covered_within at.0 at.1)) out p

    through_good : (out : WriteOut) → WritesThrough (dropped old) new lba n out → out ≡ writes.Good
    through_good out p =
        let due : List ℕ = pending_covered true (dropped old) lba n in
        let left = tries_leave due (length due) 0 (dropped old) p.mid p.drained.0 can.inside.on can.inside.formatted sound known p.drained.1 in
        let flushed : FlushesAll (dropped old) due p.mid = all_flushed due (length due) (dropped old) p.mid p.drained.0 (omega arith) p.drained.1 in
        let count : block_count p.mid.drive ≡ block_count old.drive = left.count in
        write_completes p.mid.drive new.drive lba n (λ lists in_use. (left.sound.in_use lists in_use).valid) p.leaves.same_shape out p.wrote left.known
        (inl (record {
          inside = record { on = left.went.on; formatted = left.formatted; inside = subst (λ (c : ℕ). lba + n ≤ c * 16) (sym count) can.inside.inside };
          none_counted = none_after old.drive p.mid.drive new.drive left.went can.none_counted;
          none_dead = λ k h. stays_undead due (dropped old) p.mid sound known flushed (block_with lba + k) (covered_within k h) (can.none_dead k h);
          none_dies = λ block dead. left.went.stays_dead block (can.none_dies block dead);
          rests = λ k h partly. stays_good due (dropped old) p.mid sound known flushed (block_with lba + k) (covered_within k h) (can.rests k h partly);
        }))

    stops_good : (out : WriteOut) → StopsWritingThrough (dropped old) new lba n out → out ≡ writes.Good
    stops_good out (inside, inl ends) = covered_good out ends
    stops_good out (inside, inr wrote) = through_good out wrote

    pub through_completes : (out : WriteOut) → ThroughCause old new lba n out → out ≡ writes.Good
    through_completes writes.Good cause = refl
    through_completes writes.NotFormatted cause = absurd (cause.unformatted can.inside.formatted)
    through_completes (writes.Range t) cause = let past = cause.past.past in let fits = can.inside.inside in absurd (omega (arith, past, fits))
    through_completes (writes.Unread named block) cause = through_good (writes.Unread named block) cause.1
    through_completes (writes.NoSpare named) cause = stops_good (writes.NoSpare named) cause
    through_completes (writes.NoUpdate counter) cause = stops_good (writes.NoUpdate counter) cause
    through_completes writes.Cut cause = stops_good writes.Cut cause
    through_completes writes.Off cause = absurd (cause.off can.inside.on)
    through_completes writes.Fault cause = stops_good writes.Fault cause
