-- Where as many pending blocks can leave as have to, they do.
use Rattle.std.specs.Prelude.{◌≡◌, ℕ, zero, suc, ◌+◌, ◌*◌, ◌<◌, ◌≤◌, not, nat_lt, ◌==◌, Bool, true, false, Option, Some, None, List, [], ◌∷◌, length}
use Rattle.std.specs.List.{Contains, filter}
use Rattle.std.proofs.Common.{arith, refl, sym, ap, ◌∙◌, inl, inr, subst}
use Rattle.std.proofs.lemmas.Bool.{not_from_false, ne_eqb, and_from, lt-ltb, le-ltb}
use Rattle.model_buffer.specs.Buffer.{bytes_at}
use Rattle.model_medium.specs.Cells.{IsGood, cell_at}
use Rattle.model_sectors.specs.Requests.{block_with, blocks_covered, is_partly}
use Rattle.model_sectors.specs.declared.ReadOut.{ReadOut}
use Rattle.model_sectors.specs.declared.ReadOut.TheVariants as reads
use Rattle.model_stops.specs.declared.Stop.TheVariants as stops
use Rattle.model_drive.specs.declared.WriteOut.{WriteOut}
use Rattle.model_drive.specs.declared.WriteOut.TheVariants as writes
use Rattle.model_drive.specs.Shown.{Shown, IsOn, IsFormatted, IsKnown, cells_in, home, home_cell}
use Rattle.model_drive.specs.Sound.{IsSound}
use Rattle.model_drive.specs.Parts.{IsInRange, NoneCounted}
use Rattle.model_drive.specs.Reads.{ReadsAll, MeetsUnread, StopsInRead}
use Rattle.model_drive.specs.Writes.{StopsInWrite}
use Rattle.model_drive.proofs.Ends.{none_stopped}
use Rattle.model_cache.specs.declared.SyncOut.{SyncOut}
use Rattle.model_cache.specs.declared.SyncOut.TheVariants as syncs
use Rattle.model_cache.specs.Values.{IsPending, is_among}
use Rattle.model_cache.specs.Shown.{CacheShown, dropped, pending_in, pending_covered}
use Rattle.model_cache.specs.Chains.{ReadsDisc}
use Rattle.model_cache.specs.Drains.{Tries, StopsTrying, DrainCause}
use Rattle.model_cache.specs.Causes.{leave_first, MakesRoom, ReadsRest, ReadsRests, LacksRestInCache, EndsRest, CachedCauseOf, CachedCause, DrainsAll, SyncCause}
use Rattle.model_cache.proofs.Members.{Contains-kept, Contains-passed, Contains-later, Contains-first}
use Rattle.model_cache.proofs.Held.{none_at}
use Rattle.model_cache.proofs.Behind.{stays_there}
use Rattle.model_cache.proofs.FlushedHomes.{one_covered, its_block}
use Rattle.model_cache.proofs.Completing.{WentOn, Flushed, ended, none_after, tries_leave}
use Rattle.model_drains.specs.Leaving.{CannotLeave, CanReadRests}
use Rattle.model_drains.proofs.Stuck.{enough_leave}

-- ---- a drain

-- a drive that is on, whose disc is formatted
pub record IsReady (shown : Shown) : Type 0 where
  pub on : IsOn shown
  pub formatted : IsFormatted shown
  pub sound : IsSound shown
  pub known : IsKnown shown

pub as_ready : (shown : Shown) → IsOn shown → IsFormatted shown → IsSound shown → IsKnown shown → IsReady shown
as_ready shown on formatted sound known = record { on = on; formatted = formatted; sound = sound; known = known }

module _ (can : ℕ → Bool) (a b : CacheShown) (due : List ℕ) (enough : ℕ) (ready : IsReady a.drive) (none : NoneCounted a.drive b.drive) where
  before_stop : (out : WriteOut) (p : StopsTrying a b due enough out) → IsOn p.mid.drive × NoneCounted p.mid.drive b.drive
  before_stop out p =
      let left = tries_leave p.done enough (suc p.short) a p.mid p.first ready.on ready.formatted ready.sound ready.known p.tried in
      (left.went.on, none_after a.drive p.mid.drive b.drive left.went none)

  never_cut : StopsTrying a b due enough writes.Cut → ⊥
  never_cut p = let before = before_stop writes.Cut p in let wrote : StopsInWrite p.mid.drive b.drive (16 * p.block) 16 stops.Cut = p.stops.wrote in
      none_stopped p.mid.drive b.drive _ stops.Cut before.0 before.1 wrote.stopped

  never_failed : StopsTrying a b due enough writes.Fault → ⊥
  never_failed p = let before = before_stop writes.Fault p in let wrote : StopsInWrite p.mid.drive b.drive (16 * p.block) 16 stops.Fault = p.stops.wrote in
      none_stopped p.mid.drive b.drive _ stops.Fault before.0 before.1 wrote.stopped

  module _ (all : enough ≤ length (filter can due)) (leaves : (i : ℕ) → Contains due i → can i ≡ true → ¬ CannotLeave b.drive i) where
    never_short : (short : ℕ) (first : Option WriteOut) → Tries a due enough b (suc short) first → ⊥
    never_short short first tries = elim (enough_leave can due enough (suc short) a b first ready.sound ready.known tries leaves) [
      | inl few ↦ omega (arith, few, all)
      | inr none ↦ omega (arith, none)
    ]

    pub drain_good : (out : WriteOut) → DrainCause a b due enough out → out ≡ writes.Good
    drain_good writes.Good p = refl
    drain_good (writes.NoSpare named) p = absurd (never_short p.short (Some (writes.NoSpare named)) p.tried)
    drain_good (writes.NoUpdate counter) p = absurd (never_short p.short (Some (writes.NoUpdate counter)) p.tried)
    drain_good writes.Cut p = absurd (never_cut p)
    drain_good writes.Fault p = absurd (never_failed p)
    drain_good writes.NotFormatted p = absurd p
    drain_good (writes.Range known) p = absurd p
    drain_good (writes.Unread named block) p = absurd p
    drain_good writes.Off p = absurd p

-- ---- a synchronisation

all_pass : (due : List ℕ) → length due ≤ length (filter (λ i. true) due)
all_pass [] = omega arith
all_pass (i ∷ due) = let rest = all_pass due in omega (arith, rest)

module _ (old new : CacheShown) (ready : IsReady old.drive) (none : NoneCounted old.drive new.drive) (leaves : (i : ℕ) → Contains (pending_in (dropped old)) i → ¬ CannotLeave new.drive i) where
  drains : (out : WriteOut) → DrainsAll (dropped old) new out → out ≡ writes.Good
  drains out p =
      drain_good (λ i. true) (dropped old) new (pending_in (dropped old)) (length (pending_in (dropped old))) ready none (all_pass (pending_in (dropped old))) (λ i has passes. leaves i has) out p.drained

  pub synced : (out : SyncOut) → SyncCause old new out → out ≡ syncs.Good
  synced syncs.Good cause = refl
  synced syncs.NotFormatted cause = absurd (cause.unformatted ready.formatted)
  synced (syncs.NoSpare lba) cause = absurd (let e = drains (writes.NoSpare lba) cause in cc)
  synced (syncs.NoUpdate counter) cause = absurd (let e = drains (writes.NoUpdate counter) cause in cc)
  synced syncs.Cut cause = absurd (let e = drains writes.Cut cause in cc)
  synced syncs.Off cause = absurd (cause.off ready.on)
  synced syncs.Fault cause = absurd (let e = drains writes.Fault cause in cc)

-- ---- a write into the cache

-- a block that is not due stays pending
stays_pending : (due : List ℕ) (enough short : ℕ) (old new : CacheShown) (first : Option WriteOut) (j : ℕ) → Tries old due enough new short first → ¬ Contains due j → IsPending old.pending j → IsPending new.pending j
stays_pending due zero short old new first j tries away waits = subst (λ (s : CacheShown). IsPending s.pending j) (sym tries.0) waits
stays_pending [] (suc enough) short old new first j tries away waits = subst (λ (s : CacheShown). IsPending s.pending j) (sym tries.0) waits
stays_pending (i ∷ due) (suc enough) short old new first j (inl (mid, flush, later)) away waits =
    stays_pending due enough short mid new first j later (λ has. away (Contains-later i due j has)) (
      waits.0,
      subst (λ (p : List (ℕ × List ℕ)). Contains {X = ℕ × List ℕ} p (j, waits.0)) (sym flush.left)
          (Contains-kept {X = ℕ × List ℕ} (λ (held : ℕ × List ℕ). not (held.0 == i)) old.pending (j, waits.0) (not_from_false (j == i) (ne_eqb j i (λ same. away (subst (Contains (i ∷ due)) (sym same) (Contains-first i due))))) waits.1),
    )
stays_pending (i ∷ due) (suc enough) short old new first j (inr (mid, out, told, is, later, first_is)) away waits =
    stays_pending due (suc enough) short mid new told j later (λ has. away (Contains-later i due j has))
    (waits.0, subst (λ (p : List (ℕ × List ℕ)). Contains {X = ℕ × List ℕ} p (j, waits.0)) (sym is.left) (stays_there i old.pending (j, waits.0) waits.1))

-- reads of rests take nothing from the cache, and count nothing
record ReadOn (old new : CacheShown) : Type 0 where
  went : WentOn old.drive new.drive
  same_pending : new.pending ≡ old.pending

rest_reads : (old new : CacheShown) (block : ℕ) (partly : Bool) (held : Option (List ℕ)) → IsOn old.drive → ReadsRest old new block partly held → ReadOn old new
rest_reads old new block true None on p = record { went = read p.0; same_pending = p.1.0 } where
  read : ReadsDisc old.drive new.drive (16 * block) 16 reads.Good → WentOn old.drive new.drive
  read r = let all : ReadsAll old.drive new.drive (16 * block) 16 = r.cause in ended old.drive new.drive _ all.ends
rest_reads old new block true (Some held) on p = subst (ReadOn old) (sym p) (record { went = nothing old on; same_pending = refl }) where
  nothing : (old : CacheShown) → IsOn old.drive → WentOn old.drive old.drive
  nothing old on = record { on = on; cuts = refl; faults = refl; stays_dead = λ block dead. dead }
rest_reads old new block false held on p = subst (ReadOn old) (sym p) (record { went = nothing old on; same_pending = refl }) where
  nothing : (old : CacheShown) → IsOn old.drive → WentOn old.drive old.drive
  nothing old on = record { on = on; cuts = refl; faults = refl; stays_dead = λ block dead. dead }

rests_read : (old new : CacheShown) (lba n k : ℕ) → IsOn old.drive → ReadsRests old new lba n k → ReadOn old new
rests_read old new lba n zero on p = subst (ReadOn old) (sym p) (record { went = record { on = on; cuts = refl; faults = refl; stays_dead = λ block dead. dead }; same_pending = refl })
rests_read old new lba n (suc k) on (mid, before, rest) =
    let first = rests_read old mid lba n k on before in
    let last = rest_reads mid new (block_with lba + k) (is_partly lba n (block_with lba + k)) (bytes_at (block_with lba + k) mid.pending) first.went.on rest in
    record {
      went = record {
        on = last.went.on;
        cuts = last.went.cuts ∙ first.went.cuts;
        faults = last.went.faults ∙ first.went.faults;
        stays_dead = λ block dead. last.went.stays_dead block (first.went.stays_dead block dead);
      };
      same_pending = last.same_pending ∙ first.same_pending;
    }

-- a covered block is none of those that have to leave
covered_stays : (shown : CacheShown) (lba n k : ℕ) → k < blocks_covered lba n → ¬ Contains (pending_covered false shown lba n) (block_with lba + k)
covered_stays shown lba n k covered has = both (is_among (block_with lba) (blocks_covered lba n) (block_with lba + k)) among
    (Contains-passed (λ i. not (is_among (block_with lba) (blocks_covered lba n) i)) (pending_in shown) (block_with lba + k) has).0
  where
    among : is_among (block_with lba) (blocks_covered lba n) (block_with lba + k) ≡ true
    among = and_from (not (nat_lt (block_with lba + k) (block_with lba))) (nat_lt (block_with lba + k) (block_with lba + blocks_covered lba n))
        (not_from_false (nat_lt (block_with lba + k) (block_with lba)) (le-ltb (block_with lba + k) (block_with lba) (omega arith)))
        (lt-ltb (block_with lba + k) (block_with lba + blocks_covered lba n) (omega (arith, covered)))

    both : (b : Bool) → b ≡ true → not b ≡ true → ⊥
    both true is other = cc
    both false is other = cc

module _ (old new : CacheShown) (lba n : ℕ) (ready : IsReady old.drive) (inside : IsInRange old.drive lba n) (none : NoneCounted old.drive new.drive)
    (can : ℕ → Bool) (all : leave_first old lba n ≤ length (filter can (pending_covered false old lba n)))
    (leaves : (i : ℕ) → Contains (pending_covered false old lba n) i → can i ≡ true → ¬ CannotLeave new.drive i) (rests : CanReadRests old new.drive lba n) where
  made : (out : WriteOut) → MakesRoom old new lba n out → out ≡ writes.Good
  made out p = drain_good can old new (pending_covered false old lba n) (leave_first old lba n) ready none all leaves out p

  module _ (out : WriteOut) (p : LacksRestInCache old new lba n out) where
    block : ℕ
    block = block_with lba + p.before

    room : Flushed old.drive p.mid.drive
    room = tries_leave (pending_covered false old lba n) (leave_first old lba n) 0 old p.mid p.drained.0 ready.on ready.formatted ready.sound ready.known p.drained.1

    reads_on : ReadOn p.mid p.late
    reads_on = rests_read p.mid p.late lba n p.before room.went.on p.rests

    none_then : NoneCounted p.late.drive new.drive
    none_then = none_after p.mid.drive p.late.drive new.drive reads_on.went (none_after old.drive p.mid.drive new.drive room.went none)

    good_home : IsGood (home_cell new.drive (block_with lba + p.before))
    good_home = elim (rests p.before p.covered p.partly) [
      | inl waits ↦ absurd (none_at p.late.pending (block_with lba + p.before) p.not_pending
          (subst (λ (l : List (ℕ × List ℕ)). IsPending l (block_with lba + p.before)) (sym reads_on.same_pending)
          (stays_pending (pending_covered false old lba n) (leave_first old lba n) 0 old p.mid p.drained.0 (block_with lba + p.before) p.drained.1 (covered_stays old lba n p.before p.covered) waits)))
      | inr good ↦ good
    ]

    by_read : (read : ReadOut) → ReadsDisc p.late.drive new.drive (16 * (block_with lba + p.before)) 16 read → EndsRest lba (block_with lba + p.before) read out → ⊥
    by_read (reads.Unread named at) r tells =
        let met : MeetsUnread p.late.drive new.drive (16 * (block_with lba + p.before)) 16 named at = r.cause in
        let one = one_covered (block_with lba + p.before) in
        let few = met.is_named.covered in
        let here = its_block (block_with lba + p.before) in
        met.unread (subst (λ (b : ℕ). IsGood (cell_at (cells_in new.drive) b)) (sym (met.block_is ∙ ap (home new.drive) (omega (arith, one, few, here)))) good_home)
    by_read reads.Cut r tells = let stopped : StopsInRead p.late.drive new.drive (16 * (block_with lba + p.before)) 16 _ stops.Cut = r.cause in
        none_stopped p.late.drive new.drive _ stops.Cut reads_on.went.on none_then stopped.stopped
    by_read reads.Fault r tells = let stopped : StopsInRead p.late.drive new.drive (16 * (block_with lba + p.before)) 16 _ stops.Fault = r.cause in
        none_stopped p.late.drive new.drive _ stops.Fault reads_on.went.on none_then stopped.stopped
    by_read reads.Good r tells = tells
    by_read reads.NotFormatted r tells = tells
    by_read (reads.Range known) r tells = tells
    by_read reads.Off r tells = tells

    never_lacks : ⊥
    never_lacks = by_read p.read_out p.ends p.tells

  goes_in : (bytes : List ℕ) (out : WriteOut) → CachedCauseOf old new lba n bytes out → out ≡ writes.Good
  goes_in bytes writes.Good p = refl
  goes_in bytes writes.NotFormatted p = absurd p
  goes_in bytes (writes.Range known) p = let past = p.past.past in let fits = inside.inside in absurd (omega (arith, past, fits))
  goes_in bytes (writes.Unread named block) p = absurd (never_lacks (writes.Unread named block) p.1)
  goes_in bytes (writes.NoSpare named) p = made (writes.NoSpare named) p.1
  goes_in bytes (writes.NoUpdate counter) p = made (writes.NoUpdate counter) p.1
  goes_in bytes writes.Cut (there, inl p) = made writes.Cut p
  goes_in bytes writes.Cut (there, inr p) = absurd (never_lacks writes.Cut p)
  goes_in bytes writes.Off p = absurd p
  goes_in bytes writes.Fault (there, inl p) = made writes.Fault p
  goes_in bytes writes.Fault (there, inr p) = absurd (never_lacks writes.Fault p)

module _ (old new : CacheShown) (lba n : ℕ) (sound : IsSound old.drive) (known : IsKnown old.drive) (inside : IsInRange old.drive lba n) (none : NoneCounted old.drive new.drive)
    (can : ℕ → Bool) (all : leave_first (dropped old) lba n ≤ length (filter can (pending_covered false (dropped old) lba n)))
    (leaves : (i : ℕ) → Contains (pending_covered false (dropped old) lba n) i → can i ≡ true → ¬ CannotLeave new.drive i) (rests : CanReadRests (dropped old) new.drive lba n) where
  goes : (bytes : List ℕ) (out : WriteOut) → CachedCauseOf (dropped old) new lba n bytes out → out ≡ writes.Good
  goes bytes out p = goes_in (dropped old) new lba n (as_ready old.drive inside.on inside.formatted sound known) inside none can all leaves rests bytes out p

  pub into_good : (bytes : List ℕ) (out : WriteOut) → CachedCause old new lba n bytes out → out ≡ writes.Good
  into_good bytes writes.NotFormatted p = absurd (p.unformatted inside.formatted)
  into_good bytes writes.Off p = absurd (p.off inside.on)
  into_good bytes writes.Good p = refl
  into_good bytes (writes.Range known) p = goes bytes (writes.Range known) p
  into_good bytes (writes.Unread named block) p = goes bytes (writes.Unread named block) p
  into_good bytes (writes.NoSpare named) p = goes bytes (writes.NoSpare named) p
  into_good bytes (writes.NoUpdate counter) p = goes bytes (writes.NoUpdate counter) p
  into_good bytes writes.Cut p = goes bytes writes.Cut p
  into_good bytes writes.Fault p = goes bytes writes.Fault p
