-- After blocks were flushed one after another each of them has whole bytes in its home: the home of a block that is flushed has them,
-- and a flush leaves the homes of the others.
use Rattle.std.specs.Prelude.{◌≡◌, ◌≢◌, ℕ, ◌+◌, ◌*◌, ◌<◌, ◌≤◌, nat_lt, suc, zero, Option, Some, List, [], ◌∷◌, length}
use Rattle.std.specs.Option.{option_map_or}
use Rattle.std.specs.List.{Contains}
use Rattle.std.proofs.Common.{arith, refl, sym, ap, ◌∙◌, inl, inr, subst}
use Rattle.std.proofs.lemmas.Bool.{cases_eq, lt-ltb}
use Rattle.model_geometry.specs.Geometry.{Shape, data_blocks}
use Rattle.model_geometry.proofs.ListBlocks.{no_data_block_sdl}
use Rattle.model_buffer.specs.Buffer.{numbers_in}
use Rattle.model_medium.specs.Cells.{IsGood, cell_at}
use Rattle.model_sectors.specs.Requests.{block_with, blocks_covered}
use Rattle.model_places.specs.Places.{Lists, logical_count, home_of}
use Rattle.model_places.specs.Valid.{AreValid}
use Rattle.model_volume.proofs.ListCells.{no_data_block_second}
use Rattle.model_volume.proofs.Moved.{home_is_data_block, homes_apart, home_not_free}
use Rattle.model_drive.specs.declared.WriteOut.{WriteOut}
use Rattle.model_drive.specs.declared.WriteOut.TheVariants as writes
use Rattle.model_drive.specs.Shown.{Shown, IsKnown, block_count, cells_in, home, home_cell}
use Rattle.model_drive.specs.Sound.{IsSound}
use Rattle.model_drive.specs.Course.{Placing, lists_reached, CanTakeCourse}
use Rattle.model_drive.specs.Writes.{WritesAll}
use Rattle.model_drive.proofs.Courses.{after_total, after_valid, after_good, placed_other}
use Rattle.model_drive.proofs.WriteTurns.{inside_count}
use Rattle.model_drive.proofs.Kept.{write_kept}
use Rattle.model_cache.specs.declared.SyncOut.TheVariants as syncs
use Rattle.model_cache.specs.Shown.{CacheShown, dropped, pending_in, pending_below}
use Rattle.model_cache.specs.Chains.{Flushes}
use Rattle.model_cache.specs.Drains.{Tries}
use Rattle.model_cache.specs.Causes.{SyncCause}
use Rattle.model_cache.proofs.Members.{Contains-none, Contains-first, Contains-later, Contains-cases, Contains-kept}

-- a block that a course does not come to is where it was
pub after_other : (shape : Shape) (lists : Lists) (first : ℕ) (valid : AreValid shape lists) (course : List Placing) → first + length course ≤ logical_count shape lists → CanTakeCourse shape lists first course
    → (j : ℕ) → j < logical_count shape lists → ((k : ℕ) → k < length course → j ≢ first + k) → home_of shape (lists_reached shape lists first course) j ≡ home_of shape lists j
after_other shape lists first valid [] inside can j h apart = refl
after_other shape lists first valid (placing ∷ earlier) inside can j h apart =
    let total = after_total shape lists first valid earlier in
    placed_other shape (lists_reached shape lists first earlier) (first + length earlier) placing (after_valid shape lists first valid earlier (omega (arith, inside)) can.1) (omega (arith, total, inside)) can.0 j (omega (arith, total, h)) (apart (length earlier) (omega arith))
    ∙ after_other shape lists first valid earlier (omega (arith, inside)) can.1 j h (λ k h. apart k (omega (arith, h)))

-- the home by the lists in use
pub home_is : (shown : Shown) (lists : Lists) (j : ℕ) → shown.lists ≡ Some lists → home shown j ≡ home_of shown.shape lists j
home_is shown lists j in_use = ap (λ (o : Option Lists). option_map_or (λ l. home_of shown.shape l j) o 0) in_use

pub count_is : (shown : Shown) (lists : Lists) → shown.lists ≡ Some lists → block_count shown ≡ logical_count shown.shape lists
count_is shown lists in_use = ap (λ (o : Option Lists). option_map_or (logical_count shown.shape) o 0) in_use

-- a write of sectors that was answered Good
module _ (old new : Shown) (lba n : ℕ) (same_shape : new.shape ≡ old.shape) (sound : IsSound old) (cause : WritesAll old new lba n) where
  valid : AreValid old.shape cause.lists
  valid = (sound.in_use cause.lists cause.ends.wrote.in_use).valid

  fits : (some : ℕ) → blocks_covered lba n ≡ some + 1 → block_with lba + length cause.course ≤ logical_count old.shape cause.lists
  fits some count =
      let last = inside_count old lba n some cause.lists cause.ends.wrote.in_use cause.ends.wrote.inside (omega (arith, count)) in
      let all : length cause.course ≡ blocks_covered lba n = cause.all in
      omega (arith, last, all, count)

  home_now : (j : ℕ) → home new j ≡ home_of old.shape (lists_reached old.shape cause.lists (block_with lba) cause.course) j
  home_now j = home_is new cause.reached j cause.ends.now_in_use
      ∙ ap (λ (s : Shape). home_of s cause.reached j) same_shape
      ∙ ap (λ (l : Lists). home_of old.shape l j) cause.ends.wrote.reached_are

  count_stays : block_count new ≡ block_count old
  count_stays = count_is new cause.reached cause.ends.now_in_use
      ∙ ap (λ (s : Shape). logical_count s cause.reached) same_shape
      ∙ ap (logical_count old.shape) cause.ends.wrote.reached_are
      ∙ after_total old.shape cause.lists (block_with lba) valid cause.course
      ∙ sym (count_is old cause.lists cause.ends.wrote.in_use)

  module _ (some : ℕ) (count : blocks_covered lba n ≡ some + 1) where
    -- a covered block has whole bytes in its home
    covered_good : IsKnown old → (k : ℕ) → k < blocks_covered lba n → IsGood (home_cell new (block_with lba + k))
    covered_good known k h =
        let all : length cause.course ≡ blocks_covered lba n = cause.all in
        subst (λ (b : ℕ). IsGood (cell_at (cells_in new) b)) (sym (home_now (block_with lba + k)))
        (after_good old.shape cause.lists (block_with lba) valid (cells_in new) cause.course (fits some count) cause.ends.wrote.can (cause.ends.wrote.took known) k (omega (arith, all, h)))

    module _ (j : ℕ) (inside : j < block_count old) (apart : (k : ℕ) → k < blocks_covered lba n → j ≢ block_with lba + k) where
      is_logical : j < logical_count old.shape cause.lists
      is_logical = subst (λ (c : ℕ). j < c) (count_is old cause.lists cause.ends.wrote.in_use) inside

      is_data : Contains (data_blocks old.shape) (home_of old.shape cause.lists j)
      is_data = home_is_data_block old.shape cause.lists valid j is_logical

      same_cell : cell_at (cells_in new) (home_of old.shape cause.lists j) ≡ cell_at (cells_in old) (home_of old.shape cause.lists j)
      same_cell =
          let all : length cause.course ≡ blocks_covered lba n = cause.all in
          let few = fits some count in
          cause.ends.wrote.only (home_of old.shape cause.lists j)
          (λ k h same. apart k (omega (arith, all, h)) (homes_apart old.shape cause.lists valid j (block_with lba + k) is_logical (omega (arith, few, h)) same))
          (λ k h. home_not_free old.shape cause.lists valid (block_with lba + k) j is_logical)
          (λ area same. no_data_block_sdl old.shape area (subst (Contains (data_blocks old.shape)) same is_data))
          (λ area same. no_data_block_second old.shape area (subst (Contains (data_blocks old.shape)) same is_data))

      -- and the home of another block is as it was
      other_stays : home_cell new j ≡ home_cell old j
      other_stays =
          let all : length cause.course ≡ blocks_covered lba n = cause.all in
          ap (cell_at (cells_in new)) (home_now j ∙ after_other old.shape cause.lists (block_with lba) valid cause.course (fits some count) cause.ends.wrote.can j is_logical (λ k h. apart k (omega (arith, all, h))))
          ∙ same_cell
          ∙ ap (cell_at (cells_in old)) (sym (home_is old cause.lists j cause.ends.wrote.in_use))

-- ---- one flush

pub one_covered : (i : ℕ) → blocks_covered (16 * i) 16 ≡ 0 + 1
one_covered i = omega arith

pub its_block : (i : ℕ) → block_with (16 * i) + 0 ≡ i
its_block i = omega arith

pub first_alone : (i k : ℕ) → k < blocks_covered (16 * i) 16 → block_with (16 * i) + k ≡ i
first_alone i k covered =
    let count = one_covered i in
    let there = its_block i in
    omega (arith, count, there, covered)

module _ (old new : CacheShown) (i : ℕ) (flush : Flushes old new i) (sound : IsSound old.drive) where
  pub flushed_good : IsKnown old.drive → IsGood (home_cell new.drive i)
  flushed_good known =
      let count = one_covered i in
      subst (λ (b : ℕ). IsGood (home_cell new.drive b)) (its_block i)
      (covered_good old.drive new.drive (16 * i) 16 flush.back.leaves.same_shape sound flush.back.wrote 0 count known 0 (omega (arith, count)))

  pub flush_leaves : (j : ℕ) → j < block_count old.drive → j ≢ i → home_cell new.drive j ≡ home_cell old.drive j
  flush_leaves j inside ne =
      other_stays old.drive new.drive (16 * i) 16 flush.back.leaves.same_shape sound flush.back.wrote 0 (one_covered i) j inside
      (λ k h same. ne (same ∙ first_alone i k h))

  pub flush_counts : block_count new.drive ≡ block_count old.drive
  flush_counts = count_stays old.drive new.drive (16 * i) 16 flush.back.leaves.same_shape sound flush.back.wrote

  pub flush_inside : i < block_count old.drive
  flush_inside =
      let p = flush.back.wrote in
      let count = one_covered i in
      subst (λ (c : ℕ). i < c) (sym (count_is old.drive p.lists p.ends.wrote.in_use))
      (subst (λ (b : ℕ). b < logical_count old.drive.shape p.lists) (its_block i) (inside_count old.drive (16 * i) 16 0 p.lists p.ends.wrote.in_use p.ends.wrote.inside (omega (arith, count))))

  pub flush_known : IsKnown old.drive → IsKnown new.drive
  flush_known known = (write_kept old.drive new.drive (16 * i) 16 writes.Good flush.back.wrote).as_known ∙ known

-- ---- one after another

-- these blocks were flushed, and none was refused
abbrev pub FlushesAll : CacheShown → List ℕ → CacheShown → Type 0
FlushesAll old [] new = new ≡ old
FlushesAll old (i ∷ due) new = (mid : CacheShown) × Flushes old mid i × FlushesAll mid due new

-- no more leave than are due
at_most : (due : List ℕ) (enough short : ℕ) (old new : CacheShown) (first : Option WriteOut) → Tries old due enough new short first → enough ≤ length due + short
at_most due zero short old new first tries = omega arith
at_most [] (suc enough) short old new first tries = let is = tries.1 in omega (arith, is)
at_most (i ∷ due) (suc enough) short old new first (inl (mid, flush, later)) = let few = at_most due enough short mid new first later in omega (arith, few)
at_most (i ∷ due) (suc enough) short old new first (inr (mid, out, told, is, later, first_is)) = let few = at_most due (suc enough) short mid new told later in omega (arith, few)

-- so none was refused where all left
pub all_flushed : (due : List ℕ) (enough : ℕ) (old new : CacheShown) (first : Option WriteOut) → length due ≤ enough → Tries old due enough new 0 first → FlushesAll old due new
all_flushed [] zero old new first all tries = tries.0
all_flushed [] (suc enough) old new first all tries = tries.0
all_flushed (i ∷ due) zero old new first all tries = absurd (omega (arith, all))
all_flushed (i ∷ due) (suc enough) old new first all (inl (mid, flush, later)) = (mid, flush, all_flushed due enough mid new first (omega (arith, all)) later)
all_flushed (i ∷ due) (suc enough) old new first all (inr (mid, out, told, is, later, first_is)) = let few = at_most due (suc enough) 0 mid new told later in absurd (omega (arith, few, all))

-- a block that has whole bytes in its home keeps them
pub stays_good : (due : List ℕ) (old new : CacheShown) → IsSound old.drive → IsKnown old.drive → FlushesAll old due new → (j : ℕ) → j < block_count old.drive
    → IsGood (home_cell old.drive j) → IsGood (home_cell new.drive j)
stays_good [] old new sound known is j inside good = subst (λ (s : CacheShown). IsGood (home_cell s.drive j)) (sym is) good
stays_good (i ∷ due) old new sound known is j inside good =
    stays_good due is.0 new is.1.back.leaves.sound (flush_known old is.0 i is.1 sound known) is.2 j
    (subst (λ (c : ℕ). j < c) (sym (flush_counts old is.0 i is.1 sound)) inside) (elim (cases_eq j i) [
      | inl same ↦ subst (λ (b : ℕ). IsGood (home_cell is.0.drive b)) (sym same) (flushed_good old is.0 i is.1 sound known)
      | inr ne ↦ subst IsGood (sym (flush_leaves old is.0 i is.1 sound j inside ne)) good
    ])

-- each block that was flushed has them
pub all_good : (due : List ℕ) (old new : CacheShown) → IsSound old.drive → IsKnown old.drive → FlushesAll old due new → (j : ℕ) → Contains due j
    → IsGood (home_cell new.drive j)
all_good [] old new sound known is j has = absurd (Contains-none j has)
all_good (i ∷ due) old new sound known is j has =
    let known' = flush_known old is.0 i is.1 sound known in
    elim (Contains-cases i due j has) [
      | inl same ↦ stays_good due is.0 new is.1.back.leaves.sound known' is.2 j
          (subst (λ (c : ℕ). j < c) (sym (flush_counts old is.0 i is.1 sound)) (subst (λ (b : ℕ). b < block_count old.drive) same (flush_inside old is.0 i is.1 sound)))
          (subst (λ (b : ℕ). IsGood (home_cell is.0.drive b)) same (flushed_good old is.0 i is.1 sound known))
      | inr later ↦ all_good due is.0 new is.1.back.leaves.sound known' is.2 j later
    ]

-- ---- of pending blocks

pub numbered : (pending : List (ℕ × List ℕ)) (i : ℕ) (bytes : List ℕ) → Contains {X = ℕ × List ℕ} pending (i, bytes) → Contains (numbers_in pending) i
numbered [] i bytes has = absurd (Contains-none {X = ℕ × List ℕ} (i, bytes) has)
numbered (held ∷ pending) i bytes has = elim (Contains-cases {X = ℕ × List ℕ} held pending (i, bytes) has) [
  | inl same ↦ subst (λ (n : ℕ). Contains (held.0 ∷ numbers_in pending) n) (ap (λ (h : ℕ × List ℕ). h.0) same) (Contains-first held.0 (numbers_in pending))
  | inr later ↦ Contains-later held.0 (numbers_in pending) i (numbered pending i bytes later)
]

-- a pending block that the disc has is due in a synchronisation
pub is_due : (shown : CacheShown) (i : ℕ) (bytes : List ℕ) → Contains {X = ℕ × List ℕ} shown.pending (i, bytes) → i < block_count shown.drive → Contains (pending_in (dropped shown)) i
is_due shown i bytes has inside =
    numbered (pending_below (block_count shown.drive) shown.pending) i bytes
    (Contains-kept {X = ℕ × List ℕ} (λ (held : ℕ × List ℕ). nat_lt held.0 (block_count shown.drive)) shown.pending (i, bytes) (lt-ltb i (block_count shown.drive) inside) has)

-- so it has whole bytes in its home after one that was answered Good
pub synced_good : (old new : CacheShown) → SyncCause old new syncs.Good → IsSound old.drive → IsKnown old.drive → (i : ℕ) (bytes : List ℕ)
    → Contains {X = ℕ × List ℕ} old.pending (i, bytes) → i < block_count old.drive → IsGood (home_cell new.drive i)
synced_good old new cause sound known i bytes has inside =
    all_good (pending_in (dropped old)) (dropped old) new sound known
    (all_flushed (pending_in (dropped old)) (length (pending_in (dropped old))) (dropped old) new cause.drained.0 (omega arith) cause.drained.1) i (is_due old i bytes has inside)
