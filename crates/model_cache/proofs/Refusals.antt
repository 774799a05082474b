-- What a refused write of a pending block leaves of the homes of blocks, and so a drain.
use Rattle.std.specs.Prelude.{◌≡◌, ◌≢◌, ℕ, zero, suc, ◌+◌, ◌*◌, ◌<◌, ◌≤◌, ◌⊎◌, Option, Some, None, List, [], ◌∷◌, length}
use Rattle.std.specs.List.{Contains}
use Rattle.std.proofs.Common.{arith, sym, ap, ◌∙◌, inl, inr, subst}
use Rattle.std.proofs.lemmas.Bool.{cases_eq}
use Rattle.model_geometry.specs.Geometry.{Shape, data_blocks}
use Rattle.model_geometry.proofs.ListBlocks.{no_data_block_sdl}
use Rattle.model_medium.specs.Cells.{Dead, IsGood, cell_at}
use Rattle.model_sectors.specs.Requests.{block_with, blocks_covered}
use Rattle.model_places.specs.Places.{Lists, logical_count, home_of}
use Rattle.model_places.specs.Valid.{AreValid}
use Rattle.model_volume.proofs.ListCells.{no_data_block_second}
use Rattle.model_volume.proofs.Moved.{home_is_data_block, homes_apart, home_not_free}
use Rattle.model_drive.specs.declared.WriteOut.{WriteOut}
use Rattle.model_drive.specs.declared.WriteOut.TheVariants as writes
use Rattle.model_drive.specs.Shown.{Shown, IsKnown, block_count, cells_in, home_cell}
use Rattle.model_drive.specs.Sound.{IsSound}
use Rattle.model_drive.specs.Course.{Placing}
use Rattle.model_drive.specs.Writes.{EndsWriting, WriteCause, next_block}
use Rattle.model_drive.proofs.Courses.{after_total}
use Rattle.model_drive.proofs.WriteTurns.{inside_count}
use Rattle.model_drive.proofs.Kept.{write_kept}
use Rattle.model_cache.specs.Shown.{CacheShown}
use Rattle.model_cache.specs.Drains.{IsRefusal, Refuses, Tries}
use Rattle.model_cache.proofs.Members.{Contains-none, Contains-cases}
use Rattle.model_cache.proofs.FlushedHomes.{after_other, home_is, count_is, one_covered, its_block, flushed_good, flush_leaves, flush_counts, flush_known, flush_inside}

-- ---- a write of a whole block that was refused

module _ (old new : Shown) (i : ℕ) (same_shape : new.shape ≡ old.shape) (sound : IsSound old) (lists : Lists) (course : List Placing) (reached : Lists) (uses : ℕ) (buffered_now : List ℕ)
    (ends : EndsWriting old new lists (16 * i) 16 course 1 reached uses buffered_now) (covered : length course < blocks_covered (16 * i) 16) where
  empty : length course ≡ 0
  empty = let one = one_covered i in omega (arith, one, covered)

  next_is : next_block (16 * i) course ≡ i
  next_is = let b = its_block i in let e = empty in omega (arith, b, e)

  valid : AreValid old.shape lists
  valid = (sound.in_use lists ends.wrote.in_use).valid

  fits : block_with (16 * i) + length course + 1 ≤ logical_count old.shape lists
  fits = let last = inside_count old (16 * i) 16 (length course) lists ends.wrote.in_use ends.wrote.inside covered in omega (arith, last)

  in_range : i < block_count old
  in_range = let b = its_block i in let f = fits in let c = count_is old lists ends.wrote.in_use in omega (arith, b, f, c)

  counts : block_count new ≡ block_count old
  counts = count_is new reached ends.now_in_use
      ∙ ap (λ (s : Shape). logical_count s reached) same_shape
      ∙ ap (logical_count old.shape) ends.wrote.reached_are
      ∙ after_total old.shape lists (block_with (16 * i)) valid course
      ∙ sym (count_is old lists ends.wrote.in_use)

  leaves : (j : ℕ) → j < block_count old → j ≢ i → home_cell new j ≡ home_cell old j
  leaves j inside ne =
      ap (cell_at (cells_in new)) (home_is new reached j ends.now_in_use
      ∙ ap (λ (s : Shape). home_of s reached j) same_shape
      ∙ ap (λ (l : Lists). home_of old.shape l j) ends.wrote.reached_are
      ∙ after_other old.shape lists (block_with (16 * i)) valid course (omega (arith, few)) ends.wrote.can j logical (λ k h same. (omega (arith, none, h))))
      ∙ same_cell
      ∙ ap (cell_at (cells_in old)) (sym (home_is old lists j ends.wrote.in_use))
    where
      few : block_with (16 * i) + length course + 1 ≤ logical_count old.shape lists
      few = fits

      none : length course ≡ 0
      none = empty

      logical : j < logical_count old.shape lists
      logical = subst (λ (c : ℕ). j < c) (count_is old lists ends.wrote.in_use) inside

      is_data : Contains (data_blocks old.shape) (home_of old.shape lists j)
      is_data = home_is_data_block old.shape lists valid j logical

      same_cell : cell_at (cells_in new) (home_of old.shape lists j) ≡ cell_at (cells_in old) (home_of old.shape lists j)
      same_cell = ends.wrote.only (home_of old.shape lists j)
          (λ k h same. ne (homes_apart old.shape lists valid j (block_with (16 * i) + k) logical (omega (arith, few, h)) same ∙ omega (arith, its_block i, none, h)))
          (λ k h. home_not_free old.shape lists valid (block_with (16 * i) + k) j logical)
          (λ area same. no_data_block_sdl old.shape area (subst (Contains (data_blocks old.shape)) same is_data))
          (λ area same. no_data_block_second old.shape area (subst (Contains (data_blocks old.shape)) same is_data))

-- what a refusal leaves
pub record Refused (old new : Shown) (i : ℕ) : Type 0 where
  pub in_range : i < block_count old
  pub dead : home_cell new i ≡ Dead
  pub counts : block_count new ≡ block_count old
  pub leaves : (j : ℕ) → j < block_count old → j ≢ i → home_cell new j ≡ home_cell old j
  pub as_known : new.medium.world.known ≡ old.medium.world.known

refused : (old new : Shown) (i : ℕ) → new.shape ≡ old.shape → IsSound old → (out : WriteOut) → IsRefusal out → WriteCause old new (16 * i) 16 out → Refused old new i
refused old new i same sound writes.Good no_refusal cause = absurd no_refusal
refused old new i same sound writes.NotFormatted no_refusal cause = absurd no_refusal
refused old new i same sound (writes.Range known) no_refusal cause = absurd no_refusal
refused old new i same sound (writes.Unread named block) no_refusal cause = absurd no_refusal
refused old new i same sound (writes.NoSpare named) is cause = record {
  in_range = in_range old new i same sound cause.lists cause.course cause.reached _ _ cause.ends cause.is_named.covered;
  dead = subst (λ (b : ℕ). home_cell new b ≡ Dead) (next_is old new i same sound cause.lists cause.course cause.reached _ _ cause.ends cause.is_named.covered) cause.dead;
  counts = counts old new i same sound cause.lists cause.course cause.reached _ _ cause.ends cause.is_named.covered;
  leaves = leaves old new i same sound cause.lists cause.course cause.reached _ _ cause.ends cause.is_named.covered;
  as_known = (write_kept old new (16 * i) 16 (writes.NoSpare named) cause).as_known;
}
refused old new i same sound (writes.NoUpdate counter) is cause = record {
  in_range = in_range old new i same sound cause.lists cause.course cause.reached _ _ cause.ends cause.covered;
  dead = subst (λ (b : ℕ). home_cell new b ≡ Dead) (next_is old new i same sound cause.lists cause.course cause.reached _ _ cause.ends cause.covered) cause.dead;
  counts = counts old new i same sound cause.lists cause.course cause.reached _ _ cause.ends cause.covered;
  leaves = leaves old new i same sound cause.lists cause.course cause.reached _ _ cause.ends cause.covered;
  as_known = (write_kept old new (16 * i) 16 (writes.NoUpdate counter) cause).as_known;
}
refused old new i same sound writes.Cut no_refusal cause = absurd no_refusal
refused old new i same sound writes.Off no_refusal cause = absurd no_refusal
refused old new i same sound writes.Fault no_refusal cause = absurd no_refusal

pub refuses : (old new : CacheShown) (i : ℕ) (out : WriteOut) → Refuses old new i out → IsSound old.drive → Refused old.drive new.drive i
refuses old new i out is sound = refused old.drive new.drive i is.back.leaves.same_shape sound out is.refused is.back.wrote

-- ---- the first refusal

pub tells_first : (due : List ℕ) (enough short : ℕ) (old new : CacheShown) (first : Option WriteOut) → Tries old due enough new (suc short) first → enough ≤ length due → first ≢ None
tells_first due zero short old new first tries few none = (let h : suc short ≡ 0 = tries.1 in omega (arith, h))
tells_first [] (suc enough) short old new first tries few none = (omega (arith, few))
tells_first (i ∷ due) (suc enough) short old new first (inl (mid, flush, later)) few none = tells_first due enough short mid new first later (omega (arith, few)) none
tells_first (i ∷ due) (suc enough) short old new first (inr (mid, answer, told, is, later, first_is)) few none = (let h : Some answer ≡ None = sym first_is ∙ none in cc)
