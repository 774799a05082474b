-- A read that meets a block which cannot be read meets one that a pass found.
use Rattle.std.proofs.Common.{◌≡◌, ℕ, zero, suc, ◌+◌, ◌-◌, ◌*◌, ◌<◌, ◌≤◌, ◌⊎◌, inl, inr, Option, Some, None, List, [], ◌∷◌, Contains, refl, sym, ◌∙◌, ap, subst, arith}
use Rattle.model_buffer.specs.Buffer.{bytes_at}
use Rattle.model_geometry.specs.Geometry.{Shape}
use Rattle.model_medium.specs.Cells.{Cell, Blank, Good, Torn, Dead, IsGood, IsGoodOrDead, cell_at}
use Rattle.model_medium.specs.Reach.{NoCutCame, CutCame, IsWornWithin, WornBy, CutStands, CutFell, Reach}
use Rattle.model_medium.specs.declared.WornBlock.{WornBlock}
use Rattle.model_sectors.specs.Requests.{block_with, blocks_covered, start_in, end_in, NamesBlock}
use Rattle.model_sectors.specs.declared.ReadOut.TheVariants as reads
use Rattle.model_sectors.proofs.Covering.{covered_inside, block_with_start}
use Rattle.model_places.specs.Places.{Lists}
use Rattle.model_drive.specs.Shown.{Shown, IsOn, cells_in, block_count, capacity, home, home_cell}
use Rattle.model_drive.specs.Reads.{MeetsUnread}
use Rattle.model_cache.specs.Shown.{CacheShown, dropped}
use Rattle.model_cache.specs.Causes.{ReadsPart, ReadsParts, EndsReading, CacheReadBy, CacheReadCause}
use Rattle.model_scrub.specs.Asks.{AreUnreadNow, StayWhole}

-- the block with the sector that is named is k behind the first one
named_block : (lba n named k : ℕ) → NamesBlock lba n named k → block_with named ≡ block_with lba + k
named_block lba n named k is = ap block_with is.first ∙ block_with_start lba n k is.covered

-- the home of a block is where the lists in use say
same_home : (old new : Shown) (j : ℕ) → new.shape ≡ old.shape → new.lists ≡ old.lists → home new j ≡ home old j
same_home old new j shape lists =
    subst (λ (s : Shape). home (record new { shape = s }) j ≡ home old j) (sym shape)
    (subst (λ (l : Option Lists). home (record new { shape = old.shape; lists = l }) j ≡ home old j) (sym lists) refl)

-- the block that a read of the disc met, and its home
pub record Meets (old new : Shown) (named : ℕ) : Type 0 where
  pub inside : block_with named < block_count old
  pub unread : ¬ IsGood (home_cell new (block_with named))

pub meets : (old new : Shown) (lba n named block : ℕ) → MeetsUnread old new lba n named block → Meets old new named
meets old new lba n named block cause =
    let is = named_block lba n named cause.before cause.is_named in
    let range = cause.inside.inside in
    let below : lba + n ≤ 16 * block_count old = omega (arith, range) in
    record {
      inside = subst (λ (j : ℕ). j < block_count old) (sym is) (covered_inside lba n cause.before (block_count old) below cause.is_named.covered);
      unread = subst (λ (j : ℕ). ¬ IsGood (home_cell new j)) (sym is) (subst (λ (b : ℕ). ¬ IsGood (cell_at (cells_in new) b)) cause.block_is cause.unread);
    }

-- the disc has the same lists
record SameLists (old new : Shown) : Type 0 where
  shape : new.shape ≡ old.shape
  lists : new.lists ≡ old.lists

no_change : (old new : CacheShown) → new ≡ old → SameLists old.drive new.drive
no_change old new is = record { shape = ap (λ (s : CacheShown). s.drive.shape) is; lists = ap (λ (s : CacheShown). s.drive.lists) is }

module _ (lba n : ℕ) where
  one_part : (i : ℕ) (old new : CacheShown) (held : Option (List ℕ)) → ReadsPart old new lba n i held reads.Good → SameLists old.drive new.drive
  one_part i old new (Some bytes) p = no_change old new p.1
  one_part i old new None p = record { shape = p.0.leaves.same_shape; lists = p.0.cause.keeps.same_lists }

  parts : (k : ℕ) (old new : CacheShown) → ReadsParts old new lba n k → SameLists old.drive new.drive
  parts zero old new is = no_change old new is
  parts (suc k) old new (mid, before, last) =
      let first = parts k old mid before in
      let then = one_part (block_with lba + k) mid new (bytes_at (block_with lba + k) old.pending) last in
      record { shape = then.shape ∙ first.shape; lists = then.lists ∙ first.lists }

module _ (old new : CacheShown) (found : List ℕ) (are : AreUnreadNow old.drive found) (whole : StayWhole old.drive new.drive) (lba n named block : ℕ) where
  -- it was found, since its home has stayed
  was_found : (mid : CacheShown) → SameLists old.drive mid.drive → SameLists mid.drive new.drive → Meets mid.drive new.drive named → Contains found (block_with named)
  was_found mid first then is = (are (block_with named)).1 (inside, λ good. is.unread (now good))
    where
      inside : block_with named < block_count old.drive
      inside = subst (λ (s : Shape). block_with named < block_count (record old.drive { shape = s })) first.shape
          (subst (λ (l : Option Lists). block_with named < block_count (record old.drive { shape = mid.drive.shape; lists = l })) first.lists is.inside)

      there : home new.drive (block_with named) ≡ home old.drive (block_with named)
      there = same_home mid.drive new.drive (block_with named) then.shape then.lists ∙ same_home old.drive mid.drive (block_with named) first.shape first.lists

      now : IsGood (home_cell old.drive (block_with named)) → IsGood (home_cell new.drive (block_with named))
      now good = subst (λ (b : ℕ). IsGood (cell_at (cells_in new.drive) b)) (sym there) (whole (home old.drive (block_with named)) good)

  by_pending : (pending : List (ℕ × List ℕ)) → CacheReadBy pending (dropped old) new lba n (reads.Unread named block) → Contains found (block_with named)
  by_pending [] p =
      was_found old (record { shape = refl; lists = refl }) (record { shape = p.0.leaves.same_shape; lists = p.0.cause.keeps.same_lists })
      (meets old.drive new.drive lba n named block p.0.cause)
  by_pending (held ∷ pending) p =
      let at : ℕ = block_with lba + p.before in
      let last = p.ends.0 in
      was_found p.mid (parts lba n p.before (dropped old) p.mid p.parts) (record { shape = last.leaves.same_shape; lists = last.cause.keeps.same_lists })
      (meets p.mid.drive new.drive (start_in lba at) (end_in lba n at - start_in lba at) named block last.cause)

  pub read_meets : CacheReadCause old new lba n (reads.Unread named block) → Contains found (block_with named)
  read_meets cause = by_pending (dropped old).pending cause

-- ---- while no block is armed none dies

no_good_death : (cell : Cell) → IsGood cell → cell ≡ Dead → ⊥
no_good_death cell good dead = subst IsGood dead good

not_dead : (cell : Cell) → IsGoodOrDead cell → ¬ (cell ≡ Dead) → IsGood cell
not_dead Blank left alive = absurd left
not_dead (Good bytes) left alive = tt
not_dead Torn left alive = absurd left
not_dead Dead left alive = absurd (alive refl)

-- what is good stays so, and nothing is armed
record StaysUnarmed (old new : Shown) : Type 0 where
  whole : StayWhole old new
  unarmed : new.medium.arms ≡ []

none_left : (k : ℕ) (cells : List Cell) (arms arms' : List WornBlock) → arms ≡ [] → WornBy k cells arms arms' → arms' ≡ []
none_left k cells [] [] is worn = refl
none_left k cells [] (arm ∷ arms') is worn = absurd worn
none_left k cells (arm ∷ arms) arms' is worn = cc

none_within : (k block : ℕ) (arms : List WornBlock) → arms ≡ [] → IsWornWithin k block arms → ⊥
none_within k block [] is within = within
none_within k block (arm ∷ arms) is within = cc

reaches_whole : (old new : Shown) (k : ℕ) → Reach old.medium new.medium k → IsOn new → old.medium.arms ≡ [] → StaysUnarmed old new
reaches_whole old new k reach on none = record { whole = λ block good. kept block good reach.ends; unarmed = none_left k (cells_in new) old.medium.arms new.medium.arms none reach.arms }
  where
    alive : (block : ℕ) → IsGood (cell_at (cells_in old) block) → IsGoodOrDead (cell_at (cells_in new) block) → IsGood (cell_at (cells_in new) block)
    alive block good left = not_dead (cell_at (cells_in new) block) left (λ dead. elim (reach.dies_by_arm block dead) [
      | inl was ↦ no_good_death (cell_at (cells_in old) block) good was
      | inr within ↦ none_within k block old.medium.arms none within
    ])

    kept : (block : ℕ) → IsGood (cell_at (cells_in old) block) → (NoCutCame old.medium.world new.medium.world × CutStands k old.medium.cut new.medium.cut) ⊎ (CutCame old.medium.world new.medium.world × CutFell k old.medium.cut new.medium.cut)
        → IsGood (cell_at (cells_in new) block)
    kept block good (inl stands) = alive block good (stands.0.stays_good block good)
    kept block good (inr fell) = absurd (fell.0.turns_off on)

unarmed_same : (old new : CacheShown) → new ≡ old → old.drive.medium.arms ≡ [] → StaysUnarmed old.drive new.drive
unarmed_same old new is none = subst (λ (s : CacheShown). StaysUnarmed old.drive s.drive) (sym is) (record { whole = λ block good. good; unarmed = none })

unarmed_join : (a b c : Shown) → StaysUnarmed a b → StaysUnarmed b c → StaysUnarmed a c
unarmed_join a b c first then = record { whole = λ block good. then.whole block (first.whole block good); unarmed = then.unarmed }

module _ (lba n : ℕ) where
  part_unarmed : (i : ℕ) (old new : CacheShown) (held : Option (List ℕ)) → ReadsPart old new lba n i held reads.Good → old.drive.medium.arms ≡ [] → StaysUnarmed old.drive new.drive
  part_unarmed i old new (Some bytes) p none = unarmed_same old new p.1 none
  part_unarmed i old new None p none = reaches_whole old.drive new.drive _ p.0.cause.ends.reach p.0.cause.ends.is_on none

  parts_unarmed : (k : ℕ) (old new : CacheShown) → ReadsParts old new lba n k → old.drive.medium.arms ≡ [] → StaysUnarmed old.drive new.drive
  parts_unarmed zero old new is none = unarmed_same old new is none
  parts_unarmed (suc k) old new (mid, before, last) none =
      let first = parts_unarmed k old mid before none in
      unarmed_join old.drive mid.drive new.drive first (part_unarmed (block_with lba + k) mid new (bytes_at (block_with lba + k) old.pending) last first.unarmed)

module _ (old new : CacheShown) (lba n named block : ℕ) (none : old.drive.medium.arms ≡ []) where
  pending_unarmed : (pending : List (ℕ × List ℕ)) → CacheReadBy pending (dropped old) new lba n (reads.Unread named block) → StayWhole old.drive new.drive
  pending_unarmed [] p = (reaches_whole old.drive new.drive _ p.0.cause.ends.reach p.0.cause.ends.is_on none).whole
  pending_unarmed (held ∷ pending) p =
      let first = parts_unarmed lba n p.before (dropped old) p.mid p.parts none in
      let last = p.ends.0.cause in
      (unarmed_join old.drive p.mid.drive new.drive first (reaches_whole p.mid.drive new.drive _ last.ends.reach last.ends.is_on first.unarmed)).whole

  pub read_unarmed : CacheReadCause old new lba n (reads.Unread named block) → StayWhole old.drive new.drive
  read_unarmed cause = pending_unarmed (dropped old).pending cause
