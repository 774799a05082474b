-- That a block which is not pending keeps living over the calls of a disc, and over what a write cache flushes. What is said of the
-- causes of flushes stands here alone.
use Rattle.std.specs.Prelude.{◌≡◌, ◌≢◌, ℕ, zero, suc, ◌+◌, ◌*◌, ◌<◌, ◌==◌, not, Option, Some, List, [], ◌∷◌, length}
use Rattle.std.specs.List.{Contains}
use Rattle.std.proofs.Common.{sym, ◌∙◌, inl, inr, subst}
use Rattle.model_geometry.specs.Geometry.{Shape}
use Rattle.model_sectors.specs.Requests.{block_with, blocks_covered}
use Rattle.model_sectors.specs.declared.ReadOut.{ReadOut}
use Rattle.model_drive.specs.declared.WriteOut.{WriteOut}
use Rattle.model_drive.specs.declared.WriteOut.TheVariants as writes
use Rattle.model_drive.specs.Shown.{Shown}
use Rattle.model_drive.specs.Reads.{ReadCause}
use Rattle.model_drive.specs.Writes.{WriteCause}
use Rattle.model_drive.proofs.Kept.{read_kept, write_kept}
use Rattle.model_costs.specs.Costs.{Lives, IsNotStoppedIn}
use Rattle.model_costs.proofs.Living.{read_living, write_living}
use Rattle.model_cache.specs.declared.SyncOut.{SyncOut}
use Rattle.model_cache.specs.declared.SyncOut.TheVariants as syncs
use Rattle.model_cache.specs.declared.TickOut.{TickOut}
use Rattle.model_cache.specs.declared.TickOut.TheVariants as ticks
use Rattle.model_cache.specs.Values.{IsPending}
use Rattle.model_cache.specs.Shown.{CacheShown, dropped, pending_in, pending_but}
use Rattle.model_cache.specs.Chains.{LeavesSound, WritesBack, Flushes, leaves_pending}
use Rattle.model_cache.specs.Drains.{Refuses, Tries, StopsTrying, DrainCause}
use Rattle.model_cache.specs.Causes.{as_write, SyncCause, TriesOldest, TickCauseOf, TickCause}
use Rattle.model_cache.proofs.Members.{Contains-none, Contains-passed}
use Rattle.model_cache.proofs.Behind.{was_there}
use Rattle.model_cache.proofs.FlushedHomes.{first_alone}
use Rattle.ram_machine.proofs.SoundChains.{IsWell}
use Rattle.ram_machine.proofs.OnlyTold.{still_pending}

-- ---- pending blocks

pub none_pending : (pending : List (ℕ × List ℕ)) (i : ℕ) → pending ≡ [] → IsPending pending i → ⊥
none_pending pending i none (bytes, has) = Contains-none {X = ℕ × List ℕ} (i, bytes) (subst (λ (p : List (ℕ × List ℕ)). Contains p (i, bytes)) none has)

-- what was taken out of a list was in it
pub taken_out : (pending now : List (ℕ × List ℕ)) (i j : ℕ) → now ≡ pending_but j pending → IsPending now i → IsPending pending i
taken_out pending now i j is (bytes, has) =
    (bytes, (Contains-passed {X = ℕ × List ℕ} (λ (held : ℕ × List ℕ). not (held.0 == j)) pending (i, bytes) (subst (λ (p : List (ℕ × List ℕ)). Contains p (i, bytes)) is has)).1)

pub as_was : (pending now : List (ℕ × List ℕ)) (i : ℕ) → now ≡ pending → IsPending now i → IsPending pending i
as_was pending now i is held = subst (λ (p : List (ℕ × List ℕ)). IsPending p i) is held

-- what a write that was not good leaves pending was pending
pub left_pending : (out : WriteOut) (pending now : List (ℕ × List ℕ)) (i : ℕ) → now ≡ leaves_pending out pending → IsPending now i → IsPending pending i
left_pending writes.Cut pending now i is held = absurd (none_pending now i is held)
left_pending writes.Fault pending now i is held = absurd (none_pending now i is held)
left_pending out pending now i is held = as_was pending now i is held

-- no block of a request is this one
abbrev pub IsApart : (i lba n : ℕ) → Type 0
IsApart i lba n = (k : ℕ) → k < blocks_covered lba n → i ≢ block_with lba + k

module _ (shape : Shape) (i : ℕ) where
  -- What holds of a disc from one call to the next: it is sound and known, and the block lives.
  pub record LivesOn (shown : Shown) : Type 0 where
    pub well : IsWell shape shown
    pub lives : Lives shown i

  -- and of one with a write cache: the block is not pending either
  pub record IsKept (shown : CacheShown) : Type 0 where
    pub on : LivesOn shown.drive
    pub settled : ¬ IsPending shown.pending i

  pub same_kept : (old new : CacheShown) → new ≡ old → IsKept old → IsKept new
  same_kept old new is kept = subst IsKept (sym is) kept

  pub dropped_kept : (old : CacheShown) → IsKept old → IsKept (dropped old)
  dropped_kept old kept = record { on = kept.on; settled = λ held. kept.settled (held.0, still_pending old i held.0 held.1) }

  -- ---- a call of the disc

  pub read_lives : (a b : Shown) (lba n : ℕ) (out : ReadOut) → LeavesSound a b → ReadCause a b lba n out → LivesOn a → LivesOn b
  read_lives a b lba n out leaves cause on =
      let known = (read_kept a b lba n out cause).as_known ∙ on.well.known in
      record {
        well = record { sound = leaves.sound; known = known; same_shape = leaves.same_shape ∙ on.well.same_shape };
        lives = read_living i a b leaves.same_shape leaves.sound known lba n out on.lives cause;
      }

  -- a write that does not come to the block is not stopped in it
  not_stopped : (a b : Shown) (lba n : ℕ) (out : WriteOut) → IsApart i lba n → IsNotStoppedIn a b lba n out i
  not_stopped a b lba n writes.Cut apart = λ stops. apart (length stops.course) stops.covered
  not_stopped a b lba n writes.Fault apart = λ stops. apart (length stops.course) stops.covered
  not_stopped a b lba n out apart = tt

  pub write_lives : (a b : Shown) (lba n : ℕ) (out : WriteOut) → LeavesSound a b → WriteCause a b lba n out → IsApart i lba n → LivesOn a → LivesOn b
  write_lives a b lba n out leaves cause apart on =
      let known = (write_kept a b lba n out cause).as_known ∙ on.well.known in
      record {
        well = record { sound = leaves.sound; known = known; same_shape = leaves.same_shape ∙ on.well.same_shape };
        lives = write_living i a b leaves.same_shape leaves.sound known on.well.known on.lives on.well.sound lba n out (not_stopped a b lba n out apart) cause;
      }

  -- ---- flushes

  -- the block that is written is another one, since it was pending
  pub back_lives : (old new : CacheShown) (j : ℕ) (out : WriteOut) → WritesBack old new j out → IsKept old → LivesOn new.drive
  back_lives old new j out back kept =
      write_lives old.drive new.drive (16 * j) 16 out back.leaves back.wrote
      (λ k covered is. kept.settled (subst (IsPending old.pending) (sym (is ∙ first_alone j k covered)) (back.bytes, back.was_pending))) kept.on

  flush_kept : (old new : CacheShown) (j : ℕ) → Flushes old new j → IsKept old → IsKept new
  flush_kept old new j flush kept = record {
    on = back_lives old new j writes.Good flush.back kept;
    settled = λ held. kept.settled (taken_out old.pending new.pending i j flush.left held);
  }

  refused_kept : (old new : CacheShown) (j : ℕ) (out : WriteOut) → Refuses old new j out → IsKept old → IsKept new
  refused_kept old new j out p kept = record {
    on = back_lives old new j out p.back kept;
    settled = λ held. kept.settled (held.0, was_there j old.pending (i, held.0) (subst (λ (all : List (ℕ × List ℕ)). Contains all (i, held.0)) p.left held.1));
  }

  pub tried_kept : (due : List ℕ) (enough short : ℕ) (old new : CacheShown) (first : Option WriteOut) → Tries old due enough new short first → IsKept old → IsKept new
  tried_kept due zero short old new first p kept = same_kept old new p.0 kept
  tried_kept [] (suc enough) short old new first p kept = same_kept old new p.0 kept
  tried_kept (j ∷ due) (suc enough) short old new first (inl (mid, flush, later)) kept = tried_kept due enough short mid new first later (flush_kept old mid j flush kept)
  tried_kept (j ∷ due) (suc enough) short old new first (inr (mid, out, told, is, later, first_is)) kept = tried_kept due (suc enough) short mid new told later (refused_kept old mid j out is kept)

  stopped_kept : (due : List ℕ) (enough : ℕ) (old new : CacheShown) (out : WriteOut) → StopsTrying old new due enough out → IsKept old → IsKept new
  stopped_kept due enough old new out p kept = record {
    on = back_lives p.mid new p.block out p.stops (tried_kept p.done enough (suc p.short) old p.mid p.first p.tried kept);
    settled = none_pending new.pending i p.none_left;
  }

  pub drained_kept : (due : List ℕ) (enough : ℕ) (old new : CacheShown) (out : WriteOut) → DrainCause old new due enough out → IsKept old → IsKept new
  drained_kept due enough old new writes.Good p kept = tried_kept due enough 0 old new p.0 p.1 kept
  drained_kept due enough old new (writes.NoSpare named) p kept = tried_kept due enough (suc p.short) old new (Some (writes.NoSpare named)) p.tried kept
  drained_kept due enough old new (writes.NoUpdate counter) p kept = tried_kept due enough (suc p.short) old new (Some (writes.NoUpdate counter)) p.tried kept
  drained_kept due enough old new writes.Cut p kept = stopped_kept due enough old new writes.Cut p kept
  drained_kept due enough old new writes.Fault p kept = stopped_kept due enough old new writes.Fault p kept
  drained_kept due enough old new out p kept = absurd p

  pub sync_kept : (old new : CacheShown) (out : SyncOut) → SyncCause old new out → IsKept old → IsKept new
  sync_kept old new syncs.NotFormatted p kept = same_kept (dropped old) new p.nothing (dropped_kept old kept)
  sync_kept old new syncs.Off p kept = same_kept old new p.nothing kept
  sync_kept old new out p kept = drained_kept (pending_in (dropped old)) (length (pending_in (dropped old))) (dropped old) new (as_write out) p.drained (dropped_kept old kept)

  tried_oldest : (old new : CacheShown) (out : WriteOut) → TriesOldest old new out → IsKept old → IsKept new
  tried_oldest old new out p kept = drained_kept (p.block ∷ []) 1 old new out p.drained kept

  tick_of : (old new : CacheShown) (out : TickOut) → TickCauseOf old new out → IsKept old → IsKept new
  tick_of old new ticks.Idle p kept = same_kept old new p.nothing kept
  tick_of old new (ticks.Written lba) p kept = tried_oldest old new writes.Good p.0 kept
  tick_of old new (ticks.NoSpare lba) p kept = tried_oldest old new (writes.NoSpare lba) p kept
  tick_of old new (ticks.NoUpdate counter) p kept = tried_oldest old new (writes.NoUpdate counter) p kept
  tick_of old new ticks.Cut p kept = tried_oldest old new writes.Cut p kept
  tick_of old new ticks.Off p kept = absurd p
  tick_of old new ticks.Fault p kept = tried_oldest old new writes.Fault p kept

  pub tick_kept : (old new : CacheShown) (out : TickOut) → TickCause old new out → IsKept old → IsKept new
  tick_kept old new ticks.Off p kept = same_kept old new p.nothing kept
  tick_kept old new out p kept = tick_of (dropped old) new out p (dropped_kept old kept)
