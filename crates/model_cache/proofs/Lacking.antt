-- Where a drive with a write cache tells that no spare is left, a write of its disc found none.
use Rattle.std.specs.Prelude.{◌≡◌, ℕ, zero, suc, ◌*◌, Bool, true, false, MatchBool, Some, None, List, [], ◌∷◌, length}
use Rattle.std.proofs.Common.{inl, inr, subst, sym, ap, ◌∙◌}
use Rattle.model_drive.specs.Shown.{Shown}
use Rattle.model_drive.specs.Writes.{LacksSpare, WriteCause}
use Rattle.model_drive.specs.Course.{IsUsable}
use Rattle.model_sectors.specs.Requests.{block_with}
use Rattle.model_sectors.proofs.Covering.{block_with_start}
use Rattle.model_drive.specs.declared.WriteOut.{WriteOut}
use Rattle.model_drive.specs.declared.WriteOut.TheVariants as writes
use Rattle.model_cache.specs.declared.SyncOut.TheVariants as syncs
use Rattle.model_cache.specs.declared.TickOut.TheVariants as ticks
use Rattle.model_cache.specs.Shown.{CacheShown, dropped, pending_in, pending_covered, goes_into_cache}
use Rattle.model_cache.specs.Drains.{Tries, DrainCause}
use Rattle.model_cache.proofs.Spareless.{tries_spareless}
use Rattle.model_cache.specs.Causes.{StopsWritingThrough, ThroughCause, leave_first, CachedCause, CacheWriteCause, SyncCause, TickCause}

-- A write of a disc that showed something found no spare for the block of this sector; and none can be used for it now.
pub record LacksOne (new : Shown) (named : ℕ) : Type 0 where
  pub before : Shown
  pub then : Shown
  pub lba : ℕ
  pub n : ℕ
  pub lacks : LacksSpare before then lba n named
  pub none : (spare : ℕ) → ¬ IsUsable new (block_with named) spare

-- it was the last call of the disc
last_lacks : (before new : Shown) (lba n named : ℕ) → LacksSpare before new lba n named → LacksOne new named
last_lacks before new lba n named p = record {
  before = before;
  then = new;
  lba = lba;
  n = n;
  lacks = p;
  none = λ spare. subst (λ (i : ℕ). ¬ IsUsable new i spare) (sym (ap block_with p.is_named.first ∙ block_with_start lba n (length p.course) p.is_named.covered)) (p.none spare);
}

tries_lack : (due : List ℕ) (enough short : ℕ) (old new : CacheShown) (named : ℕ) → Tries old due enough new short (Some (writes.NoSpare named)) → LacksOne new.drive named
tries_lack due zero short old new named p = absurd (let e : Some (writes.NoSpare named) ≡ None = p.2 in cc)
tries_lack [] (suc enough) short old new named p = absurd (let e : Some (writes.NoSpare named) ≡ None = p.2 in cc)
tries_lack (i ∷ due) (suc enough) short old new named (inl (mid, flush, later)) = tries_lack due enough short mid new named later
tries_lack (i ∷ due) (suc enough) short old new named (inr (mid, out, told, is, later, first_is)) =
    let lacks = last_lacks old.drive mid.drive (16 * i) 16 named (subst (λ (o : WriteOut). WriteCause old.drive mid.drive (16 * i) 16 o) (same_out out first_is) is.back.wrote) in
    record {
      before = lacks.before;
      then = lacks.then;
      lba = lacks.lba;
      n = lacks.n;
      lacks = lacks.lacks;
      none = tries_spareless due (suc enough) short mid new told (block_with named) is.back.leaves.sound later lacks.none;
    }
  where
    same_out : (out : WriteOut) → Some (writes.NoSpare named) ≡ Some out → out ≡ writes.NoSpare named
    same_out out e = cc

drain_lacks : (due : List ℕ) (enough : ℕ) (old new : CacheShown) (named : ℕ) → DrainCause old new due enough (writes.NoSpare named) → LacksOne new.drive named
drain_lacks due enough old new named p = tries_lack due enough (suc p.short) old new named p.tried

module _ (old new : CacheShown) (lba n named : ℕ) where
  stopped_lacks : (mid : CacheShown) → StopsWritingThrough mid new lba n (writes.NoSpare named) → LacksOne new.drive named
  stopped_lacks mid (inside, inl ends) = drain_lacks (pending_covered true mid lba n) (length (pending_covered true mid lba n)) mid new named ends
  stopped_lacks mid (inside, inr wrote) = last_lacks wrote.mid.drive new.drive lba n named wrote.wrote

  pub through_lacks : ThroughCause old new lba n (writes.NoSpare named) → LacksOne new.drive named
  through_lacks p = stopped_lacks (dropped old) p

  write_by : (into_cache : Bool) (bytes : List ℕ) → MatchBool into_cache (CachedCause old new lba n bytes (writes.NoSpare named)) (ThroughCause old new lba n (writes.NoSpare named)) → LacksOne new.drive named
  write_by true bytes p = drain_lacks (pending_covered false (dropped old) lba n) (leave_first (dropped old) lba n) (dropped old) new named p.1
  write_by false bytes p = through_lacks p

  pub write_lacks : (bytes : List ℕ) → CacheWriteCause old new lba n bytes (writes.NoSpare named) → LacksOne new.drive named
  write_lacks bytes p = write_by (goes_into_cache old lba n) bytes p

pub sync_lacks : (old new : CacheShown) (named : ℕ) → SyncCause old new (syncs.NoSpare named) → LacksOne new.drive named
sync_lacks old new named p = drain_lacks (pending_in (dropped old)) (length (pending_in (dropped old))) (dropped old) new named p.drained

pub tick_lacks : (old new : CacheShown) (named : ℕ) → TickCause old new (ticks.NoSpare named) → LacksOne new.drive named
tick_lacks old new named p = drain_lacks (p.block ∷ []) 1 (dropped old) new named p.drained
