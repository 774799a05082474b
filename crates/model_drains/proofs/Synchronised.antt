-- What a synchronisation leaves that was not stopped.
use Rattle.std.specs.Prelude.{◌≢◌, ℕ, suc, Some, length}
use Rattle.std.specs.List.{Contains}
use Rattle.std.proofs.Common.{arith, refl}
use Rattle.model_drive.specs.declared.WriteOut.{WriteOut}
use Rattle.model_drive.specs.declared.WriteOut.TheVariants as writes
use Rattle.model_drive.specs.Shown.{IsOn, IsFormatted, IsKnown}
use Rattle.model_drive.specs.Sound.{IsSound}
use Rattle.model_cache.specs.declared.SyncOut.{SyncOut}
use Rattle.model_cache.specs.declared.SyncOut.TheVariants as syncs
use Rattle.model_cache.specs.Shown.{CacheShown, dropped, pending_in}
use Rattle.model_cache.specs.Drains.{DrainCause}
use Rattle.model_cache.specs.Causes.{SyncCause}
use Rattle.model_drains.specs.Leaving.{HasLeftOrIsHeldBack}
use Rattle.model_drains.proofs.Stuck.{all_left_or_held}

module _ (old new : CacheShown) (sound : IsSound old.drive) (known : IsKnown old.drive) (i : ℕ) (due : Contains (pending_in (dropped old)) i) where
  by_drain : (out : WriteOut) → out ≢ writes.Cut → out ≢ writes.Fault → DrainCause (dropped old) new (pending_in (dropped old)) (length (pending_in (dropped old))) out
      → HasLeftOrIsHeldBack new i
  by_drain writes.Good cut fault p = all_left_or_held (pending_in (dropped old)) (length (pending_in (dropped old))) 0 (dropped old) new p.0 (omega arith) sound known p.1 i due
  by_drain (writes.NoSpare named) cut fault p =
      all_left_or_held (pending_in (dropped old)) (length (pending_in (dropped old))) (suc p.short) (dropped old) new (Some (writes.NoSpare named)) (omega arith) sound known p.tried i due
  by_drain (writes.NoUpdate counter) cut fault p =
      all_left_or_held (pending_in (dropped old)) (length (pending_in (dropped old))) (suc p.short) (dropped old) new (Some (writes.NoUpdate counter)) (omega arith) sound known p.tried i due
  by_drain writes.Cut cut fault p = absurd (cut refl)
  by_drain writes.Fault cut fault p = absurd (fault refl)
  by_drain writes.NotFormatted cut fault p = absurd p
  by_drain (writes.Range range) cut fault p = absurd p
  by_drain (writes.Unread named block) cut fault p = absurd p
  by_drain writes.Off cut fault p = absurd p

  pub synchronised : (out : SyncOut) → IsOn old.drive → IsFormatted old.drive → out ≢ syncs.Cut → out ≢ syncs.Fault → SyncCause old new out → HasLeftOrIsHeldBack new i
  synchronised syncs.Good on formatted cut fault p = by_drain writes.Good (λ is. cc) (λ is. cc) p.drained
  synchronised syncs.NotFormatted on formatted cut fault p = absurd (p.unformatted formatted)
  synchronised (syncs.NoSpare lba) on formatted cut fault p = by_drain (writes.NoSpare lba) (λ is. cc) (λ is. cc) p.drained
  synchronised (syncs.NoUpdate counter) on formatted cut fault p = by_drain (writes.NoUpdate counter) (λ is. cc) (λ is. cc) p.drained
  synchronised syncs.Cut on formatted cut fault p = absurd (cut refl)
  synchronised syncs.Off on formatted cut fault p = absurd (p.off on)
  synchronised syncs.Fault on formatted cut fault p = absurd (fault refl)
