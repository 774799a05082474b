-- What a write cache over a volume over the medium in an image is as a drive of a run.
use Rattle.std.specs.Prelude.{◌≡◌, ℕ, Bool, false, List, [], ◌∷◌}
use Rattle.std.proofs.Common.{refl, sym, ap, ◌∙◌}
use Rattle.model_geometry.specs.declared.kinds.LayoutKind.{LayoutKind}
use Rattle.ram_groups.specs.declared.any_layout.AnyLayout.{AnyLayout}
use Rattle.ram_groups.specs.declared.any_layout.AnyLayout.TheVariants as layouts
use Rattle.ram_groups.specs.Layouts.{IsOfKind}
use Rattle.model_sectors.specs.Discs.{Standing, On, Off}
use Rattle.model_drive.specs.Shown.{Shown, StandsFor}
use Rattle.model_cache.specs.Plain.{uncached}
use Rattle.model_cache.specs.Shown.{CacheShown}
use Rattle.model_cache.specs.Values.{Contents, Has, MayHave, StandsCached}
use Rattle.ram_medium.specs.declared.control.FailEnd.{FailEnd}
use Rattle.ram_medium.specs.declared.control.FailEnd.TheVariants as fails
use Rattle.ram_medium.specs.declared.control.SyncEnd.{SyncEnd}
use Rattle.ram_medium.specs.declared.control.SyncEnd.TheVariants as syncs
use Rattle.ram_states.specs.Control.{FailStands, SyncOnDrive, SyncStands}
use Rattle.ram_machine.specs.Control.{contents_after_fail, contents_after_sync, SyncOnCached}

module _ (old new : Shown) (pending : List (ℕ × List ℕ)) where
  -- what the disc stands for stays, so what the drive with the cache stands for does
  pub cached_stays : (s : Contents) → ((t : Standing) → StandsFor old t → StandsFor new t) → StandsCached (StandsFor old) pending s → StandsCached (StandsFor new) pending s
  cached_stays (Has v) keeps stands = (stands.0, keeps (On stands.0) stands.1, stands.2)
  cached_stays (MayHave all) keeps stands = (stands.0, keeps (Off stands.0) stands.1, stands.2)

  -- a block was made dead: the same, and where the power went off the disc below is one that is taken from the values
  pub cached_fails : (s : Contents) (end : FailEnd) → ((t : Standing) → StandsFor old t → FailStands new t end) → StandsCached (StandsFor old) pending s
      → StandsCached (StandsFor new) pending (contents_after_fail s end)
  cached_fails (Has v) fails.Done falls stands = (stands.0, falls (On stands.0) stands.1, stands.2)
  cached_fails (Has v) (fails.NoBlock blocks) falls stands = (stands.0, falls (On stands.0) stands.1, stands.2)
  cached_fails (Has v) fails.Failed falls stands = (stands.0 ∷ [], falls (On stands.0) stands.1, (stands.2.taken, refl))
  cached_fails (MayHave all) fails.Done falls stands = (stands.0, falls (Off stands.0) stands.1, stands.2)
  cached_fails (MayHave all) (fails.NoBlock blocks) falls stands = (stands.0, falls (Off stands.0) stands.1, stands.2)
  cached_fails (MayHave all) fails.Failed falls stands = (stands.0, falls (Off stands.0) stands.1, stands.2)

  -- all was to last
  pub cached_syncs : (s : Contents) (end : SyncEnd) → ((t : Standing) → StandsFor old t → SyncStands new t end) → StandsCached (StandsFor old) pending s
      → StandsCached (StandsFor new) pending (contents_after_sync s end)
  cached_syncs (Has v) syncs.Done syncs_so stands = (stands.0, syncs_so (On stands.0) stands.1, stands.2)
  cached_syncs (Has v) syncs.Failed syncs_so stands = (stands.0 ∷ [], syncs_so (On stands.0) stands.1, (stands.2.taken, refl))
  cached_syncs (MayHave all) syncs.Done syncs_so stands = (stands.0, syncs_so (Off stands.0) stands.1, stands.2)
  cached_syncs (MayHave all) syncs.Failed syncs_so stands = (stands.0, syncs_so (Off stands.0) stands.1, stands.2)

  -- and what the drive with the cache shows
  pub cached_synced : (caches : Bool) (end : SyncEnd) → SyncOnDrive old new end
      → (let was : CacheShown = record { drive = old; pending = pending; caches = caches } in let is : CacheShown = record { drive = new; pending = pending; caches = caches } in SyncOnCached was is end)
  cached_synced caches syncs.Done same = ap (λ (drive : Shown). (let is : CacheShown = record { drive = drive; pending = pending; caches = caches } in is)) same
  cached_synced caches syncs.Failed rule = (rule, (refl, refl))

-- a cache that was just made over a drive is off, and nothing is pending
pub fresh_cache : (drive shown : Shown) (p : List (ℕ × List ℕ)) (on : Bool) → drive ≡ shown → p ≡ [] → on ≡ false → (let cached : CacheShown = record { drive = drive; pending = p; caches = on } in cached) ≡ uncached shown
fresh_cache drive shown p on is none off = rw (is, none, off) refl

-- a layout is of one kind
pub one_kind : (kind kind' : LayoutKind) (layout : AnyLayout) → IsOfKind kind layout → IsOfKind kind' layout → kind ≡ kind'
one_kind kind kind' (layouts.Slip table) is is' = is ∙ sym is'
one_kind kind kind' (layouts.Zones table) is is' = is ∙ sym is'
