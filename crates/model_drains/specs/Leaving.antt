-- Why a pending block cannot leave the cache, for the laws of drains. (This project's own, as all here.)
use Rattle.std.specs.Prelude.{◌≡◌, ℕ, ◌+◌, ◌<◌, ◌⊎◌, true, Some}
use Rattle.model_medium.specs.Cells.{Dead, IsGood}
use Rattle.model_sectors.specs.Requests.{block_with, blocks_covered, is_partly}
use Rattle.model_places.specs.Places.{Lists}
use Rattle.model_drive.specs.declared.TheConstants.{LAST_COUNTER}
use Rattle.model_drive.specs.Shown.{Shown, HasLostSdl, block_count, home_cell}
use Rattle.model_drive.specs.Course.{IsUsable}
use Rattle.model_cache.specs.Values.{IsPending}
use Rattle.model_cache.specs.Shown.{CacheShown}

-- The secondary list in use cannot be updated: it has no copy left, or its counter stands at its end.
pub record CannotList (shown : Shown) : Type 0 where
  pub lists : Lists
  pub in_use : shown.lists ≡ Some lists
  pub cause : HasLostSdl shown lists.sdl ⊎ (lists.sdl.counter ≡ LAST_COUNTER)

-- A block cannot leave: its home is dead, and no spare can be used for it, or no list could say where it went.
pub record CannotLeave (shown : Shown) (i : ℕ) : Type 0 where
  pub dead : home_cell shown i ≡ Dead
  pub cause : ((spare : ℕ) → ¬ IsUsable shown i spare) ⊎ CannotList shown

-- A block of the disc has left the cache: it is not pending, and its home has whole bytes.
pub record HasLeft (shown : CacheShown) (i : ℕ) : Type 0 where
  pub on_disc : i < block_count shown.drive
  pub gone : ¬ IsPending shown.pending i
  pub whole : IsGood (home_cell shown.drive i)

-- A block is held back: it is pending, and cannot leave.
pub record IsHeldBack (shown : CacheShown) (i : ℕ) : Type 0 where
  pub pending : IsPending shown.pending i
  pub cannot : CannotLeave shown.drive i

-- a block that was tried has left, or is held back
abbrev pub HasLeftOrIsHeldBack : CacheShown → ℕ → Type 0
HasLeftOrIsHeldBack shown i = HasLeft shown i ⊎ IsHeldBack shown i

-- a block can be read: it is pending, or its home has whole bytes at the end
abbrev pub CanBeRead : CacheShown → Shown → ℕ → Type 0
CanBeRead old new i = IsPending old.pending i ⊎ IsGood (home_cell new i)

-- so can each block that is covered
abbrev pub CanReadAll : CacheShown → Shown → (lba n : ℕ) → Type 0
CanReadAll old new lba n = (k : ℕ) → k < blocks_covered lba n → CanBeRead old new (block_with lba + k)

-- so can each block that is covered in part
abbrev pub CanReadRests : CacheShown → Shown → (lba n : ℕ) → Type 0
CanReadRests old new lba n = (k : ℕ) → k < blocks_covered lba n → is_partly lba n (block_with lba + k) ≡ true
    → CanBeRead old new (block_with lba + k)
