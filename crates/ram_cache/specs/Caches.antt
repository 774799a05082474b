-- What a drive with a write cache shows and stands for, by its disc and its cache. (This project's own.)
use Rattle.std.specs.Prelude.{ℕ, Bool, List}
use Rattle.model_drive.specs.Shown.{Shown}
use Rattle.model_cache.specs.Values.{Contents, StandsCached}
use Rattle.model_cache.specs.Shown.{CacheShown}
use Rattle.ram_sectors.specs.declared.Sectors.{Ghosts as Drives}
use Rattle.ram_cache.specs.declared.cached.Cached.{Cached}
use Rattle.ram_cache.specs.Rooms.{pending_of}

-- the disc, the pending blocks, and whether the cache is on
abbrev pub cache_of : Shown → List (ℕ × List ℕ) → Bool → CacheShown
cache_of drive pending caches = record { drive = drive; pending = pending; caches = caches }

module _ {D : Type 0} (drives : Drives D) where
  -- what the drive shows
  abbrev pub shown_by : Cached D → CacheShown
  shown_by cached = cache_of (drives.shows cached.disc) (pending_of cached.pending) cached.on

  -- what it stands for
  abbrev pub stands_by : Cached D → Contents → Type 0
  stands_by cached s = StandsCached (drives.stands cached.disc) (pending_of cached.pending) s
