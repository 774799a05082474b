-- What holds of the meanings of each drive, for those who are generic over the traits. (This project's own.)
use Rattle.std.specs.Prelude.{◌↔◌}
use Rattle.model_sectors.specs.Discs.{Standing}
use Rattle.model_drive.specs.Shown.{Shown, IsKnown, StandsFor}
use Rattle.model_drive.specs.Sound.{IsSound}
use Rattle.model_cache.specs.Values.{Contents, StandsCached}
use Rattle.model_cache.specs.Shown.{CacheShown, IsCacheSound}

-- A drive stands for just what goes with what it shows; where the cells of its medium are known, it stands for something,
-- which is said as 'not for nothing'; and what it shows is sound.
pub record SectorsLaws {D : Type 0} (shows : D → Shown) (stands : D → Standing → Type 0) : Type 0 where
  pub as_shown : (drive : D) (s : Standing) → stands drive s ↔ StandsFor (shows drive) s
  pub some : (drive : D) → IsKnown (shows drive) → ¬ ((s : Standing) → ¬ stands drive s)
  pub sound : (drive : D) → IsSound (shows drive)

-- A drive with a write cache stands for just what goes with what it shows, and what it shows is sound. (A disc that was lent
-- may have lost pending blocks; then it stands for nothing until they are dropped.)
pub record CachingLaws {D : Type 0} (shows : D → CacheShown) (stands : D → Contents → Type 0) : Type 0 where
  pub as_shown : (drive : D) (s : Contents)
      → stands drive s ↔ StandsCached (StandsFor (shows drive).drive) (shows drive).pending s
  pub sound : (drive : D) → IsCacheSound (shows drive)
  pub drive_sound : (drive : D) → IsSound (shows drive).drive

-- What holds of `underwent`: nothing happened to a drive that is as it was, and one thing after another happened too.
pub record UnderwentLaws {D : Type 0} (underwent : D → D → Type 0) : Type 0 where
  pub none : (drive : D) → underwent drive drive
  pub adds_up : (a b c : D) → underwent a b → underwent b c → underwent a c
