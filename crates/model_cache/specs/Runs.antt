-- What a run keeps of a drive with a write cache between two lines, and what it begins with when an image is opened. (This
-- project's own, as all here.)
use Rattle.std.specs.Prelude.{◌≡◌, ℕ, List}
use Rattle.model_geometry.specs.Geometry.{Shape}
use Rattle.model_medium.specs.Cells.{Cell}
use Rattle.model_sectors.specs.Discs.{Standing}
use Rattle.model_volume.specs.Starts.{Found, IsDiscStart}
use Rattle.model_drive.specs.Sound.{IsSound}
use Rattle.model_drive.specs.Runs.{opened_drive}
use Rattle.model_cache.specs.Values.{Contents, plain}
use Rattle.model_cache.specs.Shown.{CacheShown, IsCacheSound, CacheStandsFor}
use Rattle.model_cache.specs.Plain.{uncached}

-- A disc in the drive: what the drive shows, which is sound, and one thing that it stands for.
pub record CacheLoaded : Type 0 where
  pub shown : CacheShown
  pub contents : Contents
  pub sound : IsSound shown.drive
  pub cache_sound : IsCacheSound shown
  pub stands : CacheStandsFor shown contents

-- The disc of an image that was just opened: the cache is off and empty, and the drive stands for the discs of the pairs of
-- lists that the cells give, in order, each block with one value.
pub record IsCacheOpenedOn (shape : Shape) (cells : List Cell) (s : CacheLoaded) : Type 0 where
  pub faults : ℕ
  pub shown_is : s.shown ≡ uncached (opened_drive shape cells faults)
  pub all : List Found
  pub standing : Standing
  pub starts : IsDiscStart shape cells all standing
  pub contents_is : s.contents ≡ plain standing
