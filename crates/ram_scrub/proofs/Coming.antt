-- How far a pass has come: what holds in each turn of the loop.
use Rattle.std.specs.Prelude.{◌≡◌, ℕ}
use Rattle.model_drive.specs.Shown.{IsOn, IsFormatted, block_count}
use Rattle.model_cache.specs.Shown.{CacheShown}
use Rattle.model_scrub.specs.Scrubs.{Scrubber}
use Rattle.model_scrub.specs.Asks.{StepsThrough}

-- So many steps of a pass were made, and it has come to the next block, on the disc that it had.
pub record HasCome (old new : CacheShown) (s t : Scrubber) (block : ℕ) : Type 0 where
  pub went : StepsThrough old new s t block
  pub on : IsOn new.drive
  pub formatted : IsFormatted new.drive
  pub as_many : block_count new.drive ≡ block_count old.drive
  pub next : t.next ≡ block
