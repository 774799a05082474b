-- How far a read has come: what holds in each turn of the loop.
use Rattle.std.specs.Prelude.{◌≡◌, ℕ, ◌*◌, List, length, take}
use Rattle.model_sectors.specs.Discs.{sectors_of}
use Rattle.model_drive.specs.Shown.{IsOn, IsFormatted, block_count}
use Rattle.model_cache.specs.Values.{Values, Contents, Has}
use Rattle.model_cache.specs.Shown.{CacheShown}
use Rattle.model_cache.specs.Causes.{ReadsParts}
use Rattle.ram_requests.proofs.ReadBytes.{done}

-- The first k blocks of a request were read, and their bytes stand at the front.
pub record ReadSoFar (start now : CacheShown) (lba n k : ℕ) (into : List ℕ) (before after : Contents → Type 0) : Type 0 where
  pub parts : ReadsParts start now lba n k
  pub same_pending : now.pending ≡ start.pending
  pub on : IsOn now.drive
  pub formatted : IsFormatted now.drive
  pub same_shape : now.drive.shape ≡ start.drive.shape
  pub same_count : block_count now.drive ≡ block_count start.drive
  pub long : length into ≡ 2048 * n
  pub gives : (v : Values) → before (Has v)
      → after (Has v) × (take (2048 * done lba n k) into ≡ sectors_of v.disc lba (done lba n k))
