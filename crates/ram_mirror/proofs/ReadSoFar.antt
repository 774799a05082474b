-- How far a read of a mirror has come: what holds in each turn of the loop.
use Rattle.std.specs.Prelude.{◌≡◌, ℕ, ◌*◌, List, length, take}
use Rattle.model_sectors.specs.Discs.{Standing, On, sectors_of}
use Rattle.model_drive.specs.Shown.{IsOn, IsFormatted, block_count}
use Rattle.ram_requests.proofs.ReadBytes.{done}
use Rattle.model_mirror.specs.Shown.{MirrorShown}
use Rattle.model_mirror.specs.Standing.{IsFollowed}
use Rattle.model_mirror.specs.Reads.{MirrorReadsParts}
use Rattle.ram_mirror.specs.Reading.{StillHas}

-- The first k blocks of a request were read, and their bytes stand at the front.
pub record MirrorReadSoFar (start now : MirrorShown) (lba n k : ℕ) (into : List ℕ) (lead other lead' other' : Standing → Type 0) : Type 0 where
  pub parts : MirrorReadsParts start now lba n k
  pub on : IsOn now.lead
  pub formatted : IsFormatted now.lead
  pub same_shape : now.lead.shape ≡ start.lead.shape
  pub same_count : block_count now.lead ≡ block_count start.lead
  pub same_on : now.on ≡ start.on
  pub same_table : now.table ≡ start.table
  pub long : length into ≡ 2048 * n
  pub gives : (disc : List ℕ) → lead (On disc) → IsFollowed start other disc
      → StillHas lead' other' now disc × (take (2048 * done lba n k) into ≡ sectors_of disc lba (done lba n k))
