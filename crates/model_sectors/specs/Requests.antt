-- The arithmetic of requests: which logical blocks a request for sectors covers, which of its sectors and bytes lie in
-- each of them, and what putting them there makes of the block and of the disc. For all that reads or writes sectors
-- through whole blocks, and for the clauses that speak of a request. (This project's own, as all here.)
use Rattle.std.specs.Prelude.{◌≡◌, ℕ, ◌+◌, ◌-◌, ◌*◌, ◌/◌, ◌<◌, ◌≤◌, ◌==◌, nat_lt, min, max, Bool, if◌then◌else◌, List, take, drop}
use Rattle.model_bytes.specs.Bytes.{put_at}

-- the logical block in which a sector lies
abbrev pub block_with : ℕ → ℕ
block_with lba = lba / 16

-- How many logical blocks a request for n sectors from lba on covers, whole or in part. They are numbered
-- from that of the first sector on.
abbrev pub blocks_covered : (lba n : ℕ) → ℕ
blocks_covered lba n = if n == 0 then 0 else (lba + n - 1) / 16 + 1 - lba / 16

-- a block is one of those that a request covers
abbrev pub IsCovered : (lba n block : ℕ) → Type 0
IsCovered lba n block = (block_with lba ≤ block) × (block < block_with lba + blocks_covered lba n)

-- a block holds a sector of a request
abbrev pub HoldsSector : (lba n block : ℕ) → Type 0
HoldsSector lba n block = (sector : ℕ) × (lba ≤ sector) × (sector < lba + n) × (block_with sector ≡ block)

-- the first sector of the request in a block that it covers
abbrev pub start_in : (lba block : ℕ) → ℕ
start_in lba block = max lba (16 * block)

-- the end of the request in a block that it covers
abbrev pub end_in : (lba n block : ℕ) → ℕ
end_in lba n block = min (lba + n) (16 * block + 16)

-- whether the request covers less than all of the block
abbrev pub is_partly : (lba n block : ℕ) → Bool
is_partly lba n block = nat_lt (end_in lba n block - start_in lba block) 16

-- k blocks of the request come before the one in which this is its first sector
pub record NamesBlock (lba n named k : ℕ) : Type 0 where
  pub covered : k < blocks_covered lba n
  pub first : named ≡ start_in lba (block_with lba + k)

-- the bytes of a request that lie in a block, of all bytes of the request
unfoldable pub part_of : (lba n : ℕ) → List ℕ → (block : ℕ) → List ℕ
part_of lba n bytes block =
    take (2048 * (end_in lba n block - start_in lba block)) (drop (2048 * (start_in lba block - lba)) bytes)

-- the bytes of a block with those of a request in their places
unfoldable pub merged_in : (lba n : ℕ) → List ℕ → (block : ℕ) → List ℕ → List ℕ
merged_in lba n bytes block held = put_at (2048 * (start_in lba block - 16 * block)) (part_of lba n bytes block) held

-- the bytes of a request's sectors in a block, of all bytes of the block
unfoldable pub taken_from : (lba n block : ℕ) → List ℕ → List ℕ
taken_from lba n block bytes =
    take (2048 * (end_in lba n block - start_in lba block)) (drop (2048 * (start_in lba block - 16 * block)) bytes)

-- the bytes of a request with those of a block in their places
unfoldable pub filled_by : (lba n block : ℕ) → List ℕ → List ℕ → List ℕ
filled_by lba n block bytes into = put_at (2048 * (start_in lba block - lba)) (taken_from lba n block bytes) into
