-- The bytes of a request that lie in one block, merged into the block and into the disc.
use Rattle.std.specs.Prelude.{◌≡◌, ◌≢◌, ℕ, ◌+◌, ◌-◌, ◌*◌, ◌<◌, ◌≤◌, ◌⊎◌, IsTrue, List, length, take, drop}
use Rattle.std.proofs.Common.{sym, ap, ◌∙◌, inl, inr, arith}
use Rattle.std.proofs.lemmas.Bool.{cases_lt}
use Rattle.model_bytes.specs.Bytes.{put_at}
use Rattle.model_bytes.proofs.Laws.{length-put_at, other_range-put_at}
use Rattle.model_sectors.specs.Discs.{block_of, replaced}
use Rattle.model_sectors.specs.Requests.{start_in, end_in, is_partly, part_of, merged_in}
use Rattle.model_sectors.proofs.Pieces.{piece-put_at, put_at-whole, length_part_of, replaced_step}
use Rattle.model_sectors.proofs.Covering.{wholly_start, wholly_end}

-- the disc with the bytes of a request that lie in a block
unfoldable pub with_part : (lba n : ℕ) → List ℕ → (block : ℕ) → List ℕ → List ℕ
with_part lba n bytes block disc = put_at (2048 * start_in lba block) (part_of lba n bytes block) disc

module _ (disc : List ℕ) (blocks lba n : ℕ) (bytes : List ℕ) (block : ℕ) (covered : start_in lba block < end_in lba n block) (whole : length bytes ≡ 2048 * n)
    (inside : lba + n ≤ 16 * blocks) (long : length disc ≡ 32768 * blocks) where
  -- the disc is as long as before
  pub length_with_part : length (with_part lba n bytes block disc) ≡ length disc
  unfolding with_part
  length_with_part = length-put_at (2048 * start_in lba block) (part_of lba n bytes block) disc (omega (arith, length_part_of lba n bytes block whole))

  -- the block has them in their places
  pub block_of-with_part : block_of (with_part lba n bytes block disc) block ≡ merged_in lba n bytes block (block_of disc block)
  unfolding with_part merged_in block_of
  block_of-with_part =
      let there : 2048 * start_in lba block ≡ 32768 * block + 2048 * (start_in lba block - 16 * block) = omega arith in
      ap (λ (m : ℕ). take 32768 (drop (32768 * block) (put_at m (part_of lba n bytes block) disc))) there
      ∙ piece-put_at (32768 * block) 32768 (2048 * (start_in lba block - 16 * block)) (part_of lba n bytes block) disc
      (omega (arith, length_part_of lba n bytes block whole)) (omega arith)

  -- another block is as before
  pub other_block-with_part : (i : ℕ) → i ≢ block → block_of (with_part lba n bytes block disc) i ≡ block_of disc i
  unfolding with_part block_of
  other_block-with_part i other =
      other_range-put_at (32768 * i) 32768 (2048 * start_in lba block) (part_of lba n bytes block) disc (omega arith) apart
    where
      apart : (32768 * i + 32768 ≤ 2048 * start_in lba block) ⊎ (2048 * start_in lba block + length (part_of lba n bytes block) ≤ 32768 * i)
      apart = elim (cases_lt i block) [
        | inl before ↦ inl (omega arith)
        | inr from ↦ let part = length_part_of lba n bytes block whole in let past : block < i = omega arith in inr (omega arith)
      ]

-- a block that the request covers wholly is the same whatever was there
pub merged_whole : (lba n : ℕ) (bytes : List ℕ) (block : ℕ) (held other : List ℕ) → ¬ IsTrue (is_partly lba n block) → length bytes ≡ 2048 * n → length held ≡ 32768 → length other ≡ 32768
    → merged_in lba n bytes block held ≡ merged_in lba n bytes block other
unfolding merged_in
merged_whole lba n bytes block held other wholly whole long long' =
    let start = wholly_start lba n block wholly in
    let end = wholly_end lba n block wholly in
    let none : 2048 * (start_in lba block - 16 * block) ≡ 0 = omega arith in
    let part = length_part_of lba n bytes block whole in
    ap (λ (m : ℕ). put_at m (part_of lba n bytes block) held) none
    ∙ put_at-whole (part_of lba n bytes block) held (omega arith)
    ∙ sym (put_at-whole (part_of lba n bytes block) other (omega arith))
    ∙ ap (λ (m : ℕ). put_at m (part_of lba n bytes block) other) (sym none)

-- one block more of a request
pub replaced-with_part : (disc : List ℕ) (blocks lba n : ℕ) (bytes : List ℕ) (block : ℕ) → start_in lba block < end_in lba n block → length bytes ≡ 2048 * n → lba + n ≤ 16 * blocks
    → length disc ≡ 32768 * blocks → replaced disc lba bytes (block + 1) ≡ with_part lba n bytes block (replaced disc lba bytes block)
unfolding with_part
replaced-with_part disc blocks lba n bytes block covered whole inside long = replaced_step disc blocks lba n bytes block covered whole inside long
