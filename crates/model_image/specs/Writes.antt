-- Which bytes of an image each step of a medium changes, also under cells that are not good: for `ram_image`.
use Rattle.std.specs.Prelude.{◌≡◌, ℕ, ◌+◌, ◌-◌, ◌<◌, ◌≤◌, ◌⊎◌, ◌==◌, Bool, if◌then◌else◌, List, [], ◌∷◌, length, slice_index}
use Rattle.model_bytes.specs.Bytes.{put_at}
use Rattle.model_medium.specs.declared.Fate.{Fate}
use Rattle.model_medium.specs.declared.Fate.TheVariants as fates
use Rattle.model_image.specs.Cells.{state_offset, data_offset}

-- the state byte of a block with whole bytes, of a torn one, and of a dead one (this project's own, as all here)
abbrev pub good_state : ℕ
good_state = 1

abbrev pub torn_state : ℕ
torn_state = 2

abbrev pub dead_state : ℕ
dead_state = 3

-- the image with this state byte at a block, and no other byte changed
abbrev pub with_state : ℕ → ℕ → List ℕ → List ℕ
with_state block state bytes = put_at (state_offset block) (state ∷ []) bytes

-- the image with these data in a block and the state byte of a good one, and no other byte changed
abbrev pub with_block : ℕ → ℕ → List ℕ → List ℕ → List ℕ
with_block total block block_data bytes =
    with_state block good_state (put_at (data_offset total block) block_data bytes)

-- the image after the arms of a used block counted down: where one ran out, the block's state byte is that of a dead one
abbrev pub worn_bytes : Bool → ℕ → List ℕ → List ℕ
worn_bytes dies block bytes = if dies then with_state block dead_state bytes else bytes

-- the image after a write of these data to a block that is not dead, which ends by this fate
abbrev pub bytes_by : Fate → ℕ → ℕ → List ℕ → List ℕ → List ℕ
bytes_by fates.Old total block block_data bytes = bytes
bytes_by fates.New total block block_data bytes = with_block total block block_data bytes
bytes_by fates.Torn total block block_data bytes = with_state block torn_state bytes

-- the image after a write of these data to a block, which ends by this fate: under a dead block all bytes stay
abbrev pub bytes_left : Fate → ℕ → ℕ → List ℕ → List ℕ → List ℕ
bytes_left fate total block block_data bytes =
    if slice_index bytes (state_offset block) == dead_state then bytes else bytes_by fate total block block_data bytes

-- Each byte of a block's data is as before or the new one, its state byte is as before or that of a torn or a good
-- block, and no other byte of the image differs.
pub record PutsInBlock (total block : ℕ) (block_data before after : List ℕ) : Type 0 where
  pub as_long : length after ≡ length before
  pub each : (k : ℕ) → (slice_index after k ≡ slice_index before k)
      ⊎ ((k ≡ state_offset block) × ((slice_index after k ≡ torn_state) ⊎ (slice_index after k ≡ good_state)))
      ⊎ ((data_offset total block ≤ k) × (k < data_offset total block + length block_data)
      × (slice_index after k ≡ slice_index block_data (k - data_offset total block)))

-- The image failed in a write of these data to a block: so much of it may have been done, and under a dead block
-- nothing.
pub record StopsInBytes (total block : ℕ) (block_data before after : List ℕ) : Type 0 where
  pub puts : PutsInBlock total block block_data before after
  pub dead_keeps : slice_index before (state_offset block) ≡ dead_state → after ≡ before

-- The image is as before, or as after the whole change: a change of one byte failed.
abbrev pub IsBeforeOrAfter : List ℕ → List ℕ → List ℕ → Type 0
IsBeforeOrAfter old new after = (after ≡ old) ⊎ (after ≡ new)
