-- What a write into a list of bytes, whole or in part, and a change of its length make of it: for images and blocks.
use Rattle.std.specs.Prelude.{◌≡◌, ℕ, ◌+◌, ◌-◌, ◌<◌, ◌≤◌, ◌⊎◌, List, ◌++◌, length, take, drop, replicate, slice_index}

-- the bytes with `from` in place of those at `at` and on (this project's own)
abbrev pub put_at : ℕ → List ℕ → List ℕ → List ℕ
put_at at from held = take at held ++ from ++ drop (at + length from) held

-- the bytes below both lengths, and zeros after them (this project's own)
abbrev pub resized : ℕ → List ℕ → List ℕ
resized len held = take len held ++ replicate (len - length held) 0

-- Each byte in the range of `from` is the old or the new one, and nothing else differs. (This project's own.)
pub record PartlyPut (at : ℕ) (from before after : List ℕ) : Type 0 where
  pub as_long : length after ≡ length before
  pub each : (k : ℕ) → (slice_index after k ≡ slice_index before k)
      ⊎ ((at ≤ k) × (k < at + length from) × (slice_index after k ≡ slice_index from (k - at)))
