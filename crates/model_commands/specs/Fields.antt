-- The fields of command blocks: numbers, numbers in some bits of a byte, and single bits. For reading a command block
-- or a parameter list.
use Rattle.std.specs.Prelude.{ℕ, ◌/◌, ◌%◌, ◌^◌, Bool, ◌==◌, List, slice_index}
use Rattle.std.specs.Int.{bit_at}

-- the bit of this place, from 0 for the lowest to 7, in this byte (after INCITS MMC)
abbrev pub flag : (at place : ℕ) → List ℕ → Bool
flag at place bytes = bit_at (slice_index bytes at) place == 1

-- the number in n of the bits of this byte, from this place on (after INCITS MMC)
abbrev pub bits : (at place width : ℕ) → List ℕ → ℕ
bits at place width bytes = slice_index bytes at / 2 ^ place % 2 ^ width
