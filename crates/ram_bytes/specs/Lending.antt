-- What becomes of a block whose bytes are lent to be written: for `Block::bytes_mut`.
use Rattle.std.specs.Prelude.{ℕ, List, ◌++◌, length, take, drop}
use Rattle.std.specs.Borrow.{Lends, MutBor, Fml, Array, u8}
use Rattle.ram_bytes.specs.contracts.block.Block.{the_row}

-- The block ends with the bytes that were last behind `bytes`, and is as long as it was. (This project's own.)
abbrev pub LendsBytes : MutBor (List ℕ) → MutBor (List ℕ) → Fml
LendsBytes block bytes =
    Lends the_row (Array u8 0) block bytes (λ written. take (length block.now) (written ++ drop (length written) block.now))
