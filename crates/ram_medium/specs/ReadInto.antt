-- What a read into a caller's bytes gave: for the trait `Medium`.
use Rattle.std.specs.Prelude.{ℕ, List, []}
use Rattle.model_medium.specs.declared.ReadEnd.{ReadEnd}
use Rattle.model_medium.specs.declared.ReadEnd.TheVariants as reads

-- The bytes that a read gave: all of the block's where it is done, and none on any other answer, after which nothing is
-- said of the caller's bytes. (This project's own.)
abbrev pub bytes_read : ReadEnd → List ℕ → List ℕ
bytes_read reads.Done into = into
bytes_read reads.Unreadable into = []
bytes_read reads.Cut into = []
bytes_read reads.Off into = []
bytes_read reads.Failed into = []
