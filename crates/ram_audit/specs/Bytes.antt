-- How long a line of a certificate is at most, for the room of its text; and the answer of a check. (This project's own, as all here.)
use Rattle.std.specs.Prelude.{ℕ, List, ◌∷◌, ◌++◌, codes, decimal}
use Rattle.model_audit.specs.declared.lines.CertificateLine.{CertificateLine}
use Rattle.model_audit.specs.declared.lines.CertificateLine.TheVariants as lines

-- How many bytes a line has at most, where each of its numbers has 32 bits, and so ten digits at most, and a number of lines
-- 64 bits, and so twenty.
abbrev pub most_bytes : CertificateLine → ℕ
most_bytes lines.Audit = 6
most_bytes (lines.Geometry zones scale psa layout) = 49
most_bytes (lines.Bare mark) = 16
most_bytes (lines.Dds version counter area) = 30
most_bytes (lines.Pdl block kind) = 18
most_bytes (lines.Sdl counter area ssa) = 37
most_bytes (lines.Pair defective replacement) = 27
most_bytes (lines.Retired defective) = 19
most_bytes (lines.Copy block state) = 23
most_bytes (lines.Lost lba) = 16
most_bytes (lines.End before) = 25

-- the answer of a check that found a difference in this line: a word, the number, and a line feed
abbrev pub difference_text : (line : ℕ) → List ℕ
difference_text line = codes "no" ++ (32 ∷ (decimal line ++ codes "\n"))
