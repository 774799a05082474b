-- The text of each line of a certificate: for writing and comparing one. (This project's own, as all here.)
use Rattle.std.specs.Prelude.{ℕ, ◌<◌, ◌^◌, List, [], ◌∷◌, ◌++◌, codes, decimal}
use Rattle.std.specs.List.{flat_map}
use Rattle.model_geometry.specs.declared.kinds.LayoutKind.{LayoutKind}
use Rattle.model_geometry.specs.declared.kinds.LayoutKind.TheVariants.{OneGroup, EachZone}
use Rattle.model_lists.specs.declared.dds.PdlKind.{PdlKind}
use Rattle.model_lists.specs.declared.dds.PdlKind.TheVariants as kinds
use Rattle.model_lists.specs.declared.versions.Version.{Version}
use Rattle.model_lists.specs.declared.versions.Version.TheVariants as versions
use Rattle.model_audit.specs.declared.lines.CopyState.{CopyState}
use Rattle.model_audit.specs.declared.lines.CopyState.TheVariants as states
use Rattle.model_audit.specs.declared.lines.CertificateLine.{CertificateLine}
use Rattle.model_audit.specs.declared.lines.CertificateLine.TheVariants as lines

-- the word of the kind of a layout: none for one group of spares
abbrev pub layout_words : LayoutKind → List (List ℕ)
layout_words OneGroup = []
layout_words EachZone = codes "groups" ∷ []

-- the word of a version
abbrev pub version_word : Version → List ℕ
version_word versions.One = codes "one"
version_word versions.Two = codes "two"

-- the word of a kind
abbrev pub kind_word : PdlKind → List ℕ
kind_word kinds.P = codes "p"
kind_word kinds.G1 = codes "g1"
kind_word kinds.G2 = codes "g2"

-- the word of a state
abbrev pub state_word : CopyState → List ℕ
state_word states.Exact = codes "exact"
state_word states.Other = codes "other"
state_word states.Unread = codes "unread"
state_word states.Dead = codes "dead"

-- the words of a line
abbrev pub certificate_words : CertificateLine → List (List ℕ)
certificate_words lines.Audit = codes "audit" ∷ []
certificate_words (lines.Geometry zones scale psa layout) =
    codes "geometry" ∷ (decimal zones ∷ (decimal scale ∷ (decimal psa ∷ layout_words layout)))
certificate_words (lines.Bare mark) = codes "bare" ∷ (decimal mark ∷ [])
certificate_words (lines.Dds version counter area) =
    codes "dds" ∷ (version_word version ∷ (decimal counter ∷ (decimal area ∷ [])))
certificate_words (lines.Pdl block kind) = codes "pdl" ∷ (decimal block ∷ (kind_word kind ∷ []))
certificate_words (lines.Sdl counter area ssa) = codes "sdl" ∷ (decimal counter ∷ (decimal area ∷ (decimal ssa ∷ [])))
certificate_words (lines.Pair defective replacement) = codes "pair" ∷ (decimal defective ∷ (decimal replacement ∷ []))
certificate_words (lines.Retired defective) = codes "retired" ∷ (decimal defective ∷ [])
certificate_words (lines.Copy block state) = codes "copy" ∷ (decimal block ∷ (state_word state ∷ []))
certificate_words (lines.Lost lba) = codes "lost" ∷ (decimal lba ∷ [])
certificate_words (lines.End before) = codes "end" ∷ (decimal before ∷ [])

-- the words behind the first, each after a space
abbrev pub spaced : List (List ℕ) → List ℕ
spaced [] = []
spaced (word ∷ words) = 32 ∷ (word ++ spaced words)

-- words parted by one space
abbrev pub parted : List (List ℕ) → List ℕ
parted [] = []
parted (word ∷ words) = word ++ spaced words

-- a line is its words, parted by one space, and a line feed
abbrev pub certificate_line : CertificateLine → List ℕ
certificate_line line = parted (certificate_words line) ++ codes "\n"

-- the text of all lines
unfoldable pub text_of : List CertificateLine → List ℕ
text_of told = flat_map certificate_line told

-- the numbers of a line have 64 bits
abbrev pub FitsNumbers : CertificateLine → Type 0
FitsNumbers lines.Audit = Unit {0}
FitsNumbers (lines.Geometry zones scale psa layout) = (zones < 2 ^ 64) × (scale < 2 ^ 64) × (psa < 2 ^ 64)
FitsNumbers (lines.Bare mark) = mark < 2 ^ 64
FitsNumbers (lines.Dds version counter area) = (counter < 2 ^ 64) × (area < 2 ^ 64)
FitsNumbers (lines.Pdl block kind) = block < 2 ^ 64
FitsNumbers (lines.Sdl counter area ssa) = (counter < 2 ^ 64) × (area < 2 ^ 64) × (ssa < 2 ^ 64)
FitsNumbers (lines.Pair defective replacement) = (defective < 2 ^ 64) × (replacement < 2 ^ 64)
FitsNumbers (lines.Retired defective) = defective < 2 ^ 64
FitsNumbers (lines.Copy block state) = block < 2 ^ 64
FitsNumbers (lines.Lost lba) = lba < 2 ^ 64
FitsNumbers (lines.End before) = before < 2 ^ 64

-- the numbers of all lines have
abbrev pub HaveNumbers : List CertificateLine → Type 0
HaveNumbers [] = Unit {0}
HaveNumbers (line ∷ told) = FitsNumbers line × HaveNumbers told
