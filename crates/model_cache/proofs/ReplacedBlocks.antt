-- The logical blocks of a disc after sectors were replaced.
use Rattle.std.proofs.Common.{◌≡◌, ℕ, ◌+◌, ◌-◌, ◌*◌, ◌<◌, ◌≤◌, ◌⊎◌, inl, inr, List, length, take, drop, sym, ap, ◌∙◌, arith, length-take}
use Rattle.std.proofs.lemmas.Bool.{cases_lt}
use Rattle.std.proofs.lemmas.List.{take_all}
use Rattle.model_bytes.specs.Bytes.{put_at}
use Rattle.model_bytes.proofs.Laws.{length-put_at, other_range-put_at}
use Rattle.model_sectors.specs.Discs.{block_of, sectors_of, replaced}
use Rattle.model_sectors.proofs.Pieces.{put_at-more, other_sectors_replaced, length_replaced}
use Rattle.model_cache.specs.Falling.{LiesIn, Misses}

-- a block as sixteen sectors
pub as_sectors : (d : List ℕ) (i : ℕ) → sectors_of d (16 * i) 16 ≡ block_of d i
unfolding sectors_of block_of
as_sectors d i =
    let there : 2048 * (16 * i) ≡ 32768 * i = omega arith in
    ap (λ (m : ℕ). take 32768 (drop m d)) there

-- a block that is not reached, or that has no sector of the request, is as before
pub other_block : (d : List ℕ) (lba n : ℕ) (bytes : List ℕ) (b i : ℕ) → LiesIn d lba n bytes → (16 * i + 16 ≤ lba) ⊎ (lba + n ≤ 16 * i) ⊎ (16 * b ≤ 16 * i)
    → block_of (replaced d lba bytes b) i ≡ block_of d i
other_block d lba n bytes b i lies apart =
    sym (as_sectors (replaced d lba bytes b) i)
    ∙ other_sectors_replaced d lies.blocks lba n bytes b (16 * i) 16 lies.whole lies.inside lies.as_long apart
    ∙ as_sectors d i

pub unreached_block : (d : List ℕ) (lba n : ℕ) (bytes : List ℕ) (b i : ℕ) → LiesIn d lba n bytes → b ≤ i → block_of (replaced d lba bytes b) i ≡ block_of d i
unreached_block d lba n bytes b i lies before = other_block d lba n bytes b i lies (inr (inr (omega arith)))

pub missed_block : (d : List ℕ) (lba n : ℕ) (bytes : List ℕ) (b i : ℕ) → LiesIn d lba n bytes → Misses lba n i → block_of (replaced d lba bytes b) i ≡ block_of d i
missed_block d lba n bytes b i lies (inl below) = other_block d lba n bytes b i lies (inl below)
missed_block d lba n bytes b i lies (inr past) = other_block d lba n bytes b i lies (inr (inl past))

-- what more of a write puts behind the end of a block leaves the block
more_behind : (d bytes : List ℕ) (at j k i : ℕ) → j ≤ length bytes → at + length bytes ≤ length d → 32768 * i + 32768 ≤ at + j
    → block_of (put_at at (take (j + k) bytes) d) i ≡ block_of (put_at at (take j bytes) d) i
unfolding block_of
more_behind d bytes at j k i within inside behind =
    let held : List ℕ = put_at at (take j bytes) d in
    let long : length held ≡ length d = length-put_at at (take j bytes) d (omega (arith, length-take j bytes)) in
    ap (λ (l : List ℕ). take 32768 (drop (32768 * i) l)) (put_at-more at j k bytes d within inside)
    ∙ other_range-put_at (32768 * i) 32768 (at + j) (take k (drop j bytes)) held (omega (arith, long)) (inl behind)

-- a block that is reached is the same, however far the write went on
pub reached_block : (d : List ℕ) (lba n : ℕ) (bytes : List ℕ) (b i : ℕ) → LiesIn d lba n bytes → i < b
    → block_of (replaced d lba bytes b) i ≡ block_of (replaced d lba bytes (i + 1)) i
unfolding replaced
reached_block d lba n bytes b i lies after =
    let j : ℕ = 2048 * (16 * (i + 1) - lba) in
    let k : ℕ = 2048 * (16 * b - lba) - j in
    let all : 2048 * (16 * b - lba) ≡ j + k = omega arith in
    let whole = lies.whole in
    let inside = lies.inside in
    let long = lies.as_long in
    elim (cases_lt (length bytes) j) [
      | inl short ↦ ap (λ (l : List ℕ). block_of (put_at (2048 * lba) l d) i)
          (take_all (2048 * (16 * b - lba)) bytes (omega arith) ∙ sym (take_all j bytes (omega arith)))
      | inr enough ↦ ap (λ (m : ℕ). block_of (put_at (2048 * lba) (take m bytes) d) i) all
          ∙ more_behind d bytes (2048 * lba) j k i enough (omega arith) (omega arith)
    ]

pub as_long_as : (d : List ℕ) (lba n : ℕ) (bytes : List ℕ) (b : ℕ) → LiesIn d lba n bytes → length (replaced d lba bytes b) ≡ length d
as_long_as d lba n bytes b lies = length_replaced d lies.blocks lba n bytes b lies.whole lies.inside lies.as_long
