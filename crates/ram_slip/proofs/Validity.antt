-- What the tests of validity find.
use Rattle.std.proofs.Common.{◌≡◌, ℕ, ◌+◌, ◌-◌, ◌<◌, ◌≤◌, inl, inr, Bool, IsTrue, nat_eq, List, length, get_or, Some, sym, ap, ◌∙◌, subst, arith}
use Rattle.std.specs.Prelude.{slice_get, slice_index}
use Rattle.std.specs.List.{All, Contains}
use Rattle.std.specs.List.Sorted.{IsStrictlyIncreasing}
use Rattle.std.proofs.lemmas.Bool.{cases_eq, eqb-true, eq-eqb}
use Rattle.std.proofs.lemmas.List.{length-map}
use Rattle.std.proofs.lemmas.List.Elements.{All-from_get_or}
use Rattle.model_geometry.specs.declared.kinds.LayoutKind.TheVariants.{OneGroup, EachZone}
use Rattle.model_geometry.specs.Geometry.{Shape, IsLawful, data_blocks, spare_room}
use Rattle.model_geometry.proofs.DataBlocks.{Contains-slice_get}
use Rattle.model_lists.specs.declared.dds.PdlEntry.{PdlEntry}
use Rattle.model_lists.specs.declared.versions.Version.{Version}
use Rattle.model_lists.specs.Values.{Dds, most_of, pdl_blocks}
use Rattle.model_pools.specs.Listed.{AreListed}
use Rattle.model_places.specs.Valid.{IsValidPdl, IsValidSsa, SlipsFew, area_fits_by}
use Rattle.model_pools.proofs.Listed.{All-listed, listed-All}
use Rattle.model_places.proofs.ByKind.{room_grows, slip_area_fits, zone_area, zone_area_fits, zones_fit}
use Rattle.ram_slip.proofs.Named.{block_at}

long : (entries : List PdlEntry) → length (pdl_blocks entries) ≡ length entries
long entries = length-map entries (λ (e : PdlEntry). e.block)

-- ---- entries that rise

-- one that does not rise
pub not_rising : (entries : List PdlEntry) (n : ℕ) (d : PdlEntry) → 1 ≤ n → n < length entries → (get_or entries n d).block ≤ (get_or entries (n - 1) d).block → ¬ IsStrictlyIncreasing (pdl_blocks entries)
not_rising entries n d some below less rise =
    let next : n - 1 + 1 ≡ n = omega (arith, some) in
    let up = subst (λ (m : ℕ). get_or (pdl_blocks entries) (n - 1) 0 < get_or (pdl_blocks entries) m 0) next (rise (n - 1) (omega (arith, some, below, long entries))) in
    omega (arith, up, less, block_at entries (n - 1) d (omega (arith, below)), block_at entries n d below)

-- one more that rises
pub rising_more : (entries : List PdlEntry) (n : ℕ) (d : PdlEntry) → 1 ≤ n → n < length entries
    → ((k : ℕ) → k + 1 < n → slice_index (pdl_blocks entries) k < slice_index (pdl_blocks entries) (k + 1)) → (get_or entries (n - 1) d).block < (get_or entries n d).block
    → (k : ℕ) → k + 1 < n + 1 → slice_index (pdl_blocks entries) k < slice_index (pdl_blocks entries) (k + 1)
rising_more entries n d some below before up k within =
    elim (cases_eq (k + 1) n) [
      | inl last ↦ (let at : k ≡ n - 1 = omega (arith, last) in
          let low = ap (λ (m : ℕ). get_or (pdl_blocks entries) m 0) at in
          let high = ap (λ (m : ℕ). get_or (pdl_blocks entries) m 0) last in
          omega (arith, up, low, high, block_at entries (n - 1) d (omega (arith, below)), block_at entries n d below))
      | inr earlier ↦ before k (omega (arith, within, earlier))
    ]

-- ---- entries that name data blocks

-- one that names none
pub not_data : (shape : Shape) (entries : List PdlEntry) (n : ℕ) (d : PdlEntry) → n < length entries → ¬ Contains (data_blocks shape) (get_or entries n d).block → ¬ All (Contains (data_blocks shape)) (pdl_blocks entries)
not_data shape entries n d below none all =
    none (subst (Contains (data_blocks shape)) (block_at entries n d below) (all n 0 (omega (arith, below, long entries))))

-- one more that names one
pub data_more : (shape : Shape) (entries : List PdlEntry) (n index : ℕ) (d : PdlEntry) → n < length entries
    → ((k : ℕ) → k < n → Contains (data_blocks shape) (slice_index (pdl_blocks entries) k)) → slice_get (data_blocks shape) index ≡ Some (get_or entries n d).block
    → (k : ℕ) → k < n + 1 → Contains (data_blocks shape) (slice_index (pdl_blocks entries) k)
data_more shape entries n index d below before at k within =
    elim (cases_eq k n) [
      | inl last ↦ subst (Contains (data_blocks shape)) (sym (block_at entries n d below) ∙ ap (λ (m : ℕ). get_or (pdl_blocks entries) m 0) (sym last)) (Contains-slice_get (data_blocks shape) index (get_or entries n d).block at)
      | inr earlier ↦ before k (omega (arith, within, earlier))
    ]

-- all
pub data_all : (shape : Shape) (entries : List PdlEntry) (n : ℕ) → length entries ≤ n → ((k : ℕ) → k < n → Contains (data_blocks shape) (slice_index (pdl_blocks entries) k)) → All (Contains (data_blocks shape)) (pdl_blocks entries)
data_all shape entries n past before =
    All-from_get_or (Contains (data_blocks shape)) (pdl_blocks entries) 0 (λ k below. before k (omega (arith, below, past, long entries)))

-- ---- both

-- where all but the data blocks is as it is to be, these decide
pub valid_if_data : (shape : Shape) (dds : Dds) (entries : List PdlEntry) (psa : ℕ) (found : Bool) → entries ≡ dds.entries → dds.layout ≡ shape.layout → dds.psa ≡ psa → psa ≡ shape.psa → SlipsFew shape (pdl_blocks entries)
    → IsStrictlyIncreasing (pdl_blocks entries) → (IsTrue found → All (Contains (data_blocks shape)) (pdl_blocks entries)) × (All (Contains (data_blocks shape)) (pdl_blocks entries) → IsTrue found)
    → (IsTrue found → IsValidPdl shape dds) × (IsValidPdl shape dds → IsTrue found)
valid_if_data shape dds entries psa found same kind named psa_is few rise tells = (
  λ t. record {
    same_layout = kind;
    same_psa = named ∙ psa_is;
    data_only = subst (λ (es : List PdlEntry). AreListed (data_blocks shape) (pdl_blocks es)) same (listed-All (data_blocks shape) (pdl_blocks entries) (tells.0 t));
    rising = subst (λ (es : List PdlEntry). IsStrictlyIncreasing (pdl_blocks es)) same rise;
    few = subst (λ (es : List PdlEntry). SlipsFew shape (pdl_blocks es)) same few;
  },
  λ valid. tells.1 (All-listed (data_blocks shape) (pdl_blocks entries) (subst (λ (es : List PdlEntry). AreListed (data_blocks shape) (pdl_blocks es)) (sym same) valid.data_only)),
)

-- where they are too many, it is not valid
pub not_few : (shape : Shape) (dds : Dds) (entries : List PdlEntry) → entries ≡ dds.entries → ¬ SlipsFew shape (pdl_blocks entries) → ¬ IsValidPdl shape dds
not_few shape dds entries same many valid = many (subst (λ (es : List PdlEntry). SlipsFew shape (pdl_blocks es)) (sym same) valid.few)

-- ---- the size of the supplementary spare area

-- where the spares are few enough and a logical block is left, the layout decides
pub ssa_if_fits : (shape : Shape) (version : Version) (ssa most room count : ℕ) (found : Bool) → most ≡ most_of version → room ≡ spare_room shape 0 → count ≡ length (data_blocks shape) → ssa ≤ most - room → room ≤ most → ssa < count - room
    → (IsTrue found → area_fits_by shape.layout shape ssa) × (area_fits_by shape.layout shape ssa → IsTrue found) → (IsTrue found → IsValidSsa shape version ssa) × (IsValidSsa shape version ssa → IsTrue found)
ssa_if_fits shape version ssa most room count found most_is room_is count_is few fits some tells = (
  λ t. record {
    most = omega (arith, room_grows shape ssa, few, fits, most_is, room_is);
    some_logical = omega (arith, room_grows shape ssa, some, room_is, count_is);
    of_kind = tells.0 t;
  },
  λ valid. tells.1 valid.of_kind,
)

-- else it is not valid
pub ssa_too_many : (shape : Shape) (version : Version) (ssa most room : ℕ) → most ≡ most_of version → room ≡ spare_room shape 0 → most - room < ssa → ¬ IsValidSsa shape version ssa
ssa_too_many shape version ssa most room most_is room_is many valid = (let few = valid.most in omega (arith, room_grows shape ssa, few, most_is, room_is, many))

pub none_left : (shape : Shape) (version : Version) (ssa room count : ℕ) → room ≡ spare_room shape 0 → count ≡ length (data_blocks shape) → count - room ≤ ssa → ¬ IsValidSsa shape version ssa
none_left shape version ssa room count room_is count_is full valid = (let some = valid.some_logical in omega (arith, room_grows shape ssa, some, room_is, count_is, full))

-- a layout with a group for each zone may have none
pub zones_may_have_none : (shape : Shape) (ssa : ℕ) → shape.layout ≡ EachZone → IsLawful shape → (IsTrue (nat_eq ssa 0) → area_fits_by shape.layout shape ssa) × (area_fits_by shape.layout shape ssa → IsTrue (nat_eq ssa 0))
zones_may_have_none shape ssa is lawful = (
  λ t. zone_area_fits shape is ssa (record { none = eqb-true ssa 0 t; each = (zones_fit shape lawful is).each }),
  λ fits. eq-eqb ssa 0 (zone_area shape is ssa fits).none,
)

pub slips_may_have_any : (shape : Shape) (ssa : ℕ) → shape.layout ≡ OneGroup → area_fits_by shape.layout shape ssa
slips_may_have_any shape ssa is = slip_area_fits shape is ssa
