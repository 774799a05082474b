-- A header tells the three numbers of a geometry, so it is that of one geometry of each kind of layout, and all of these have as many
-- blocks.
use Rattle.std.specs.Prelude.{◌≡◌, ℕ, ◌+◌, ◌*◌, ◌/◌, ◌%◌, ◌<◌, List, slice_index}
use Rattle.std.proofs.Common.{arith, sym, ap, ◌∙◌}
use Rattle.model_geometry.specs.declared.kinds.LayoutKind.{LayoutKind}
use Rattle.model_geometry.specs.Geometry.{Shape, IsLawful, label_of, total}
use Rattle.model_geometry.proofs.Zones.{zone_start_closed}
use Rattle.model_image.specs.Cells.{image_len, cells_of}
use Rattle.model_image.specs.Image.{header_of, HasHeader, IsDiscImage, IsImageOf}

-- a number below 65,536 by its two bytes
two_bytes : (m n : ℕ) → m < 65536 → n < 65536 → m / 256 % 256 ≡ n / 256 % 256 → m % 256 ≡ n % 256 → m ≡ n
two_bytes m n p q high low = omega arith

module _ (a b : Shape) (p : IsLawful a) (q : IsLawful b) (same : header_of a ≡ header_of b) where
  at : (k : ℕ) → slice_index (header_of a) k ≡ slice_index (header_of b) k
  at k = ap (λ l. slice_index l k) same

  same_zones : a.zones ≡ b.zones
  same_zones = two_bytes a.zones b.zones (omega (arith, p.most_zones)) (omega (arith, q.most_zones)) (at 8) (at 9)

  same_scale : a.scale ≡ b.scale
  same_scale = two_bytes a.scale b.scale (omega (arith, p.most_scale)) (omega (arith, q.most_scale)) (at 10) (at 11)

  same_spares : a.psa ≡ b.psa
  same_spares = two_bytes a.psa b.psa (omega (arith, p.most_spares)) (omega (arith, q.most_spares)) (at 12) (at 13)

same_shape : (a b : Shape) → a.layout ≡ b.layout → IsLawful a → IsLawful b → header_of a ≡ header_of b → a ≡ b
same_shape a b kind p q same =
    ap (λ (z : ℕ). record a { zones = z }) (same_zones a b p q same)
    ∙ ap (λ (k : ℕ). record a { zones = b.zones; scale = k }) (same_scale a b p q same)
    ∙ ap (λ (s : ℕ). record a { zones = b.zones; scale = b.scale; psa = s }) (same_spares a b p q same)
    ∙ ap (λ (l : LayoutKind). record b { layout = l }) kind

pub one_header : (a b : Shape) (bytes : List ℕ) → a.layout ≡ b.layout → HasHeader a bytes → HasHeader b bytes → a ≡ b
one_header a b bytes kind p q = same_shape a b kind p.lawful q.lawful (sym p.header ∙ q.header)

-- ---- whatever the kind of the layout

same_total : (a b : Shape) → a.zones ≡ b.zones → a.scale ≡ b.scale → total a ≡ total b
same_total a b zones scale =
    ap (λ (n : ℕ). n + 8) (zone_start_closed a a.zones
    ∙ ap (λ (z : ℕ). 8 + a.scale * (z * (z + 49) / 2)) zones
    ∙ ap (λ (k : ℕ). 8 + k * (b.zones * (b.zones + 49) / 2)) scale
    ∙ sym (zone_start_closed b b.zones))

-- geometries with one header have as many blocks
pub total_by_header : (a b : Shape) (bytes : List ℕ) → HasHeader a bytes → HasHeader b bytes → total a ≡ total b
total_by_header a b bytes p q =
    let same = sym p.header ∙ q.header in
    same_total a b (same_zones a b p.lawful q.lawful same) (same_scale a b p.lawful q.lawful same)

same_header : (a b : Shape) → a.zones ≡ b.zones → a.scale ≡ b.scale → a.psa ≡ b.psa → header_of a ≡ header_of b
same_header a b zones scale spares =
    ap (λ (z : ℕ). header_of (record a { zones = z })) zones
    ∙ ap (λ (k : ℕ). header_of (record a { zones = b.zones; scale = k })) scale
    ∙ ap (λ (s : ℕ). header_of (record a { zones = b.zones; scale = b.scale; psa = s })) spares

-- an image of one of the geometries of a label is one of each of them that is lawful, with the same cells
pub image_by_label : (a b : Shape) (bytes : List ℕ) → label_of a ≡ label_of b → IsLawful b → IsDiscImage a bytes → IsImageOf b (cells_of (total a) bytes) bytes
image_by_label a b bytes label lawful disc =
    let zones : a.zones ≡ b.zones = cc in
    let scale : a.scale ≡ b.scale = cc in
    let spares : a.psa ≡ b.psa = cc in
    let blocks = same_total a b zones scale in
    record {
      disc = record {
        has_header = record { lawful = lawful; header = disc.has_header.header ∙ same_header a b zones scale spares };
        as_long = disc.as_long ∙ ap image_len blocks;
      };
      cells_are = ap (λ (n : ℕ). cells_of n bytes) (sym blocks);
    }
