-- What is said by the kind of the layout.
use Rattle.std.proofs.Common.{◌≡◌, ℕ, ◌+◌, ◌-◌, ◌*◌, ◌/◌, ◌<◌, ◌≤◌, ◌⊎◌, inl, inr, length, refl, ap, subst, arith}
use Rattle.std.proofs.lemmas.Nat.{mul-le}
use Rattle.model_geometry.specs.declared.kinds.LayoutKind.{LayoutKind}
use Rattle.model_geometry.specs.declared.kinds.LayoutKind.TheVariants.{OneGroup, EachZone}
use Rattle.model_geometry.specs.Geometry.{Shape, data_blocks, room_by_kind, spare_room, formattable, fits_by_kind, shape_in, SparesFitZones, IsLawful}
use Rattle.model_geometry.proofs.Zones.{zone_start_closed}
use Rattle.model_geometry.proofs.DataBlocks.{length-data_blocks}

-- a layout is of one kind or of the other
pub cases_kind : (kind : LayoutKind) → (kind ≡ OneGroup) ⊎ (kind ≡ EachZone)
cases_kind OneGroup = inl refl
cases_kind EachZone = inr refl

pub two_kinds : {A : Type 0} → OneGroup ≡ EachZone → A
two_kinds same = absurd (let w = same in cc)

pub slip_room : (shape : Shape) → shape.layout ≡ OneGroup → (ssa : ℕ) → spare_room shape ssa ≡ shape.psa + ssa
unfolding spare_room
slip_room shape is ssa = ap (λ (kind : LayoutKind). room_by_kind kind shape ssa) is

pub zone_room : (shape : Shape) → shape.layout ≡ EachZone → (ssa : ℕ) → spare_room shape ssa ≡ shape.zones * shape.psa + ssa
unfolding spare_room
zone_room shape is ssa = ap (λ (kind : LayoutKind). room_by_kind kind shape ssa) is

pub slip_formattable : (shape : Shape) → shape.layout ≡ OneGroup → (length (data_blocks shape) - shape.psa) * 16 ≡ formattable shape
slip_formattable shape is = omega (arith, slip_room shape is 0)

-- whatever the kind, supplementary spares are kept beside the others
pub room_grows : (shape : Shape) (ssa : ℕ) → spare_room shape ssa ≡ spare_room shape 0 + ssa
room_grows shape ssa = elim (cases_kind shape.layout) [
  | inl is ↦ omega (arith, slip_room shape is ssa, slip_room shape is 0)
  | inr is ↦ omega (arith, zone_room shape is ssa, zone_room shape is 0)
]

-- what a lawful geometry with a group for each zone fits
pub zones_fit : (shape : Shape) → IsLawful shape → shape.layout ≡ EachZone → SparesFitZones shape
zones_fit shape lawful is = subst (λ (kind : LayoutKind). fits_by_kind kind shape) is lawful.layout_fits

-- zones with fewer spares than data blocks leave a logical block
pub zones_leave_some : (shape : Shape) → 1 ≤ shape.zones → shape.psa + 2 < shape.scale * 25 → shape.zones * shape.psa < length (data_blocks shape)
zones_leave_some shape some each =
    let z = shape.zones in
    let half : 25 * z ≤ z * (z + 49) / 2 = omega (arith, mul-le z 50 z (z + 49) (omega arith) (omega (arith, some))) in
    let wide = mul-le shape.scale (25 * z) shape.scale (z * (z + 49) / 2) (omega arith) half in
    let all = mul-le z (shape.psa + 3) z (shape.scale * 25) (omega arith) (omega (arith, each)) in
    omega (arith, wide, all, some, zone_start_closed shape z, length-data_blocks shape (omega (arith, each)))

-- so a geometry whose spares fit each zone is lawful with that kind of layout
pub lawful_in_zones : (s : Shape) → IsLawful s → SparesFitZones s → IsLawful (shape_in EachZone s.zones s.scale s.psa)
lawful_in_zones s lawful fits = record {
  some_zones = lawful.some_zones;
  most_zones = lawful.most_zones;
  some_scale = lawful.some_scale;
  most_scale = lawful.most_scale;
  some_spares = lawful.some_spares;
  most_spares = lawful.most_spares;
  spares_within = omega (arith, zones_leave_some (shape_in EachZone s.zones s.scale s.psa) lawful.some_zones fits.each, mul-le 1 s.psa s.zones s.psa lawful.some_zones (omega arith));
  layout_fits = record { all = fits.all; each = fits.each };
}
