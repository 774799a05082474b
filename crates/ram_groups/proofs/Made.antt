-- A table of zones is made, and its pools are those of its disc.
use Rattle.std.proofs.Common.{◌≡◌, ℕ, zero, suc, ◌+◌, ◌-◌, ◌<◌, ◌≤◌, List, ◌∷◌, ◌++◌, length, take, drop, map, refl, sym, ap, ◌∙◌, subst, arith}
use Rattle.std.specs.Prelude.{not, slice_index, vec_capacity}
use Rattle.std.specs.List.{Contains, range_with_len}
use Rattle.std.specs.List.Sorted.{IsStrictlyIncreasing}
use Rattle.std.proofs.lemmas.List.{length-append}
use Rattle.std.proofs.lemmas.List.Elements.{filter-append}
use Rattle.model_geometry.specs.declared.kinds.LayoutKind.TheVariants.{EachZone}
use Rattle.model_geometry.specs.Geometry.{Shape, IsLawful, data_blocks, zone_data, spare_room}
use Rattle.model_geometry.proofs.DataBlocks.{zones_data}
use Rattle.model_geometry.proofs.Zones.{zone_start_next}
use Rattle.model_lists.specs.declared.dds.PdlEntry.{PdlEntry}
use Rattle.model_lists.specs.Values.{Dds, pdl_blocks}
use Rattle.model_places.specs.Places.{slipped, unslipped, zone_unslipped, zones_unslipped, zone_count, zone_group, zone_groups, pools_of}
use Rattle.model_places.specs.Valid.{IsValidPdl, IsValidOnSome}
use Rattle.model_places.proofs.ByKind as by_kind
use Rattle.model_places.proofs.Pools.{unslipped_rise}
use Rattle.model_places.proofs.Zones.{zones_are_all, zone_cut_out, zone_roomy}
use Rattle.model_pools.specs.Listed.{is_listed}
use Rattle.model_pools.specs.Pools.{Pool}
use Rattle.model_pools.proofs.Listed.{Contains-from_filter}
use Rattle.ram_layout.specs.Filling.{kept_in}
use Rattle.ram_runs.specs.Runs.{blocks_in, IsTable, end_of}
use Rattle.ram_slip.proofs.ZonePlaces.{zone_bounds}
use Rattle.ram_groups.specs.declared.zone_layout.ZoneLayout.TheInside.{Inside}
use Rattle.ram_groups.specs.Zoning.{ZoneTable, zone_table_in, cut_out, zone_pool, zone_pools, IsCutIntoZones, IsZoningOf, IsZoneTable, AreStarts}

-- the blocks of the first zones that are kept are those that are not slipped
zones_kept : (shape : Shape) (dds : Dds) (n : ℕ) → kept_in (slipped dds) (zones_data shape n) ≡ zones_unslipped shape dds n
zones_kept shape dds zero = refl
zones_kept shape dds (suc n) =
    filter-append (λ block. not (is_listed (slipped dds) block)) (zones_data shape n) (zone_data shape n)
    ∙ ap (λ (l : List ℕ). l ++ zone_unslipped shape dds n) (zones_kept shape dds n)

-- pools that are equal zone by zone
same_pools : (f g : ℕ → Pool) (a m : ℕ) → ((z : ℕ) → a ≤ z → z < a + m → f z ≡ g z) → map f (range_with_len a m) ≡ map g (range_with_len a m)
same_pools f g a zero same = refl
same_pools f g a (suc m) same =
    ap (λ (p : Pool). p ∷ map f (range_with_len (a + 1) m)) (same a (omega arith) (omega arith))
    ∙ ap (λ (l : List Pool). g a ∷ l) (same_pools f g (a + 1) m (λ z low high. same z (omega (arith, low)) (omega (arith, high))))

-- ---- the table of a structure

module _ (shape : Shape) (dds : Dds) (blocks starts : List ℕ) (scaled : 1 ≤ shape.scale) (blocks_are : blocks ≡ unslipped shape dds)
    (starts_are : (zone : ℕ) → zone ≤ shape.zones → slice_index starts zone ≡ length (zones_unslipped shape dds zone)) where
  next_start : (z : ℕ) → z < shape.zones → slice_index starts (z + 1) ≡ length (zones_unslipped shape dds z) + length (zone_unslipped shape dds z)
  next_start z within =
      let one : z + 1 ≡ suc z = omega arith in
      starts_are (z + 1) (omega (arith, within))
      ∙ ap (λ (w : ℕ). length (zones_unslipped shape dds w)) one
      ∙ length-append (zones_unslipped shape dds z) (zone_unslipped shape dds z)

  -- its cuts are the blocks of the zones
  pub cut_is : (z : ℕ) → z < shape.zones → cut_out blocks starts z ≡ zone_unslipped shape dds z
  cut_is z within =
      let here = starts_are z (omega (arith, within)) in
      let long : slice_index starts (z + 1) - slice_index starts z ≡ length (zone_unslipped shape dds z) = omega (arith, here, next_start z within) in
      ap (λ (n : ℕ). take n (drop (slice_index starts z) blocks)) long
      ∙ ap (λ (n : ℕ). take (length (zone_unslipped shape dds z)) (drop n blocks)) here
      ∙ ap (λ (l : List ℕ). take (length (zone_unslipped shape dds z)) (drop (length (zones_unslipped shape dds z)) l)) blocks_are
      ∙ zone_cut_out shape dds scaled z within

  pub pools_are : map (zone_pool shape blocks starts) (range_with_len 0 shape.zones) ≡ zone_groups shape dds
  pools_are = same_pools (zone_pool shape blocks starts) (zone_group shape dds) 0 shape.zones
      (λ z low high. ap (λ (l : List ℕ). record { blocks = take (zone_count shape z) l; spares = drop (zone_count shape z) l }) (cut_is z (omega (arith, high))))

  in_zone : (z b : ℕ) → z < shape.zones → Contains (cut_out blocks starts z) b → Contains (zone_data shape z) b
  in_zone z b within has =
      (Contains-from_filter (λ block. not (is_listed (slipped dds) block)) (zone_data shape z) b (subst (λ (l : List ℕ). Contains l b) (cut_is z within) has)).1

  module _ (lawful : IsLawful shape) (is : shape.layout ≡ EachZone) (valid : IsValidPdl shape dds) (many : length starts ≡ shape.zones + 1) where
    pub cut_made : IsCutIntoZones shape blocks starts
    cut_made = record {
      rise = subst IsStrictlyIncreasing (sym blocks_are) (unslipped_rise shape dds);
      many = many;
      first = starts_are 0 (omega arith);
      last = starts_are shape.zones (omega arith) ∙ ap length (zones_are_all shape dds scaled) ∙ ap length (sym blocks_are);
      fits = λ z within. (let roomy = zone_roomy shape dds is valid 0 (by_kind.no_area shape lawful) z within in
          let here = starts_are z (omega (arith, within)) in
          omega (arith, roomy, here, next_start z within));
      low = λ z b within has. (let after = (zone_bounds shape z b (in_zone z b within has)).0 in omega (arith, after));
      high = λ z b within has. (let before = (zone_bounds shape z b (in_zone z b within has)).1 in omega (arith, before, zone_start_next shape z));
    }

-- the pools of a table are those of its disc
pub zoning_is : (shape : Shape) (dds : Dds) (ssa : ℕ) (table : ZoneTable) → shape.layout ≡ EachZone → IsValidOnSome shape ssa → IsZoningOf shape dds table → zone_pools table ≡ pools_of shape dds ssa
zoning_is shape dds ssa table is area zoning =
    let each = (by_kind.zone_area shape is ssa area.1.of_kind).each in
    ap (λ (s : Shape). map (zone_pool s table.blocks table.starts) (range_with_len 0 s.zones)) zoning.same_shape
    ∙ pools_are shape dds table.blocks table.starts (omega (arith, each)) zoning.blocks_are zoning.starts_are
    ∙ sym (by_kind.zone_pools shape is dds ssa)

-- ---- a table is made

module _ (inside : Inside) (dds : Dds) (entries : List PdlEntry) (lawful : IsLawful inside.geometry) (is : inside.geometry.layout ≡ EachZone) (are : entries ≡ dds.entries)
    (made : blocks_in inside.runs.items ≡ kept_in (pdl_blocks entries) (data_blocks inside.geometry)) (starts : AreStarts inside.geometry (pdl_blocks entries) (inside.geometry.zones + 1) inside.starts.items) where
  abbrev shape : Shape
  shape = inside.geometry

  blocks_made : blocks_in inside.runs.items ≡ unslipped shape dds
  unfolding unslipped
  blocks_made = made ∙ ap (λ (l : List PdlEntry). kept_in (pdl_blocks l) (data_blocks shape)) are

  starts_made : (zone : ℕ) → zone ≤ shape.zones → slice_index inside.starts.items zone ≡ length (zones_unslipped shape dds zone)
  starts_made zone within =
      starts.each zone (omega (arith, within))
      ∙ ap (λ (l : List PdlEntry). length (kept_in (pdl_blocks l) (zones_data shape zone))) are
      ∙ ap length (zones_kept shape dds zone)

  pub zoning_made : IsZoningOf shape dds (zone_table_in inside)
  zoning_made = record { same_shape = refl; blocks_are = blocks_made; starts_are = starts_made }

  pub whole_made : IsValidPdl shape dds → IsTable inside.runs.items → end_of 0 inside.runs.items ≤ 147016 → 4127 ≤ vec_capacity inside.runs → 36 ≤ vec_capacity inside.starts → IsZoneTable inside
  whole_made valid table small roomy room = record {
    zoned = record { kind = is; each = (by_kind.zones_fit shape lawful is).each };
    cut = cut_made shape dds (blocks_in inside.runs.items) inside.starts.items lawful.some_scale blocks_made starts_made lawful is valid starts.many;
    table = table;
    small = small;
    roomy = roomy;
    starts_room = room;
  }
