-- The pools of a disc with a group of spares for each zone.
use Rattle.std.proofs.Common.{◌≡◌, ℕ, zero, suc, ◌+◌, ◌-◌, ◌*◌, ◌<◌, ◌≤◌, ◌⊎◌, inl, inr, ⊎_elim, Bool, true, false, ◌&&◌, not, ltb, List, [], ◌++◌, length, take, drop, map, filter, refl, sym, ap, ◌∙◌, subst, arith}
use Rattle.std.specs.Prelude.{slice_index}
use Rattle.std.specs.List.{Contains, range_with_len}
use Rattle.std.specs.List.Sorted.{IsStrictlyIncreasing}
use Rattle.std.proofs.lemmas.Nat.{mul-le}
use Rattle.std.proofs.lemmas.Bool.{cases_lt, cases_eq, cases_Bool, true≢false, and_parts, and_from, lt-ltb, ltb-true, not-true, not_from_false, false_from_ne_true}
use Rattle.std.proofs.lemmas.Cmp.{nat_eq_equiv}
use Rattle.std.proofs.lemmas.List.{length-take, get_or-take, take_at, drop_at, append_assoc, append-nil}
use Rattle.std.proofs.lemmas.List.FromFn.{length-range_with_len, get_or-range_with_len}
use Rattle.std.proofs.lemmas.List.Elements.{filter-append, All-contains, Contains-append_left, Contains-append_right}
use Rattle.std.proofs.lemmas.List.Filters.{length-filter_both}
use Rattle.std.proofs.lemmas.List.Kept.{IsStrictlyIncreasing-filter}
use Rattle.std.proofs.lemmas.Map.Made.{length-from_same_keys}
use Rattle.model_geometry.specs.declared.kinds.LayoutKind.TheVariants.{EachZone}
use Rattle.model_geometry.specs.Geometry.{Shape, zone_blocks, zone_start, zone_data, is_inside, is_data, data_blocks, total}
use Rattle.model_geometry.proofs.DataBlocks.{is_data_inside, is_data_first, is_data_last, zone_of_data_block, zones_data, data_blocks_is, data_blocks_pass, data_block_bounds, range_with_len_rises, length-data_blocks}
use Rattle.model_geometry.proofs.Zones.{zone_start_first, zone_start_next, zone_start_rises}
use Rattle.model_lists.specs.declared.versions.Version.{Version}
use Rattle.model_lists.specs.Values.{Dds, most_of}
use Rattle.model_pools.specs.Listed.{is_listed}
use Rattle.model_pools.specs.Pools.{ArePools, logical_in, spares_in, all_in, pool_of, block_in}
use Rattle.model_pools.proofs.ZonedPlaces.{zone_block_at, zone_pool_at}
use Rattle.model_pools.proofs.Listed.{Decides-is_listed, is_listed-filter, is_member_is, Contains-filter, Contains-from_filter, IsDistinct-from_increasing}
use Rattle.model_pools.proofs.Zoned.{front_or_rest, from_front, from_rest, logical_zone, spare_zone, from_zone_logical, from_zone_spares, zoned_lawful, logical_count_in, spare_count_in}
use Rattle.model_places.specs.Places.{slipped, unslipped, zone_unslipped, zones_unslipped, zone_count, zone_first, zone_group, zone_groups, count_of}
use Rattle.model_places.specs.Valid.{IsValidPdl, IsValidSsa, slipped_in}
use Rattle.model_places.proofs.ByKind.{zones_few, zone_area, zone_room}

-- ---- numbers of a range

range_bounds : (a n b : ℕ) → Contains (range_with_len a n) b → (a ≤ b) × (b < a + n)
range_bounds a n b (k, within, is) =
    let less : k < n = omega (arith, within, length-range_with_len a n) in
    let at = get_or-range_with_len a n k b less in
    (omega (arith, at, is), omega (arith, at, is, less))

range_has : (a n b : ℕ) → a ≤ b → b < a + n → Contains (range_with_len a n) b
range_has a n b low high =
    let less : b - a < n = omega (arith, low, high) in
    (b - a, omega (arith, less, length-range_with_len a n), get_or-range_with_len a n (b - a) b less ∙ omega (arith, low))

-- ---- the data blocks of a zone

pub zone_has : (shape : Shape) (z b : ℕ) → is_inside shape b z ≡ true → Contains (zone_data shape z) b
zone_has shape z b inside =
    let start = zone_start shape z in
    let end = zone_start shape z + zone_blocks shape z in
    let parts : (ltb start b ≡ true) × (ltb (b + 1) end ≡ true) = and_parts (ltb start b) (ltb (b + 1) end) inside in
    let after = ltb-true start b parts.0 in
    let before = ltb-true (b + 1) end parts.1 in
    range_has (start + 1) (zone_blocks shape z - 2) b (omega (arith, after)) (omega (arith, after, before))

pub zone_inside : (shape : Shape) (z b : ℕ) → Contains (zone_data shape z) b → is_inside shape b z ≡ true
zone_inside shape z b has =
    let start = zone_start shape z in
    let bounds = range_bounds (start + 1) (zone_blocks shape z - 2) b has in
    let low = bounds.0 in
    let high = bounds.1 in
    and_from (ltb start b) (ltb (b + 1) (start + zone_blocks shape z)) (lt-ltb start b (omega (arith, low))) (lt-ltb (b + 1) (start + zone_blocks shape z) (omega (arith, low, high)))

-- they are data blocks of the disc
pub zone_is_data : (shape : Shape) (z b : ℕ) → z < shape.zones → Contains (zone_data shape z) b → Contains (data_blocks shape) b
unfolding data_blocks
zone_is_data shape z b within has =
    let start = zone_start shape z in
    let bounds = range_bounds (start + 1) (zone_blocks shape z - 2) b has in
    let low = bounds.0 in
    let high = bounds.1 in
    let its = is_data_inside shape z b within (omega (arith, low)) (omega (arith, low, high)) in
    let inside = (data_block_bounds shape b its).1 in
    Contains-filter (is_data shape) (range_with_len 0 (total shape)) b its (range_has 0 (total shape) b (omega arith) (omega (arith, inside)))

-- and each data block is one of some zone's
pub data_in_zone : (shape : Shape) (b : ℕ) → Contains (data_blocks shape) b → (z : ℕ) × (z < shape.zones) × Contains (zone_data shape z) b
data_in_zone shape b has =
    let its = All-contains (λ x. is_data shape x ≡ true) (data_blocks shape) b (data_blocks_pass shape) has in
    let found = zone_of_data_block shape b has in
    let z = found.0 in
    let in_zone = found.1 in
    let start = zone_start shape z in
    let low = in_zone.from_start in
    let high = in_zone.before_end in
    let after : start < b = elim (cases_eq b start) [
      | inl same ↦ absurd (true≢false (sym its ∙ ap (is_data shape) same ∙ is_data_first shape z))
      | inr other ↦ omega (arith, low, other)
    ] in
    let before : b + 1 < start + zone_blocks shape z = elim (cases_eq (b + 1) (start + zone_blocks shape z)) [
      | inl last ↦ absurd (true≢false (sym its ∙ is_data_last shape z b (last ∙ sym (zone_start_next shape z))))
      | inr other ↦ omega (arith, high, other)
    ] in
    (z, in_zone.zone, range_has (start + 1) (zone_blocks shape z - 2) b (omega (arith, after)) (omega (arith, after, before)))

-- ---- those that are not slipped

module _ (shape : Shape) (dds : Dds) where
  abbrev U : ℕ → List ℕ
  U = zone_unslipped shape dds

  zone_rise : (z : ℕ) → IsStrictlyIncreasing (U z)
  zone_rise z = IsStrictlyIncreasing-filter (λ block. not (is_listed (slipped dds) block)) (zone_data shape z) (range_with_len_rises (zone_start shape z + 1) (zone_blocks shape z - 2))

  zone_low : (z b : ℕ) → Contains (U z) b → zone_start shape z ≤ b
  zone_low z b has =
      let bounds = range_bounds (zone_start shape z + 1) (zone_blocks shape z - 2) b (Contains-from_filter (λ block. not (is_listed (slipped dds) block)) (zone_data shape z) b has).1 in
      let low = bounds.0 in
      omega (arith, low)

  zone_high : (z b : ℕ) → Contains (U z) b → b < zone_start shape (z + 1)
  zone_high z b has =
      let bounds = range_bounds (zone_start shape z + 1) (zone_blocks shape z - 2) b (Contains-from_filter (λ block. not (is_listed (slipped dds) block)) (zone_data shape z) b has).1 in
      let low = bounds.0 in
      let high = bounds.1 in
      omega (arith, low, high, zone_start_next shape z)

  pub zones_lawful : ArePools (zone_groups shape dds)
  zones_lawful = zoned_lawful U (zone_count shape) (zone_start shape) zone_rise zone_low zone_high (zone_start_rises shape) 0 shape.zones

  -- a block of a zone that is not slipped is a data block that is not slipped
  kept_is_data : (z b : ℕ) → z < shape.zones → Contains (U z) b → Contains (data_blocks shape) b × (¬ Contains (slipped dds) b)
  kept_is_data z b within has =
      let parts = Contains-from_filter (λ block. not (is_listed (slipped dds) block)) (zone_data shape z) b has in
      (zone_is_data shape z b within parts.1, λ listed. true≢false (sym ((Decides-is_listed (slipped dds) b).1 listed) ∙ not-true (is_listed (slipped dds) b) parts.0))

  pub zoned_logical_data : (b : ℕ) → Contains (logical_in (zone_groups shape dds)) b → Contains (data_blocks shape) b × (¬ Contains (slipped dds) b)
  zoned_logical_data b has =
      let at = logical_zone U (zone_count shape) (zone_start shape) 0 shape.zones b has in
      kept_is_data at.0 b (omega (arith, at.2)) (from_front (U at.0) (zone_count shape at.0) b at.3)

  pub zoned_spare_data : (b : ℕ) → Contains (spares_in (zone_groups shape dds)) b → Contains (data_blocks shape) b × (¬ Contains (slipped dds) b)
  zoned_spare_data b has =
      let at = spare_zone U (zone_count shape) (zone_start shape) 0 shape.zones b has in
      kept_is_data at.0 b (omega (arith, at.2)) (from_rest (U at.0) (zone_count shape at.0) b at.3)

  -- each data block that is not slipped lies in the pool of its zone
  pub zoned_every : (b : ℕ) → Contains (data_blocks shape) b → ¬ Contains (slipped dds) b → Contains (all_in (zone_groups shape dds)) b
  zoned_every b has apart =
      let at = data_in_zone shape b has in
      let z = at.0 in
      let fails : is_listed (slipped dds) b ≡ false = false_from_ne_true (is_listed (slipped dds) b) (λ t. apart ((Decides-is_listed (slipped dds) b).0 t)) in
      let kept = Contains-filter (λ block. not (is_listed (slipped dds) block)) (zone_data shape z) b (not_from_false (is_listed (slipped dds) b) fails) at.2 in
      let logical = logical_in (zone_groups shape dds) in
      let spare = spares_in (zone_groups shape dds) in
      ⊎_elim (λ front. Contains-append_left logical spare b (from_zone_logical U (zone_count shape) (zone_start shape) 0 shape.zones z b (omega arith) (omega (arith, at.1)) front))
      (λ rest. Contains-append_right logical spare b (from_zone_spares U (zone_count shape) (zone_start shape) 0 shape.zones z b (omega arith) (omega (arith, at.1)) rest))
      (front_or_rest (U z) (zone_count shape z) b kept)

  -- ---- where they stand among all

  zones_kept : (n : ℕ) → filter (λ block. not (is_listed (slipped dds) block)) (zones_data shape n) ≡ zones_unslipped shape dds n
  zones_kept zero = refl
  zones_kept (suc n) = filter-append (λ block. not (is_listed (slipped dds) block)) (zones_data shape n) (zone_data shape n) ∙ ap (λ (l : List ℕ). l ++ U n) (zones_kept n)

  -- those of all zones are all
  pub zones_are_all : 1 ≤ shape.scale → zones_unslipped shape dds shape.zones ≡ unslipped shape dds
  unfolding unslipped
  zones_are_all scaled = sym (zones_kept shape.zones) ∙ ap (filter (λ block. not (is_listed (slipped dds) block))) (sym (data_blocks_is shape scaled))

  zone_split : (n z : ℕ) → z < n → (rest : List ℕ) × (zones_unslipped shape dds n ≡ zones_unslipped shape dds z ++ (U z ++ rest))
  zone_split zero z less = absurd (omega (arith, less))
  zone_split (suc n) z less = elim (cases_lt z n) [
    | inl earlier ↦ (let on = zone_split n z earlier in
        (on.0 ++ U n, ap (λ (l : List ℕ). l ++ U n) on.1 ∙ append_assoc (zones_unslipped shape dds z) (U z ++ on.0) (U n) ∙ ap (λ (l : List ℕ). zones_unslipped shape dds z ++ l) (append_assoc (U z) on.0 (U n))))
    | inr last ↦ (let same : z ≡ n = omega (arith, less, last) in
        ([], sym (ap (λ (w : ℕ). zones_unslipped shape dds w ++ U w) same) ∙ ap (λ (l : List ℕ). zones_unslipped shape dds z ++ l) (sym (append-nil (U z)))))
  ]

  -- those of a zone are cut out of all behind those of the zones before
  pub zone_cut_out : 1 ≤ shape.scale → (z : ℕ) → z < shape.zones → take (length (U z)) (drop (length (zones_unslipped shape dds z)) (unslipped shape dds)) ≡ U z
  zone_cut_out scaled z within =
      let split = zone_split shape.zones z within in
      ap (λ (l : List ℕ). take (length (U z)) (drop (length (zones_unslipped shape dds z)) l)) (sym (zones_are_all scaled) ∙ split.1)
      ∙ ap (take (length (U z))) (drop_at (zones_unslipped shape dds z) (U z ++ split.0) (length (zones_unslipped shape dds z)) refl)
      ∙ take_at (U z) split.0 (length (U z)) refl

  -- ---- how many there are

  both_same : (a b l m : Bool) → (m ≡ b) → (a && m) ≡ (b && a)
  both_same true true l m same = same
  both_same true false l m same = same
  both_same false true l m same = refl
  both_same false false l m same = refl

  in_zone_same : (z q : ℕ) → is_listed (zone_data shape z) q ≡ is_inside shape q z
  in_zone_same z q = elim (cases_Bool (is_inside shape q z)) [
    | inl inside ↦ (Decides-is_listed (zone_data shape z) q).1 (zone_has shape z q inside) ∙ sym inside
    | inr outside ↦ false_from_ne_true (is_listed (zone_data shape z) q) (λ t. true≢false (sym (zone_inside shape z q ((Decides-is_listed (zone_data shape z) q).0 t)) ∙ outside)) ∙ sym outside
  ]

  -- of the data blocks of a zone as many are slipped as it has slipped blocks
  slipped_many : IsStrictlyIncreasing (slipped dds) → (z : ℕ) → length (filter (is_listed (slipped dds)) (zone_data shape z)) ≡ slipped_in shape (slipped dds) z
  slipped_many rise z =
      let front = filter (is_listed (slipped dds)) (zone_data shape z) in
      let back = filter (λ block. is_inside shape block z) (slipped dds) in
      length-from_same_keys nat_eq_equiv front back
      (IsDistinct-from_increasing front (IsStrictlyIncreasing-filter (is_listed (slipped dds)) (zone_data shape z) (range_with_len_rises (zone_start shape z + 1) (zone_blocks shape z - 2))))
      (IsDistinct-from_increasing back (IsStrictlyIncreasing-filter (λ block. is_inside shape block z) (slipped dds) rise))
      (λ q. is_member_is front q
      ∙ is_listed-filter (is_listed (slipped dds)) (zone_data shape z) q
      ∙ both_same (is_listed (slipped dds) q) (is_inside shape q z) true (is_listed (zone_data shape z) q) (in_zone_same z q)
      ∙ sym (is_listed-filter (λ block. is_inside shape block z) (slipped dds) q)
      ∙ sym (is_member_is back q))

  pub length-zone : IsStrictlyIncreasing (slipped dds) → (z : ℕ) → length (U z) + slipped_in shape (slipped dds) z ≡ zone_blocks shape z - 2
  length-zone rise z =
      omega (arith, slipped_many rise z, length-range_with_len (zone_start shape z + 1) (zone_blocks shape z - 2), length-filter_both (is_listed (slipped dds)) (λ block. not (is_listed (slipped dds) block)) (λ _. refl) (zone_data shape z))

  module _ (is : shape.layout ≡ EachZone) (valid : IsValidPdl shape dds) (ssa : ℕ) {version : Version} (area : IsValidSsa shape version ssa) where
    each : shape.psa + 2 < shape.scale * 25
    each = (zone_area shape is ssa area.of_kind).each

    wide : (z : ℕ) → shape.psa + 2 < zone_blocks shape z
    wide z = omega (arith, each, mul-le shape.scale 25 shape.scale (25 + z) (omega arith) (omega arith))

    sized : (z : ℕ) → zone_count shape z + shape.psa + 2 ≡ zone_blocks shape z
    sized z = omega (arith, wide z)

    few : (z : ℕ) → z < shape.zones → slipped_in shape (slipped dds) z ≤ shape.psa
    few = zones_few shape is (slipped dds) valid.few

    pub zone_roomy : (z : ℕ) → z < shape.zones → zone_count shape z ≤ length (U z)
    zone_roomy z within = (let h = few z within in omega (arith, h, length-zone valid.rising z, sized z))

    pub zoned_count : length (logical_in (zone_groups shape dds)) ≡ count_of shape ssa
    zoned_count =
        let sum = logical_count_in U (zone_count shape) (zone_start shape) (zone_blocks shape) shape.psa sized (zone_start_next shape) 0 shape.zones (λ z low high. zone_roomy z (omega (arith, high))) in
        let e : 0 + shape.zones ≡ shape.zones = omega arith in
        let none = (zone_area shape is ssa area.of_kind).none in
        omega (arith, sum, ap (zone_start shape) e, zone_start_first shape, none, zone_room shape is ssa, length-data_blocks shape (let h = each in omega (arith, h)))

    pub zoned_spares : length (spares_in (zone_groups shape dds)) ≤ most_of version
    zoned_spares =
        let few = spare_count_in U (zone_count shape) (zone_start shape) (zone_blocks shape) shape.psa sized (zone_start_next shape) 0 shape.zones (λ z low high. omega (arith, length-zone valid.rising z, sized z)) in
        omega (arith, few, zone_room shape is ssa, area.most)

    -- ---- by their numbers

    module _ (z j : ℕ) (within : z < shape.zones) (inside : j < zone_count shape z) where
      rest : ℕ
      rest = shape.zones - z - 1

      split : z + (rest + 1) ≡ shape.zones
      unfolding rest
      split = omega (arith, within)

      first_is : length (logical_in (map (zone_group shape dds) (range_with_len 0 z))) ≡ zone_first shape z
      first_is =
          let sum = logical_count_in U (zone_count shape) (zone_start shape) (zone_blocks shape) shape.psa sized (zone_start_next shape) 0 z (λ w low high. zone_roomy w (omega (arith, high, within))) in
          let e : 0 + z ≡ z = omega arith in
          omega (arith, sum, ap (zone_start shape) e, zone_start_first shape)

      there : j < length (zone_group shape dds (0 + z)).blocks
      there =
          let e : z ≡ 0 + z = omega arith in
          subst (λ (w : ℕ). j < length (zone_group shape dds w).blocks) e (let roomy = zone_roomy z within in omega (arith, inside, roomy, length-take (zone_count shape z) (U z)))

      -- the j-th logical block of a zone is the j-th of its blocks that are not slipped
      pub zoned_block : block_in (zone_groups shape dds) (zone_first shape z + j) ≡ slice_index (U z) j
      zoned_block =
          let e : 0 + z ≡ z = omega arith in
          ap (λ (m : ℕ). block_in (map (zone_group shape dds) (range_with_len 0 m)) (zone_first shape z + j)) (sym split)
          ∙ ap (λ (f : ℕ). block_in (map (zone_group shape dds) (range_with_len 0 (z + (rest + 1)))) (f + j)) (sym first_is)
          ∙ zone_block_at (zone_group shape dds) 0 z rest j there
          ∙ ap (λ (w : ℕ). slice_index (zone_group shape dds w).blocks j) e
          ∙ get_or-take (zone_count shape z) (U z) j 0 inside

      -- and its pool is the zone's
      pub zoned_pool : pool_of (zone_groups shape dds) (zone_first shape z + j) ≡ z
      zoned_pool =
          ap (λ (m : ℕ). pool_of (map (zone_group shape dds) (range_with_len 0 m)) (zone_first shape z + j)) (sym split)
          ∙ ap (λ (f : ℕ). pool_of (map (zone_group shape dds) (range_with_len 0 (z + (rest + 1)))) (f + j)) (sym first_is)
          ∙ zone_pool_at (zone_group shape dds) 0 z rest j there
