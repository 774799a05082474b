-- What is said by the kind of the layout.
use Rattle.std.proofs.Common.{◌≡◌, ℕ, zero, suc, ◌-◌, if◌then◌else◌, ◌<◌, ◌≤◌, ◌⊎◌, inl, inr, ⊎_elim, true, false, nat_lt, IsTrue, List, [], ◌∷◌, length, refl, sym, ap, subst, ◌∙◌, arith}
use Rattle.std.specs.List.{count_by}
use Rattle.std.proofs.lemmas.Bool.{cases_lt, cond-true, cond-false, lt-ltb, le-ltb}
use Rattle.std.proofs.lemmas.List.{length-map}
use Rattle.std.proofs.lemmas.List.FromFn.{length-map-range_with_len}
use Rattle.model_geometry.specs.declared.kinds.LayoutKind.{LayoutKind}
use Rattle.model_geometry.specs.declared.kinds.LayoutKind.TheVariants.{OneGroup, EachZone}
use Rattle.model_geometry.specs.Geometry.{Shape, IsLawful, data_blocks}
pub use Rattle.model_geometry.proofs.ByKind.{cases_kind, slip_room, zone_room, room_grows, zones_fit, zones_leave_some}
use Rattle.model_lists.specs.declared.dds.PdlEntry.{PdlEntry}
use Rattle.model_lists.specs.declared.versions.Version.{Version}
use Rattle.model_lists.specs.declared.versions.Version.TheVariants.{Two}
use Rattle.model_lists.specs.Values.{Dds, most_of, pdl_blocks}
use Rattle.model_places.specs.Places.{Lists, slipped, one_group, zone_group, zone_groups, pools_by, pools_of, pool_count_by, pool_count, count_of, is_free, primary_spares, primary_by_kind, supplementary_spares, supplementary_by_kind, free_primary_count, free_supplementary_count}
use Rattle.model_places.specs.Valid.{IsValidPdl, IsValidSsa, IsZoneArea, area_fits_by, SlipsFew, slips_few_by, slipped_in, first_over, told_too_many, told_by_kind, AreaGrows, area_grows_by}

-- as many blocks are slipped as there are entries
pub length-slipped : (dds : Dds) → length (slipped dds) ≡ length dds.entries
length-slipped dds = length-map dds.entries (λ (e : PdlEntry). e.block)

-- ---- with one group

pub slip_pools : (shape : Shape) → shape.layout ≡ OneGroup → (dds : Dds) (ssa : ℕ) → pools_of shape dds ssa ≡ one_group shape dds ssa ∷ []
unfolding pools_of
slip_pools shape is dds ssa = ap (λ (kind : LayoutKind). pools_by kind shape dds ssa) is

pub slip_counts : (shape : Shape) → shape.layout ≡ OneGroup → (ssa : ℕ) → count_of shape ssa ≡ length (data_blocks shape) - shape.psa - ssa
slip_counts shape is ssa = omega (arith, slip_room shape is ssa)

pub slips_few : (shape : Shape) → shape.layout ≡ OneGroup → (blocks : List ℕ) → SlipsFew shape blocks → length blocks ≤ shape.psa
unfolding SlipsFew
slips_few shape is blocks few = subst (λ (kind : LayoutKind). slips_few_by kind shape blocks) is few

pub slips_few_from : (shape : Shape) → shape.layout ≡ OneGroup → (blocks : List ℕ) → length blocks ≤ shape.psa → SlipsFew shape blocks
unfolding SlipsFew
slips_few_from shape is blocks few = subst (λ (kind : LayoutKind). slips_few_by kind shape blocks) (sym is) few

-- where more blocks are defective than may be slipped, what is told of them
pub slip_told : (shape : Shape) → shape.layout ≡ OneGroup → (blocks : List ℕ) → told_too_many shape blocks ≡ length blocks
unfolding told_too_many
slip_told shape is blocks = ap (λ (kind : LayoutKind). told_by_kind kind shape blocks) is

-- the area of a disc with one group grows
pub slip_area_grows : (shape : Shape) → shape.layout ≡ OneGroup → AreaGrows shape
unfolding AreaGrows
slip_area_grows shape is = subst (λ (kind : LayoutKind). IsTrue (area_grows_by kind)) (sym is) refl

-- its kind asks nothing of the area
pub slip_area_fits : (shape : Shape) → shape.layout ≡ OneGroup → (ssa : ℕ) → area_fits_by shape.layout shape ssa
slip_area_fits shape is ssa = subst (λ (kind : LayoutKind). area_fits_by kind shape ssa) (sym is) tt

pub few_slipped : (shape : Shape) → shape.layout ≡ OneGroup → (dds : Dds) → IsValidPdl shape dds → length dds.entries ≤ shape.psa
few_slipped shape is dds valid = let few = slips_few shape is (slipped dds) valid.few in omega (arith, few, length-slipped dds)

pub free_primary_is : (shape : Shape) → shape.layout ≡ OneGroup → (lists : Lists) → free_primary_count shape lists ≡ count_by (is_free lists) (primary_spares shape lists.dds)
unfolding free_primary_count
free_primary_is shape is lists = ap (λ (kind : LayoutKind). count_by (is_free lists) (primary_by_kind kind shape lists)) is

pub free_supplementary_is : (shape : Shape) → shape.layout ≡ OneGroup → (lists : Lists) → free_supplementary_count shape lists ≡ count_by (is_free lists) (supplementary_spares shape lists.dds lists.sdl.ssa)
unfolding free_supplementary_count
free_supplementary_is shape is lists = ap (λ (kind : LayoutKind). count_by (is_free lists) (supplementary_by_kind kind shape lists)) is

-- ---- with a group for each zone

pub zone_pools : (shape : Shape) → shape.layout ≡ EachZone → (dds : Dds) (ssa : ℕ) → pools_of shape dds ssa ≡ zone_groups shape dds
unfolding pools_of
zone_pools shape is dds ssa = ap (λ (kind : LayoutKind). pools_by kind shape dds ssa) is

pub zones_few : (shape : Shape) → shape.layout ≡ EachZone → (blocks : List ℕ) → SlipsFew shape blocks → (zone : ℕ) → zone < shape.zones → slipped_in shape blocks zone ≤ shape.psa
unfolding SlipsFew
zones_few shape is blocks few = subst (λ (kind : LayoutKind). slips_few_by kind shape blocks) is few

pub zones_few_from : (shape : Shape) → shape.layout ≡ EachZone → (blocks : List ℕ) → ((zone : ℕ) → zone < shape.zones → slipped_in shape blocks zone ≤ shape.psa) → SlipsFew shape blocks
unfolding SlipsFew
zones_few_from shape is blocks few = subst (λ (kind : LayoutKind). slips_few_by kind shape blocks) (sym is) few

pub zones_told : (shape : Shape) → shape.layout ≡ EachZone → (blocks : List ℕ) → told_too_many shape blocks ≡ first_over shape.psa (slipped_in shape blocks) shape.zones
unfolding told_too_many
zones_told shape is blocks = ap (λ (kind : LayoutKind). told_by_kind kind shape blocks) is

pub no_zone_grows : (shape : Shape) → shape.layout ≡ EachZone → ¬ AreaGrows shape
unfolding AreaGrows
no_zone_grows shape is grows = (let e : false ≡ true = subst (λ (kind : LayoutKind). IsTrue (area_grows_by kind)) is grows in cc)

pub zone_area : (shape : Shape) → shape.layout ≡ EachZone → (ssa : ℕ) → area_fits_by shape.layout shape ssa → IsZoneArea shape ssa
zone_area shape is ssa fits = subst (λ (kind : LayoutKind). area_fits_by kind shape ssa) is fits

pub zone_area_fits : (shape : Shape) → shape.layout ≡ EachZone → (ssa : ℕ) → IsZoneArea shape ssa → area_fits_by shape.layout shape ssa
zone_area_fits shape is ssa fits = subst (λ (kind : LayoutKind). area_fits_by kind shape ssa) (sym is) fits

-- ---- the first zone that has more than a limit

module _ (limit : ℕ) (many : ℕ → ℕ) where
  -- where the earlier zones have one, it is that one's number; else this zone's where it has more; else 0
  over_before : (z : ℕ) → limit < first_over limit many z → first_over limit many (suc z) ≡ first_over limit many z
  over_before z over = cond-true (nat_lt limit (first_over limit many z)) (first_over limit many z) (if nat_lt limit (many z) then many z else 0) (lt-ltb limit (first_over limit many z) over)

  over_here : (z : ℕ) → first_over limit many z ≤ limit → limit < many z → first_over limit many (suc z) ≡ many z
  over_here z under over =
      cond-false (nat_lt limit (first_over limit many z)) (first_over limit many z) (if nat_lt limit (many z) then many z else 0) (le-ltb limit (first_over limit many z) under)
      ∙ cond-true (nat_lt limit (many z)) (many z) 0 (lt-ltb limit (many z) over)

  -- it is more than the limit, or no zone has more
  pub over_or_none : (zones : ℕ) → (limit < first_over limit many zones) ⊎ ((z : ℕ) → z < zones → many z ≤ limit)
  over_or_none zero = inr (λ z less. absurd (omega (arith, less)))
  over_or_none (suc zones) = elim (cases_lt limit (first_over limit many zones)) [
    | inl before ↦ inl (omega (arith, before, over_before zones before))
    | inr under ↦ elim (cases_lt limit (many zones)) [
      | inl here ↦ inl (omega (arith, here, over_here zones under here))
      | inr few ↦ elim (over_or_none zones) [
        | inl over ↦ absurd (omega (arith, over, under))
        | inr none ↦ inr (λ z less. elim (cases_lt z zones) [
          | inl earlier ↦ none z earlier
          | inr last ↦ (let same : z ≡ zones = omega (arith, less, last) in subst (λ (w : ℕ). many w ≤ limit) (sym same) few)
        ])
      ]
    ]
  ]

  -- where no zone has more, it is no more
  pub none_over : (zones : ℕ) → ((w : ℕ) → w < zones → many w ≤ limit) → first_over limit many zones ≤ limit
  none_over zero few = omega arith
  none_over (suc zones) few =
      let before = none_over zones (λ w less. few w (omega (arith, less))) in
      let here = few zones (omega arith) in
      let under = cond-false (nat_lt limit (first_over limit many zones)) (first_over limit many zones) (if nat_lt limit (many zones) then many zones else 0) (le-ltb limit (first_over limit many zones) before)
      ∙ cond-false (nat_lt limit (many zones)) (many zones) 0 (le-ltb limit (many zones) here) in
      omega (arith, under)

  -- so where some zone has more, it is the number of the first one
  pub first_over_is : (zones z : ℕ) → z < zones → limit < many z → ((w : ℕ) → w < z → many w ≤ limit) → first_over limit many zones ≡ many z
  first_over_is zero z less over first = absurd (omega (arith, less))
  first_over_is (suc zones) z less over first = elim (cases_lt z zones) [
    | inl earlier ↦ (let same = first_over_is zones z earlier over first in over_before zones (omega (arith, same, over)) ∙ same)
    | inr last ↦ (let same : z ≡ zones = omega (arith, less, last) in
        let over' : limit < many zones = subst (λ (w : ℕ). limit < many w) same over in
        let first' : (w : ℕ) → w < zones → many w ≤ limit = subst (λ (v : ℕ). (w : ℕ) → w < v → many w ≤ limit) same first in
        over_here zones (none_over zones first') over' ∙ ap many (sym same))
  ]

pub slip_pool_count : (shape : Shape) → shape.layout ≡ OneGroup → pool_count shape ≡ 1
unfolding pool_count
slip_pool_count shape is = ap (λ (kind : LayoutKind). pool_count_by kind shape) is

pub zone_pool_count : (shape : Shape) → shape.layout ≡ EachZone → pool_count shape ≡ shape.zones
unfolding pool_count
zone_pool_count shape is = ap (λ (kind : LayoutKind). pool_count_by kind shape) is

-- ---- whatever the kind

-- a disc has as many pools as its kind says
pub so_many_pools : (shape : Shape) (dds : Dds) (ssa : ℕ) → length (pools_of shape dds ssa) ≡ pool_count shape
so_many_pools shape dds ssa = elim (cases_kind shape.layout) [
  | inl is ↦ ap length (slip_pools shape is dds ssa) ∙ sym (slip_pool_count shape is)
  | inr is ↦ ap length (zone_pools shape is dds ssa) ∙ length-map-range_with_len (zone_group shape dds) 0 shape.zones ∙ sym (zone_pool_count shape is)
]

-- a lawful geometry has room for no supplementary spare
pub no_area : (shape : Shape) → IsLawful shape → IsValidSsa shape Two 0
no_area shape lawful = elim (cases_kind shape.layout) [
  | inl is ↦ record {
    most = omega (arith, slip_room shape is 0, lawful.most_spares);
    some_logical = omega (arith, slip_room shape is 0, lawful.spares_within);
    of_kind = slip_area_fits shape is 0;
  }
  | inr is ↦ (let fits = zones_fit shape lawful is in record {
    most = omega (arith, zone_room shape is 0, fits.all);
    some_logical = omega (arith, zone_room shape is 0, zones_leave_some shape lawful.some_zones fits.each);
    of_kind = zone_area_fits shape is 0 (record { none = refl; each = fits.each });
  })
]

-- a valid area has no more blocks than a disc of this version may have spares
pub area_most : (shape : Shape) (ssa : ℕ) {version : Version} → IsValidSsa shape version ssa → ssa ≤ most_of version
area_most shape ssa area = elim (cases_kind shape.layout) [
  | inl is ↦ omega (arith, slip_room shape is ssa, area.most)
  | inr is ↦ omega (arith, zone_room shape is ssa, area.most)
]

pub slips_few_decided : (shape : Shape) (blocks : List ℕ) → SlipsFew shape blocks ⊎ ¬ SlipsFew shape blocks
slips_few_decided shape blocks = elim (cases_kind shape.layout) [
  | inl is ↦ ⊎_elim (λ many. inr (λ few. let most = slips_few shape is blocks few in omega (arith, many, most))) (λ few. inl (slips_few_from shape is blocks (omega (arith, few))))
      (cases_lt shape.psa (length blocks))
  | inr is ↦ ⊎_elim (λ over. inr (λ few. let none = none_over shape.psa (slipped_in shape blocks) shape.zones (zones_few shape is blocks few) in omega (arith, over, none))) (λ none. inl (zones_few_from shape is blocks none))
      (over_or_none shape.psa (slipped_in shape blocks) shape.zones)
]

-- what is told is more than there are primary spares
pub told_more : (shape : Shape) (blocks : List ℕ) → ¬ SlipsFew shape blocks → shape.psa < told_too_many shape blocks
told_more shape blocks many = elim (cases_kind shape.layout) [
  | inl is ↦ elim (cases_lt shape.psa (length blocks)) [
    | inl more ↦ omega (arith, more, slip_told shape is blocks)
    | inr most ↦ absurd (many (slips_few_from shape is blocks most))
  ]
  | inr is ↦ elim (over_or_none shape.psa (slipped_in shape blocks) shape.zones) [
    | inl over ↦ omega (arith, over, zones_told shape is blocks)
    | inr none ↦ absurd (many (zones_few_from shape is blocks none))
  ]
]

-- the same of the blocks that entries name, by how many entries there are
pub entries_few : (shape : Shape) → shape.layout ≡ OneGroup → (entries : List PdlEntry) → length entries ≤ shape.psa → SlipsFew shape (pdl_blocks entries)
entries_few shape is entries few = slips_few_from shape is (pdl_blocks entries) (omega (arith, few, length-map entries (λ (e : PdlEntry). e.block)))

pub entries_many : (shape : Shape) → shape.layout ≡ OneGroup → (entries : List PdlEntry) → shape.psa < length entries → ¬ SlipsFew shape (pdl_blocks entries)
entries_many shape is entries many few = (let most = slips_few shape is (pdl_blocks entries) few in omega (arith, many, most, length-map entries (λ (e : PdlEntry). e.block)))

pub entries_told : (shape : Shape) → shape.layout ≡ OneGroup → (entries : List PdlEntry) → length entries ≡ told_too_many shape (pdl_blocks entries)
entries_told shape is entries = omega (arith, slip_told shape is (pdl_blocks entries), length-map entries (λ (e : PdlEntry). e.block))
