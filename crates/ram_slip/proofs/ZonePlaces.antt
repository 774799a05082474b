-- Where the blocks of a zone stand among all that are not slipped.
use Rattle.std.proofs.Common.{◌≡◌, ℕ, zero, suc, ◌+◌, ◌-◌, ◌*◌, ◌<◌, ◌≤◌, inl, inr, false, ◌&&◌, not, ltb, List, length, drop, Some, sym, ap, ◌∙◌, subst, arith}
use Rattle.std.specs.Prelude.{slice_get, slice_index}
use Rattle.std.specs.List.{Contains, filter}
use Rattle.std.proofs.lemmas.Bool.{cases_lt, and_parts, ltb-true, not_from_false, false_from_ne_true}
use Rattle.std.proofs.lemmas.Cmp.{nat_eq_equiv}
use Rattle.std.proofs.lemmas.List.{length-append, get_or-take, get_or-drop, get_or_default}
use Rattle.std.proofs.lemmas.List.Elements.{Contains-get_or}
use Rattle.std.proofs.lemmas.List.Kept.{IsStrictlyIncreasing-filter}
use Rattle.std.proofs.lemmas.Map.Made.{length-from_same_keys}
use Rattle.std.proofs.lemmas.Option.{slice_get-get_or, slice_get_within, get_or_from_slice_get}
use Rattle.model_geometry.specs.Geometry.{Shape, IsInZone, zone_blocks, zone_start, zone_data, data_blocks}
use Rattle.model_geometry.proofs.DataBlocks.{data_blocks_rise, slice_get-data_blocks_inside, Contains-slice_get}
use Rattle.model_geometry.proofs.Zones.{zone_start_next, zone_start_rises, zone_start_least, zone_blocks_room, same_zone}
use Rattle.model_lists.specs.declared.dds.PdlEntry.{PdlEntry}
use Rattle.model_lists.specs.Values.{Dds}
use Rattle.model_pools.specs.Listed.{is_listed}
use Rattle.model_pools.proofs.Listed.{Decides-is_listed, All-listed, Contains-filter, Contains-from_filter, IsDistinct-from_increasing, is_listed-filter, is_member_is, listed_in_filter, same_index}
use Rattle.model_places.specs.Places.{slipped, unslipped, zone_unslipped, zones_unslipped}
use Rattle.model_places.specs.Valid.{IsValidPdl}
use Rattle.model_places.proofs.ByKind.{length-slipped}
use Rattle.model_places.proofs.Pools.{unslipped_rise, unslipped_are_data, not_slipped}
use Rattle.model_places.proofs.Slipping.{below, length-below, length-below_at, length-below_parts}
use Rattle.model_places.proofs.Zones.{data_in_zone, zone_inside, zones_are_all, zone_cut_out}
use Rattle.ram_slip.specs.Counts.{IsCountBefore}

-- ---- the blocks of a zone

-- a data block of a zone lies between its guards
pub zone_bounds : (shape : Shape) (z b : ℕ) → Contains (zone_data shape z) b → (zone_start shape z < b) × (b + 1 < zone_start shape z + zone_blocks shape z)
zone_bounds shape z b has =
    let parts = and_parts (ltb (zone_start shape z) b) (ltb (b + 1) (zone_start shape z + zone_blocks shape z)) (zone_inside shape z b has) in
    (ltb-true (zone_start shape z) b parts.0, ltb-true (b + 1) (zone_start shape z + zone_blocks shape z) parts.1)

module _ (shape : Shape) (dds : Dds) (scaled : 1 ≤ shape.scale) where
  abbrev U : ℕ → List ℕ
  U = zone_unslipped shape dds

  abbrev first : ℕ → ℕ
  first z = length (zones_unslipped shape dds z)

  kept_bounds : (z b : ℕ) → Contains (U z) b → (zone_start shape z < b) × (b + 1 < zone_start shape z + zone_blocks shape z)
  kept_bounds z b has = zone_bounds shape z b (Contains-from_filter (λ block. not (is_listed (slipped dds) block)) (zone_data shape z) b has).1

  -- they stand one after another, from where the zone begins
  pub stands_in_all : (z j : ℕ) → z < shape.zones → j < length (U z) → slice_index (unslipped shape dds) (first z + j) ≡ slice_index (U z) j
  stands_in_all z j within inside =
      sym (ap (λ (l : List ℕ). slice_index l j) (sym (zone_cut_out shape dds scaled z within))
      ∙ get_or-take (length (U z)) (drop (first z) (unslipped shape dds)) j 0 inside
      ∙ get_or-drop (first z) (unslipped shape dds) j 0)

  first_grows : (n z : ℕ) → z ≤ n → first z ≤ first n
  first_grows zero z within = let e : z ≡ 0 = omega (arith, within) in omega (arith, ap first e)
  first_grows (suc n) z within = elim (cases_lt n z) [
    | inl last ↦ (let e : z ≡ suc n = omega (arith, within, last) in omega (arith, ap first e))
    | inr earlier ↦ (let on = first_grows n z earlier in omega (arith, on, length-append (zones_unslipped shape dds n) (U n)))
  ]

  -- those of a zone end before those of the next begin
  first_next : (z : ℕ) → first (suc z) ≡ first z + length (U z)
  first_next z = length-append (zones_unslipped shape dds z) (U z)

  first_before : (z w : ℕ) → w < z → first w + length (U w) ≤ first z
  first_before z w before = let on = first_grows z (suc w) (omega (arith, before)) in omega (arith, on, first_next w)

  pub first_within : (z : ℕ) → z ≤ shape.zones → first z ≤ length (unslipped shape dds)
  first_within z within = let on = first_grows shape.zones z within in omega (arith, on, ap length (zones_are_all shape dds scaled))

  -- ---- the zone of a block that is not slipped

  its_zone : (b : ℕ) → Contains (unslipped shape dds) b → (w : ℕ) × (w < shape.zones) × (IsInZone shape w b) × Contains (U w) b
  its_zone b has =
      let at = data_in_zone shape b (unslipped_are_data shape dds b has) in
      let bounds = zone_bounds shape at.0 b at.2 in
      let low = bounds.0 in
      let high = bounds.1 in
      let fails : is_listed (slipped dds) b ≡ false = false_from_ne_true (is_listed (slipped dds) b) (λ t. not_slipped shape dds b has ((Decides-is_listed (slipped dds) b).0 t)) in (
        at.0,
        at.1,
        record { zone = at.1; from_start = omega (arith, low); before_end = omega (arith, high) },
        Contains-filter (λ block. not (is_listed (slipped dds) block)) (zone_data shape at.0) b (not_from_false (is_listed (slipped dds) b) fails) at.2,
      )

  -- a place among all is one among those of the zone
  place_is : (w place b : ℕ) → w < shape.zones → slice_get (unslipped shape dds) place ≡ Some b → (has : Contains (U w) b) → place ≡ first w + has.0
  place_is w place b within at (j, inside, is) =
      let room = first_within (suc w) (omega (arith, within)) in
      same_index (unslipped shape dds) (unslipped_rise shape dds) place (first w + j) 0 (slice_get_within (unslipped shape dds) place b at) (omega (arith, inside, room, first_next w))
      (get_or_from_slice_get (unslipped shape dds) place b 0 at ∙ sym (stands_in_all w j within inside ∙ get_or_default (U w) j 0 b inside ∙ is))

  module _ (z place b : ℕ) (at : slice_get (unslipped shape dds) place ≡ Some b) (found : IsInZone shape z b) where
    in_zone : Contains (U z) b
    in_zone =
        let its = its_zone b (Contains-slice_get (unslipped shape dds) place b at) in
        subst (λ (w : ℕ). Contains (U w) b) (same_zone shape its.0 z b its.2 found) its.3

    pub from_first : first z ≤ place
    from_first = let is = place_is z place b found.zone at in_zone in omega (arith, is)

    pub within_zone : place - first z < length (U z)
    within_zone = let is = place_is z place b found.zone at in_zone in let inside = in_zone.1 in omega (arith, is, inside)

    pub there : slice_index (U z) (place - first z) ≡ b
    there =
        let is = place_is z place b found.zone at in_zone in
        let e : place - first z ≡ in_zone.0 = omega (arith, is) in
        ap (slice_index (U z)) e ∙ get_or_default (U z) in_zone.0 0 b in_zone.1 ∙ in_zone.2

  -- ---- how many stand before those of a zone

  low_before : (z k : ℕ) → z ≤ shape.zones → k < first z → slice_index (unslipped shape dds) k < zone_start shape z
  low_before zero k within less = absurd (let none : k < 0 = less in omega (arith, none))
  low_before (suc z) k within less =
      let next : suc z ≡ z + 1 = omega arith in
      elim (cases_lt k (first z)) [
        | inl earlier ↦ (let low = low_before z k (omega (arith, within)) earlier in
            omega (arith, low, zone_start_rises shape z (suc z) (omega arith)))
        | inr here ↦ (let inside : k - first z < length (U z) = omega (arith, less, here, first_next z) in
            let e : first z + (k - first z) ≡ k = omega (arith, here) in
            let bounds = kept_bounds z (slice_index (U z) (k - first z)) (Contains-get_or (U z) (k - first z) 0 inside) in
            let high = bounds.1 in
            omega (arith, high, stands_in_all z (k - first z) (omega (arith, within)) inside, ap (slice_index (unslipped shape dds)) e, ap (zone_start shape) next, zone_start_next shape z))
      ]

  high_from : (z k : ℕ) → z < shape.zones → first z ≤ k → k < length (unslipped shape dds) → zone_start shape z < slice_index (unslipped shape dds) k
  high_from z k within from inside =
      let b = slice_index (unslipped shape dds) k in
      let its = its_zone b (Contains-get_or (unslipped shape dds) k 0 inside) in
      let w = its.0 in
      let low = (kept_bounds w b its.3).0 in
      elim (cases_lt w z) [
        | inl earlier ↦ (let is = place_is w k b its.1 (slice_get-get_or (unslipped shape dds) k 0 inside) its.3 in
            let before = first_before z w earlier in
            let short = its.3.1 in
            absurd (omega (arith, is, before, short, from)))
        | inr later ↦ omega (arith, low, zone_start_rises shape z w later)
      ]

  below_taken : (x : ℕ) → IsValidPdl shape dds → length (below x (filter (is_listed (slipped dds)) (data_blocks shape))) ≡ length (below x (slipped dds))
  below_taken x valid =
      let taken = filter (is_listed (slipped dds)) (data_blocks shape) in
      length-from_same_keys nat_eq_equiv (below x taken) (below x (slipped dds))
      (IsDistinct-from_increasing (below x taken) (IsStrictlyIncreasing-filter (λ b. ltb b x) taken (IsStrictlyIncreasing-filter (is_listed (slipped dds)) (data_blocks shape) (data_blocks_rise shape))))
      (IsDistinct-from_increasing (below x (slipped dds)) (IsStrictlyIncreasing-filter (λ b. ltb b x) (slipped dds) valid.rising))
      (λ q. is_member_is (below x taken) q ∙ is_listed-filter (λ b. ltb b x) taken q
      ∙ ap (λ t. ltb q x && t) (listed_in_filter (data_blocks shape) (slipped dds) (All-listed (data_blocks shape) (slipped dds) valid.data_only) q)
      ∙ sym (is_listed-filter (λ b. ltb b x) (slipped dds) q) ∙ sym (is_member_is (below x (slipped dds)) q))

  -- as many as the zones before have data blocks, less the slipped ones of these
  pub first_is : IsValidPdl shape dds → (z m : ℕ) → z < shape.zones → length (below (zone_start shape z + 1) (slipped dds)) ≡ m → first z + m + 8 + 2 * z ≡ zone_start shape z
  unfolding unslipped
  first_is valid z m within passed =
      let x : ℕ = zone_start shape z + 1 in
      let n : ℕ = x - 8 - 2 * z - 1 in
      let least = zone_start_least shape scaled z in
      let at = slice_get-data_blocks_inside shape scaled z x within (omega arith) (omega (arith, zone_blocks_room shape scaled z)) in
      let all = length-below_at (data_blocks shape) (data_blocks_rise shape) n x (slice_get_within (data_blocks shape) n x at) (get_or_from_slice_get (data_blocks shape) n x 0 at) in
      let kept = length-below (unslipped shape dds) (unslipped_rise shape dds) (first z) x (first_within z (omega (arith, within)))
      (λ j h. let low = low_before z j (omega (arith, within)) h in omega (arith, low))
      (λ h. let high = high_from z (first z) within (omega arith) h in omega (arith, high)) in
      omega (arith, least, all, kept, passed, below_taken x valid, length-below_parts (is_listed (slipped dds)) x (data_blocks shape))

  -- the same by the numbers of the code
  pub first_by_count : IsValidPdl shape dds → (z start passed : ℕ) (entries : List PdlEntry) → z < shape.zones → start ≡ zone_start shape z → entries ≡ dds.entries → IsCountBefore entries (start + 1) passed
      → first z + passed + 8 + 2 * z ≡ start
  first_by_count valid z start passed entries within start_is same count =
      let here : IsCountBefore dds.entries (zone_start shape z + 1) passed =
      subst (λ (s : ℕ). IsCountBefore dds.entries (s + 1) passed) start_is (subst (λ (es : List PdlEntry). IsCountBefore es (start + 1) passed) same count) in
      let long = length-slipped dds in
      let few = here.within in
      let sum = first_is valid z passed within (length-below (slipped dds) valid.rising passed (zone_start shape z + 1) (omega (arith, few, long)) here.lower (λ less. here.others passed (omega arith) (omega (arith, less, long)))) in
      omega (arith, sum, start_is)
