-- Which spares a logical block may go to, by where they lie.
use Rattle.std.proofs.Common.{◌≡◌, ℕ, ◌+◌, ◌<◌, inl, inr, not, List, length, take, drop, refl, sym, ap, ◌∙◌, subst, arith}
use Rattle.std.specs.List.{Contains}
use Rattle.std.proofs.lemmas.List.{length-take, get_or-take, get_or_default}
use Rattle.std.proofs.lemmas.List.Elements.{Contains-get_or}
use Rattle.model_geometry.specs.declared.kinds.LayoutKind.TheVariants.{EachZone}
use Rattle.model_geometry.specs.Geometry.{Shape, IsInZone, zone_start, zone_data}
use Rattle.model_geometry.proofs.Zones.{same_zone}
use Rattle.model_lists.specs.declared.versions.Version.{Version}
use Rattle.model_lists.specs.Values.{Dds}
use Rattle.model_pools.specs.Listed.{is_listed}
use Rattle.model_pools.specs.Pools.{Pool, logical_in, spares_in, spares_at, spares_for, block_in}
use Rattle.model_pools.proofs.Listed.{Contains-from_filter}
use Rattle.model_pools.proofs.Zoned.{logical_zone, spare_zone, spares_at_zone, from_front, from_rest}
use Rattle.model_places.specs.Places.{slipped, zone_unslipped, zone_count, zone_first, zone_groups, count_of, pools_of}
use Rattle.model_places.specs.Valid.{IsValidPdl, IsValidSsa}
use Rattle.model_places.proofs.ByKind.{cases_kind, zone_pools}
use Rattle.model_places.proofs.Layouts.{pools_are_lawful, length-logical_in, all_spares_for}
use Rattle.model_places.proofs.Zones.{zoned_block, zoned_pool}
use Rattle.ram_slip.specs.Roles.{SharesPool}
use Rattle.ram_slip.proofs.SpareAreas.{slips_share, zones_share, in_one_zone, both_found}
use Rattle.ram_slip.proofs.ZonePlaces.{zone_bounds}
use Rattle.ram_slip.proofs.ZoneSpares.{its_number_is}

module _ (shape : Shape) (dds : Dds) (ssa : ℕ) (valid : IsValidPdl shape dds) {version : Version} (area : IsValidSsa shape version ssa) where
  abbrev pools : List Pool
  pools = pools_of shape dds ssa

  module _ (is : shape.layout ≡ EachZone) where
    abbrev U : ℕ → List ℕ
    U = zone_unslipped shape dds

    -- a block of a zone that is not slipped lies in that zone
    lies_in : (z b : ℕ) → z < shape.zones → Contains (U z) b → IsInZone shape z b
    lies_in z b within has =
        let bounds = zone_bounds shape z b (Contains-from_filter (λ block. not (is_listed (slipped dds) block)) (zone_data shape z) b has).1 in
        let low = bounds.0 in
        let high = bounds.1 in
        record { zone = within; from_start = omega (arith, low); before_end = omega (arith, high) }

    module _ (i : ℕ) (inside : i < count_of shape ssa) where
      -- the zone of a logical block, and its place there
      its_place : (z : ℕ) × (z < shape.zones) × (IsInZone shape z (block_in pools i)) × (j : ℕ) × (j < zone_count shape z) × (i ≡ zone_first shape z + j)
      its_place =
          let long = length-logical_in shape dds ssa valid area in
          let same = zone_pools shape is dds ssa in
          let within : i < length (logical_in pools) = omega (arith, inside, long) in
          let has : Contains (logical_in (zone_groups shape dds)) (block_in pools i) = subst (λ (p : List Pool). Contains (logical_in p) (block_in pools i)) same (Contains-get_or (logical_in pools) i 0 within) in
          let at = logical_zone U (zone_count shape) (zone_start shape) 0 shape.zones (block_in pools i) has in
          let z = at.0 in
          let low : z < shape.zones = omega (arith, at.2) in
          let j = at.3.0 in
          let short = length-take (zone_count shape z) (U z) in
          let front = at.3.1 in
          let here : j < zone_count shape z = omega (arith, front, short) in
          let its = zoned_block shape dds is valid ssa area z j low here in
          let number : zone_first shape z + j < count_of shape ssa = its_number_is shape dds ssa is valid area z j low here in
          let its_block : block_in pools (zone_first shape z + j) ≡ block_in pools i =
          ap (λ (p : List Pool). block_in p (zone_first shape z + j)) same ∙ its ∙ sym (get_or-take (zone_count shape z) (U z) j 0 here) ∙ get_or_default (take (zone_count shape z) (U z)) j 0 (block_in pools i) front ∙ at.3.2 in (
            z,
            low,
            lies_in z (block_in pools i) low (from_front (U z) (zone_count shape z) (block_in pools i) at.3),
            j,
            here,
            sym ((pools_are_lawful shape dds ssa valid area).blocks (zone_first shape z + j) i (omega (arith, number, long)) within its_block),
          )

      -- its spares are those of its zone
      zone_spares : spares_for pools i ≡ drop (zone_count shape its_place.0) (U its_place.0)
      zone_spares =
          let at = its_place in
          let z = at.0 in
          let e : 0 + z ≡ z = omega arith in
          ap (λ (p : List Pool). spares_for p i) (zone_pools shape is dds ssa)
          ∙ ap (spares_for (zone_groups shape dds)) at.5
          ∙ ap (spares_at (zone_groups shape dds)) (zoned_pool shape dds is valid ssa area z at.3 at.1 at.4)
          ∙ spares_at_zone U (zone_count shape) (zone_start shape) 0 shape.zones z at.1
          ∙ ap (λ (w : ℕ). drop (zone_count shape w) (U w)) e

      zone_shares : (spare : ℕ) → Contains (spares_for pools i) spare → SharesPool shape (block_in pools i) spare
      zone_shares spare has =
          let at = its_place in
          let in_rest = subst (λ (l : List ℕ). Contains l spare) zone_spares has in
          zones_share shape (block_in pools i) spare is (both_found shape (block_in pools i) spare at.0 at.0 at.2 (lies_in at.0 spare at.1 (from_rest (U at.0) (zone_count shape at.0) spare in_rest)) refl)

      zone_own : (spare : ℕ) → Contains (spares_in pools) spare → SharesPool shape (block_in pools i) spare → Contains (spares_for pools i) spare
      zone_own spare has shares =
          let at = its_place in
          let there = spare_zone U (zone_count shape) (zone_start shape) 0 shape.zones spare (subst (λ (p : List Pool). Contains (spares_in p) spare) (zone_pools shape is dds ssa) has) in
          let w = there.0 in
          let lies = lies_in w spare (omega (arith, there.2)) (from_rest (U w) (zone_count shape w) spare there.3) in
          let same : w ≡ at.0 = same_zone shape w at.0 spare lies ((in_one_zone shape (block_in pools i) spare is shares at.0).0 at.2) in
          subst (λ (l : List ℕ). Contains l spare) (sym zone_spares) (subst (λ (v : ℕ). Contains (drop (zone_count shape v) (U v)) spare) same there.3)

  -- whatever the kind: a spare is one that a logical block may go to exactly where they share a pool
  pub shares_own : (i spare : ℕ) → i < count_of shape ssa → Contains (spares_for pools i) spare → SharesPool shape (block_in pools i) spare
  shares_own i spare inside has = elim (cases_kind shape.layout) [
    | inl is ↦ slips_share shape (block_in pools i) spare is
    | inr is ↦ zone_shares is i inside spare has
  ]

  pub own_shares : (i spare : ℕ) → i < count_of shape ssa → Contains (spares_in pools) spare → SharesPool shape (block_in pools i) spare → Contains (spares_for pools i) spare
  own_shares i spare inside has shares = elim (cases_kind shape.layout) [
    | inl is ↦ subst (λ (l : List ℕ). Contains l spare) (sym (all_spares_for shape dds ssa is valid area i inside)) has
    | inr is ↦ zone_own is i inside spare has shares
  ]
