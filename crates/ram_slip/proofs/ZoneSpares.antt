-- The numbers of the logical blocks of each zone, and the turns of its spares.
use Rattle.std.proofs.Common.{◌≡◌, ℕ, zero, suc, ◌+◌, ◌-◌, ◌*◌, ◌<◌, ◌≤◌, inl, inr, List, [], ◌∷◌, ◌++◌, length, map, Some, refl, sym, ap, ◌∙◌, subst, arith}
use Rattle.std.specs.Prelude.{slice_get, slice_index}
use Rattle.std.specs.List.{Contains, range_with_len}
use Rattle.std.proofs.Math.Nat.{suc-mul}
use Rattle.std.proofs.lemmas.Bool.{cases_lt}
use Rattle.std.proofs.lemmas.Nat.{mul-le}
use Rattle.std.proofs.lemmas.List.{length-append, length-drop, append_assoc, get_or_append_left, get_or-append-add, get_or-drop}
use Rattle.std.proofs.lemmas.Option.{slice_get-get_or}
use Rattle.model_geometry.specs.declared.kinds.LayoutKind.TheVariants.{EachZone}
use Rattle.model_geometry.specs.Geometry.{Shape, IsInZone, zone_blocks, zone_start}
use Rattle.model_geometry.proofs.DataBlocks.{length-data_blocks}
use Rattle.model_geometry.proofs.Zones.{zone_start_first, zone_start_next}
use Rattle.model_lists.specs.declared.versions.Version.{Version}
use Rattle.model_lists.specs.Values.{Dds}
use Rattle.model_pools.specs.Pools.{Pool, spares_in, block_in}
use Rattle.model_pools.proofs.ZonedPlaces.{groups_split}
use Rattle.model_places.specs.Places.{unslipped, zone_unslipped, zones_unslipped, zone_count, zone_first, zone_group, zone_groups, count_of, pools_of}
use Rattle.model_places.specs.Valid.{IsValidPdl, IsValidSsa}
use Rattle.model_places.proofs.ByKind.{zone_area, zone_pools, zone_room}
use Rattle.model_places.proofs.Layouts.{pools_are_lawful, length-logical_in}
use Rattle.model_places.proofs.Zones.{zone_roomy, zoned_block, zones_are_all}
use Rattle.ram_slip.proofs.ZonePlaces.{from_first, within_zone, there}

-- ---- the numbers of the zones

-- each zone has more data blocks than spares
pub zone_wide : (shape : Shape) → shape.psa + 2 < shape.scale * 25 → (z : ℕ) → shape.psa + 2 < zone_blocks shape z
zone_wide shape each z = omega (arith, each, mul-le shape.scale 25 shape.scale (25 + z) (omega arith) (omega arith))

-- the zones before have room for their guards and their spares
pub zone_first_room : (shape : Shape) → shape.psa + 2 < shape.scale * 25 → (z : ℕ) → 8 + 2 * z + z * shape.psa ≤ zone_start shape z
zone_first_room shape each zero = omega (arith, zone_start_first shape)
zone_first_room shape each (suc z) =
    let e : suc z ≡ z + 1 = omega arith in
    omega (arith, ap (zone_start shape) e, zone_start_next shape z, zone_first_room shape each z, zone_wide shape each z, suc-mul z shape.psa)

pub zone_first_next : (shape : Shape) → shape.psa + 2 < shape.scale * 25 → (z : ℕ) → zone_first shape (suc z) ≡ zone_first shape z + zone_count shape z
zone_first_next shape each z =
    let e : suc z ≡ z + 1 = omega arith in
    omega (arith, ap (zone_start shape) e, zone_start_next shape z, zone_first_room shape each z, zone_wide shape each z, suc-mul z shape.psa)

pub zone_first_grows : (shape : Shape) → shape.psa + 2 < shape.scale * 25 → (n z : ℕ) → z ≤ n → zone_first shape z ≤ zone_first shape n
zone_first_grows shape each zero z within = let e : z ≡ 0 = omega (arith, within) in omega (arith, ap (zone_first shape) e)
zone_first_grows shape each (suc n) z within = elim (cases_lt n z) [
  | inl last ↦ (let e : z ≡ suc n = omega (arith, within, last) in omega (arith, ap (zone_first shape) e))
  | inr earlier ↦ (let on = zone_first_grows shape each n z earlier in omega (arith, on, zone_first_next shape each n))
]

-- ---- spares behind those of other pools

spares_in-append : (xs ys : List Pool) → spares_in (xs ++ ys) ≡ spares_in xs ++ spares_in ys
spares_in-append [] ys = refl
spares_in-append (p ∷ xs) ys = ap (λ (l : List ℕ). p.spares ++ l) (spares_in-append xs ys) ∙ sym (append_assoc p.spares (spares_in xs) (spares_in ys))

module _ (group : ℕ → Pool) where
  abbrev groups : ℕ → List Pool
  groups m = map group (range_with_len 0 m)

  split : (k r : ℕ) → spares_in (groups (k + (r + 1))) ≡ spares_in (groups k) ++ ((group k).spares ++ spares_in (map group (range_with_len (k + 1) r)))
  split k r =
      let e : 0 + k ≡ k = omega arith in
      ap spares_in (groups_split group 0 k r)
      ∙ spares_in-append (groups k) (group (0 + k) ∷ map group (range_with_len (0 + k + 1) r))
      ∙ ap (λ (w : ℕ). spares_in (groups k) ++ ((group w).spares ++ spares_in (map group (range_with_len (w + 1) r)))) e

  count_next : (k : ℕ) → length (spares_in (groups (suc k))) ≡ length (spares_in (groups k)) + length (group k).spares
  count_next k =
      let e : suc k ≡ k + (0 + 1) = omega arith in
      omega (arith, ap (λ (m : ℕ). length (spares_in (groups m))) e, ap length (split k 0), length-append (spares_in (groups k)) ((group k).spares ++ []), length-append (group k).spares [])

  spare_at : (k r j : ℕ) → j < length (group k).spares → slice_get (spares_in (groups (k + (r + 1)))) (length (spares_in (groups k)) + j) ≡ Some (slice_index (group k).spares j)
  spare_at k r j inside =
      let rest = spares_in (map group (range_with_len (k + 1) r)) in
      let front = spares_in (groups k) in
      let all = front ++ ((group k).spares ++ rest) in
      let within : length front + j < length all = omega (arith, inside, length-append front ((group k).spares ++ rest), length-append (group k).spares rest) in
      ap (λ (l : List ℕ). slice_get l (length front + j)) (split k r)
      ∙ slice_get-get_or all (length front + j) 0 within
      ∙ ap Some (get_or-append-add front ((group k).spares ++ rest) j 0 ∙ get_or_append_left (group k).spares rest 0 j inside)

-- ---- on a disc with a group of spares in each zone

module _ (shape : Shape) (dds : Dds) (ssa : ℕ) (is : shape.layout ≡ EachZone) (valid : IsValidPdl shape dds) {version : Version} (area : IsValidSsa shape version ssa) where
  each : shape.psa + 2 < shape.scale * 25
  each = (zone_area shape is ssa area.of_kind).each

  pub scaled : 1 ≤ shape.scale
  scaled = let wide = each in omega (arith, wide)

  abbrev U : ℕ → List ℕ
  U = zone_unslipped shape dds

  abbrev first : ℕ → ℕ
  first z = length (zones_unslipped shape dds z)

  -- before the blocks of a zone stand the logical blocks and the spares of the zones before
  spares_before : (z : ℕ) → z ≤ shape.zones → length (spares_in (map (zone_group shape dds) (range_with_len 0 z))) + zone_first shape z ≡ first z
  spares_before zero within = let e : zone_first shape 0 ≡ 0 = omega (arith, zone_start_first shape) in omega (arith, e)
  spares_before (suc z) within =
      let on = spares_before z (omega (arith, within)) in
      let roomy = zone_roomy shape dds is valid ssa area z (omega (arith, within)) in
      omega (arith, on, roomy, count_next (zone_group shape dds) z, zone_first_next shape each z, length-append (zones_unslipped shape dds z) (U z), length-drop (zone_count shape z) (U z))

  -- there are as many spares as are kept, less the slipped blocks
  pub logical_end : zone_first shape shape.zones ≡ count_of shape ssa
  logical_end =
      let none = (zone_area shape is ssa area.of_kind).none in
      omega (arith, none, zone_room shape is ssa, length-data_blocks shape scaled)

  pub spares_many : length (spares_in (zone_groups shape dds)) + count_of shape ssa ≡ length (unslipped shape dds)
  spares_many = let all = spares_before shape.zones (omega arith) in omega (arith, all, logical_end, ap length (zones_are_all shape dds scaled))

  pub its_number_is : (z j : ℕ) → z < shape.zones → j < zone_count shape z → zone_first shape z + j < count_of shape ssa
  its_number_is z j within inside =
      let last = zone_first_grows shape each shape.zones (suc z) (omega (arith, within)) in
      omega (arith, inside, last, zone_first_next shape each z, logical_end)

  module _ (z place b : ℕ) (at : slice_get (unslipped shape dds) place ≡ Some b) (found : IsInZone shape z b) where
    abbrev j : ℕ
    j = place - first z

    -- a logical block has the number that the sums give
    module _ (inside : j < zone_count shape z) where
      pub its_block : block_in (pools_of shape dds ssa) (zone_first shape z + j) ≡ b
      its_block =
          ap (λ (p : List Pool). block_in p (zone_first shape z + j)) (zone_pools shape is dds ssa)
          ∙ zoned_block shape dds is valid ssa area z j found.zone inside
          ∙ there shape dds scaled z place b at found

      pub its_number : zone_first shape z + j < count_of shape ssa
      its_number = its_number_is z j found.zone inside

      pub no_spare : ¬ Contains (spares_in (pools_of shape dds ssa)) b
      no_spare has =
          (pools_are_lawful shape dds ssa valid area).apart (zone_first shape z + j) (let less = its_number in omega (arith, less, length-logical_in shape dds ssa valid area))
          (subst (Contains (spares_in (pools_of shape dds ssa))) (sym its_block) has)

    -- a spare comes behind those of the zones before, and behind the lower ones of its zone
    module _ (from : zone_count shape z ≤ j) where
      pub turn_room : zone_first shape (suc z) ≤ place
      turn_room =
          let after = from_first shape dds scaled z place b at found in
          let before = spares_before z (let less = found.zone in omega (arith, less)) in
          omega (arith, from, after, before, zone_first_next shape each z)

      pub its_turn : slice_get (spares_in (pools_of shape dds ssa)) (place - zone_first shape (suc z)) ≡ Some b
      its_turn =
          let less = found.zone in
          let after = from_first shape dds scaled z place b at found in
          let inside = within_zone shape dds scaled z place b at found in
          let before = spares_before z (omega (arith, less)) in
          let next = zone_first_next shape each z in
          let rest : ℕ = shape.zones - z - 1 in
          let all : shape.zones ≡ z + (rest + 1) = omega (arith, less) in
          let k : ℕ = j - zone_count shape z in
          let turn : place - zone_first shape (suc z) ≡ length (spares_in (map (zone_group shape dds) (range_with_len 0 z))) + k = omega (arith, before, next, after, from) in
          let place_in : zone_count shape z + k ≡ j = omega (arith, from) in
          ap (λ (p : List Pool). slice_get (spares_in p) (place - zone_first shape (suc z))) (zone_pools shape is dds ssa)
          ∙ ap (λ (m : ℕ). slice_get (spares_in (map (zone_group shape dds) (range_with_len 0 m))) (place - zone_first shape (suc z))) all
          ∙ ap (slice_get (spares_in (map (zone_group shape dds) (range_with_len 0 (z + (rest + 1)))))) turn
          ∙ spare_at (zone_group shape dds) z rest k (omega (arith, inside, from, length-drop (zone_count shape z) (U z)))
          ∙ ap Some (get_or-drop (zone_count shape z) (U z) k 0 ∙ ap (slice_index (U z)) place_in ∙ there shape dds scaled z place b at found)
