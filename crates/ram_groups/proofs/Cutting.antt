-- Blocks that are cut in zones: where the blocks of each zone stand, and the pools of the zones.
use Rattle.std.proofs.Common.{◌≡◌, ℕ, zero, suc, ◌+◌, ◌-◌, ◌<◌, ◌≤◌, inl, inr, ⊎_elim, List, [], ◌∷◌, ◌++◌, length, drop, map, Some, None, refl, sym, ap, ◌∙◌, subst, arith}
use Rattle.std.specs.Prelude.{slice_get, slice_index}
use Rattle.std.specs.List.{Contains, range_with_len}
use Rattle.std.specs.List.Sorted.{IsNonDecreasingBy}
use Rattle.std.proofs.lemmas.Bool.{cases_lt}
use Rattle.std.proofs.lemmas.List.{length-take, length-drop, get_or-take, get_or-drop, get_or_past, get_or_default}
use Rattle.std.proofs.lemmas.List.Elements.{Contains-append_cases}
use Rattle.std.proofs.lemmas.List.FromFn.{length-map-range_with_len}
use Rattle.std.proofs.lemmas.Option.{slice_get-get_or, slice_get_past, get_or_from_slice_get}
use Rattle.model_geometry.specs.Geometry.{Shape, zone_blocks, zone_start}
use Rattle.model_geometry.proofs.DataBlocks.{Contains-slice_get}
use Rattle.model_geometry.proofs.Zones.{zone_start_first, zone_start_next, zone_start_rises}
use Rattle.model_places.specs.Places.{zone_count, zone_first}
use Rattle.model_pools.specs.Pools.{Pool, ArePools, logical_in, spares_in, spares_at, pool_of, block_in}
use Rattle.model_pools.proofs.Zoned.{take_rises, drop_rises, from_front, from_rest, logical_zone, spare_zone, from_zone_spares, spares_at_zone, zoned_lawful, logical_count_in}
use Rattle.model_pools.proofs.ZonedPlaces.{zone_block_at, zone_pool_at}
use Rattle.ram_slip.proofs.ZoneSpares.{zone_wide, zone_first_next, zone_first_grows}
use Rattle.ram_groups.specs.Zoning.{cut_out, zone_pool, IsZoned, IsCutIntoZones}

module _ (shape : Shape) (blocks starts : List ℕ) where
  abbrev pools : List Pool
  pools = map (zone_pool shape blocks starts) (range_with_len 0 shape.zones)

  -- a zone's block is one of all
  pub from_zone : (z b : ℕ) → Contains (cut_out blocks starts z) b → Contains blocks b
  from_zone z b has =
      let s = slice_index starts z in
      from_rest blocks s b (from_front (drop s blocks) (slice_index starts (z + 1) - s) b has)

  -- a block that is none of all is no logical block and no spare
  pub neither_in : (b : ℕ) → ¬ Contains blocks b → ¬ Contains (logical_in pools ++ spares_in pools) b
  neither_in b out has = ⊎_elim
      (λ l. let at = logical_zone (cut_out blocks starts) (zone_count shape) (zone_start shape) 0 shape.zones b l in
      out (from_zone at.0 b (from_front (cut_out blocks starts at.0) (zone_count shape at.0) b at.3)))
      (λ r. let at = spare_zone (cut_out blocks starts) (zone_count shape) (zone_start shape) 0 shape.zones b r in
      out (from_zone at.0 b (from_rest (cut_out blocks starts at.0) (zone_count shape at.0) b at.3)))
      (Contains-append_cases (logical_in pools) (spares_in pools) b has)

  pub pools_many : length pools ≡ shape.zones
  pools_many = length-map-range_with_len (zone_pool shape blocks starts) 0 shape.zones

  module _ (zoned : IsZoned shape) (cut : IsCutIntoZones shape blocks starts) where
    abbrev s : ℕ → ℕ
    s z = slice_index starts z

    abbrev U : ℕ → List ℕ
    U z = cut_out blocks starts z

    sized : (z : ℕ) → zone_count shape z + shape.psa + 2 ≡ zone_blocks shape z
    sized z = omega (arith, zone_wide shape zoned.each z)

    -- ---- the starts

    starts_up : (more z : ℕ) → z + more ≡ shape.zones → s z ≤ length blocks
    starts_up zero z all = let e : z ≡ shape.zones = omega (arith, all) in omega (arith, ap s e, cut.last)
    starts_up (suc more) z all =
        let on = starts_up more (z + 1) (omega (arith, all)) in
        let here = cut.fits z (omega (arith, all)) in
        omega (arith, on, here)

    pub start_within : (z : ℕ) → z ≤ shape.zones → s z ≤ length blocks
    start_within z within = starts_up (shape.zones - z) z (omega (arith, within))

    starts_add : (z more : ℕ) → z + more ≤ shape.zones → s z ≤ s (z + more)
    starts_add z zero within = let e : z + 0 ≡ z = omega arith in omega (arith, ap s e)
    starts_add z (suc more) within =
        let e : z + suc more ≡ z + more + 1 = omega arith in
        let on = starts_add z more (omega (arith, within)) in
        let here = cut.fits (z + more) (omega (arith, within)) in
        omega (arith, ap s e, on, here)

    pub starts_rise : (z w : ℕ) → z ≤ w → w ≤ shape.zones → s z ≤ s w
    starts_rise z w before within =
        let e : z + (w - z) ≡ w = omega (arith, before) in
        omega (arith, ap s e, starts_add z (w - z) (omega (arith, before, within)))

    pub starts_rising : IsNonDecreasingBy (λ (start : ℕ). start) starts
    starts_rising i j d before within =
        let h = starts_rise i j before (omega (arith, within, cut.many)) in
        omega (arith, h, get_or_default starts i d 0 (omega (arith, before, within)), get_or_default starts j d 0 within)

    -- the zone of a place, by how many zones begin there or before
    pub zone_begun : (place count : ℕ) → place < length blocks → count ≤ length starts
        → ((k : ℕ) → k < count → s k ≤ place) → ((k : ℕ) → count ≤ k → k < length starts → place < s k) → (1 ≤ count) × (count ≤ shape.zones)
    zone_begun place count inside within low high =
        let some : 1 ≤ count = elim (cases_lt 0 count) [
          | inl some ↦ omega (arith, some)
          | inr none ↦ absurd (let past = high 0 (omega (arith, none)) (omega (arith, cut.many)) in omega (arith, past, cut.first))
        ] in
        let few : count ≤ shape.zones = elim (cases_lt shape.zones count) [
          | inl more ↦ absurd (let before = low shape.zones more in omega (arith, before, cut.last, inside))
          | inr few ↦ few
        ] in
        (some, few)

    -- ---- the blocks of a zone

    pub length-zone : (z : ℕ) → z < shape.zones → length (U z) ≡ s (z + 1) - s z
    length-zone z within =
        let end = start_within (z + 1) (omega (arith, within)) in
        omega (arith, end, length-take (s (z + 1) - s z) (drop (s z) blocks), length-drop (s z) blocks)

    pub zone_at : (z j d : ℕ) → z < shape.zones → s z + j < s (z + 1) → slice_get (U z) j ≡ Some (slice_index blocks (s z + j))
    zone_at z j d within before =
        slice_get-get_or (U z) j 0 (omega (arith, before, length-zone z within))
        ∙ ap Some (get_or-take (s (z + 1) - s z) (drop (s z) blocks) j 0 (omega (arith, before)) ∙ get_or-drop (s z) blocks j 0)

    none_behind : (z b : ℕ) → shape.zones ≤ z → ¬ Contains (U z) b
    none_behind z b behind (k, inside, is) =
        let none : s (z + 1) ≡ 0 = get_or_past starts (z + 1) 0 (omega (arith, behind, cut.many)) in
        omega (arith, inside, none, length-take (s (z + 1) - s z) (drop (s z) blocks))

    low_all : (z b : ℕ) → Contains (U z) b → zone_start shape z ≤ b
    low_all z b has = elim (cases_lt z shape.zones) [
      | inl within ↦ cut.low z b within has
      | inr behind ↦ absurd (none_behind z b behind has)
    ]

    high_all : (z b : ℕ) → Contains (U z) b → b < zone_start shape (z + 1)
    high_all z b has = elim (cases_lt z shape.zones) [
      | inl within ↦ cut.high z b within has
      | inr behind ↦ absurd (none_behind z b behind has)
    ]

    pub cut_lawful : ArePools pools
    cut_lawful = zoned_lawful U (zone_count shape) (zone_start shape)
        (λ z. take_rises (drop (s z) blocks) (s (z + 1) - s z) (drop_rises blocks (s z) cut.rise)) low_all high_all (zone_start_rises shape) 0 shape.zones

    -- ---- the logical blocks

    zone_roomy : (z : ℕ) → z < shape.zones → zone_count shape z ≤ length (U z)
    zone_roomy z within = (let h = cut.fits z within in omega (arith, h, length-zone z within))

    first_is : (z : ℕ) → z ≤ shape.zones → length (logical_in (map (zone_pool shape blocks starts) (range_with_len 0 z))) ≡ zone_first shape z
    first_is z within =
        let sum = logical_count_in U (zone_count shape) (zone_start shape) (zone_blocks shape) shape.psa sized (zone_start_next shape) 0 z (λ w low high. zone_roomy w (omega (arith, high, within))) in
        let e : 0 + z ≡ z = omega arith in
        omega (arith, sum, ap (zone_start shape) e, zone_start_first shape)

    pub logical_many : length (logical_in pools) ≡ zone_first shape shape.zones
    logical_many = first_is shape.zones (omega arith)

    module _ (z j : ℕ) (within : z < shape.zones) (inside : j < zone_count shape z) where
      rest : ℕ
      rest = shape.zones - z - 1

      split : z + (rest + 1) ≡ shape.zones
      unfolding rest
      split = omega (arith, within)

      there : j < length (zone_pool shape blocks starts (0 + z)).blocks
      there =
          let e : z ≡ 0 + z = omega arith in
          subst (λ (w : ℕ). j < length (zone_pool shape blocks starts w).blocks) e (let roomy = zone_roomy z within in omega (arith, inside, roomy, length-take (zone_count shape z) (U z)))

      pub place_inside : s z + j < s (z + 1)
      place_inside = let h = cut.fits z within in omega (arith, h, inside)

      logical_index : block_in pools (zone_first shape z + j) ≡ slice_index blocks (s z + j)
      logical_index =
          let e : 0 + z ≡ z = omega arith in
          let before = place_inside in
          ap (λ (m : ℕ). block_in (map (zone_pool shape blocks starts) (range_with_len 0 m)) (zone_first shape z + j)) (sym split)
          ∙ ap (λ (f : ℕ). block_in (map (zone_pool shape blocks starts) (range_with_len 0 (z + (rest + 1)))) (f + j)) (sym (first_is z (omega (arith, within))))
          ∙ zone_block_at (zone_pool shape blocks starts) 0 z rest j there
          ∙ ap (λ (w : ℕ). slice_index (zone_pool shape blocks starts w).blocks j) e
          ∙ get_or-take (zone_count shape z) (U z) j 0 inside
          ∙ get_or-take (s (z + 1) - s z) (drop (s z) blocks) j 0 (omega (arith, before))
          ∙ get_or-drop (s z) blocks j 0

      -- the block of a logical block, and its pool
      pub logical_at : block_in pools (zone_first shape z + j) ≡ slice_index blocks (s z + j)
      logical_at = logical_index

      pub logical_there : slice_get (logical_in pools) (zone_first shape z + j) ≡ Some (slice_index blocks (s z + j))
      logical_there =
          let below : zone_first shape z + j < length (logical_in pools) = omega (arith, inside, zone_first_next shape zoned.each z, zone_first_grows shape zoned.each shape.zones (suc z) (omega (arith, within)), logical_many) in
          slice_get-get_or (logical_in pools) (zone_first shape z + j) 0 below ∙ ap Some logical_index

      pub pool_at : pool_of pools (zone_first shape z + j) ≡ z
      pool_at =
          ap (λ (m : ℕ). pool_of (map (zone_pool shape blocks starts) (range_with_len 0 m)) (zone_first shape z + j)) (sym split)
          ∙ ap (λ (f : ℕ). pool_of (map (zone_pool shape blocks starts) (range_with_len 0 (z + (rest + 1)))) (f + j)) (sym (first_is z (omega (arith, within))))
          ∙ zone_pool_at (zone_pool shape blocks starts) 0 z rest j there

    -- ---- the spares

    spares_are : (z : ℕ) → z < shape.zones → spares_at pools z ≡ drop (zone_count shape z) (U z)
    spares_are z within =
        let e : 0 + z ≡ z = omega arith in
        spares_at_zone U (zone_count shape) (zone_start shape) 0 shape.zones z within ∙ ap (λ (w : ℕ). drop (zone_count shape w) (U w)) e

    length-spares : (z : ℕ) → z < shape.zones → length (drop (zone_count shape z) (U z)) ≡ s (z + 1) - (s z + zone_count shape z)
    length-spares z within = omega (arith, length-drop (zone_count shape z) (U z), length-zone z within)

    spare_index : (z k : ℕ) → z < shape.zones → s z + zone_count shape z + k < s (z + 1)
        → slice_get (drop (zone_count shape z) (U z)) k ≡ Some (slice_index blocks (s z + zone_count shape z + k))
    spare_index z k within before =
        let n = zone_count shape z in
        let sum : s z + (n + k) ≡ s z + n + k = omega arith in
        slice_get-get_or (drop n (U z)) k 0 (omega (arith, before, length-spares z within))
        ∙ ap Some (get_or-drop n (U z) k 0
        ∙ get_or-take (s (z + 1) - s z) (drop (s z) blocks) (n + k) 0 (omega (arith, before))
        ∙ get_or-drop (s z) blocks (n + k) 0
        ∙ ap (slice_index blocks) sum)

    pub spare_there : (z k : ℕ) → z < shape.zones → s z + zone_count shape z + k < s (z + 1)
        → slice_get (spares_at pools z) k ≡ Some (slice_index blocks (s z + zone_count shape z + k))
    spare_there z k within before = ap (λ (l : List ℕ). slice_get l k) (spares_are z within) ∙ spare_index z k within before

    pub no_spare : (z k : ℕ) → z < shape.zones → s (z + 1) ≤ s z + zone_count shape z + k → slice_get (spares_at pools z) k ≡ None
    no_spare z k within behind =
        ap (λ (l : List ℕ). slice_get l k) (spares_are z within)
        ∙ slice_get_past (drop (zone_count shape z) (U z)) k (omega (arith, behind, length-spares z within))

    -- a block behind a zone's logical blocks is a spare
    pub is_spare : (z n b : ℕ) → z < shape.zones → s z + zone_count shape z ≤ n → n < s (z + 1) → slice_get blocks n ≡ Some b → Contains (spares_in pools) b
    is_spare z n b within from before at =
        let k = n - (s z + zone_count shape z) in
        let back : s z + zone_count shape z + k ≡ n = omega (arith, from) in
        let here : slice_get (drop (zone_count shape z) (U z)) k ≡ Some b =
        spare_index z k within (omega (arith, back, before)) ∙ ap (λ (m : ℕ). Some (slice_index blocks m)) back ∙ ap Some (get_or_from_slice_get blocks n b 0 at) in
        from_zone_spares U (zone_count shape) (zone_start shape) 0 shape.zones z b (omega arith) (omega (arith, within)) (Contains-slice_get (drop (zone_count shape z) (U z)) k b here)

    pub is_logical : (z n b : ℕ) → z < shape.zones → s z ≤ n → n - s z < zone_count shape z → slice_get blocks n ≡ Some b
        → slice_get (logical_in pools) (zone_first shape z + (n - s z)) ≡ Some b
    is_logical z n b within from inside at =
        let back : s z + (n - s z) ≡ n = omega (arith, from) in
        logical_there z (n - s z) within inside ∙ ap (λ (m : ℕ). Some (slice_index blocks m)) back ∙ ap Some (get_or_from_slice_get blocks n b 0 at)

    -- the spares of a pool are no more than all blocks
    pub spares_few : (pool : ℕ) → length (spares_at pools pool) ≤ length blocks
    spares_few pool = elim (cases_lt pool shape.zones) [
      | inl within ↦ (let end = start_within (pool + 1) (omega (arith, within)) in
          omega (arith, end, ap length (spares_are pool within), length-spares pool within))
      | inr behind ↦ omega (arith, ap length (spares_at_past pools pool (omega (arith, behind, pools_many))))
    ]
      where
        spares_at_past : (ps : List Pool) (k : ℕ) → length ps ≤ k → spares_at ps k ≡ []
        spares_at_past [] k past = refl
        spares_at_past (p ∷ ps) zero past = absurd (omega (arith, past))
        spares_at_past (p ∷ ps) (suc k) past = spares_at_past ps k (omega (arith, past))
