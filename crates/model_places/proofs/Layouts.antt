-- The pools of a disc: what the layers above use of them, whatever the kind of the layout; and that with one group of spares they
-- are slipping's.
use Rattle.std.proofs.Common.{◌≡◌, ℕ, ◌+◌, ◌-◌, ◌<◌, ◌≤◌, ◌⊎◌, inl, inr, ⊎_elim, List, [], ◌∷◌, ◌++◌, length, take, drop, sym, ap, ◌∙◌, subst, arith}
use Rattle.std.specs.Prelude.{reverse, slice_index}
use Rattle.std.specs.List.{Contains}
use Rattle.std.proofs.lemmas.List.{append-nil, length-append, length-take, length-drop, length-reverse}
use Rattle.std.proofs.lemmas.List.Elements.{All-contains, Contains-append_cases, Contains-append_left, Contains-append_right}
use Rattle.model_geometry.specs.declared.kinds.LayoutKind.TheVariants.{OneGroup, EachZone}
use Rattle.model_geometry.specs.Geometry.{Shape, data_blocks, lead_out, total}
use Rattle.model_geometry.proofs.DataBlocks.{data_blocks_bounds}
use Rattle.model_lists.specs.declared.versions.Version.{Version}
use Rattle.model_lists.specs.Values.{Dds, most_of}
use Rattle.model_pools.specs.Pools.{Pool, ArePools, logical_in, spares_in, all_in, pool_of, spares_at, spares_for, block_in}
use Rattle.model_pools.proofs.Cuts.{pools_lawful}
use Rattle.model_pools.proofs.Free.{Contains-reverse, Contains-from_reverse}
use Rattle.model_pools.proofs.Listed.{StandsWithin-take, StandsWithin-drop}
use Rattle.model_pools.proofs.Pooled.{pool_here}
use Rattle.model_places.specs.Places.{slipped, unslipped, primary_count, primary_spares, slip_logical, slip_block, supplementary_spares, one_group, zone_groups, pools_of, count_of}
use Rattle.model_places.specs.Valid.{IsValidPdl, IsValidSsa}
use Rattle.model_places.proofs.ByKind.{cases_kind, slip_pools, slip_room, zone_pools}
use Rattle.model_places.proofs.Zones.{zones_lawful, zoned_logical_data, zoned_spare_data, zoned_every, zoned_count, zoned_spares}
use Rattle.model_places.proofs.Pools.{slips_are_all, slip_block_is, unslipped_is, unslipped_rise, unslipped_are_data, not_slipped, unslipped_from}

-- ---- with one group

module _ (shape : Shape) (dds : Dds) (ssa : ℕ) (is : shape.layout ≡ OneGroup) where
  abbrev slips : List Pool
  slips = pools_of shape dds ssa

  pub one_logical : logical_in slips ≡ slip_logical shape dds ssa
  one_logical = ap logical_in (slip_pools shape is dds ssa) ∙ append-nil (slip_logical shape dds ssa)

  pub one_spares : spares_in slips ≡ reverse (primary_spares shape dds) ++ reverse (supplementary_spares shape dds ssa)
  one_spares = ap spares_in (slip_pools shape is dds ssa) ∙ append-nil (reverse (primary_spares shape dds) ++ reverse (supplementary_spares shape dds ssa))

  pub one_spares_at : spares_at slips 0 ≡ reverse (primary_spares shape dds) ++ reverse (supplementary_spares shape dds ssa)
  one_spares_at = ap (λ (p : List Pool). spares_at p 0) (slip_pools shape is dds ssa)

  group_unslipped : (b : ℕ) → Contains (slip_logical shape dds ssa) b → Contains (unslipped shape dds) b
  group_unslipped b has =
      let s = StandsWithin-take (drop (primary_count shape dds) (unslipped shape dds)) (count_of shape ssa) b has in
      let t = StandsWithin-drop (unslipped shape dds) (primary_count shape dds) b (s.place, s.inside, s.is) in
      (t.place, t.inside, t.is)

  primary_unslipped : (b : ℕ) → Contains (primary_spares shape dds) b → Contains (unslipped shape dds) b
  primary_unslipped b has = let s = StandsWithin-take (unslipped shape dds) (primary_count shape dds) b has in (s.place, s.inside, s.is)

  supplementary_unslipped : (b : ℕ) → Contains (supplementary_spares shape dds ssa) b → Contains (unslipped shape dds) b
  supplementary_unslipped b has = let s = StandsWithin-drop (unslipped shape dds) (length (unslipped shape dds) - ssa) b has in (s.place, s.inside, s.is)

  -- the spares are those of both areas
  pub spare_cases : (b : ℕ) → Contains (spares_in slips) b → Contains (primary_spares shape dds) b ⊎ Contains (supplementary_spares shape dds ssa) b
  spare_cases b has =
      ⊎_elim (λ l. inl (Contains-from_reverse (primary_spares shape dds) b l)) (λ r. inr (Contains-from_reverse (supplementary_spares shape dds ssa) b r))
      (Contains-append_cases (reverse (primary_spares shape dds)) (reverse (supplementary_spares shape dds ssa)) b (subst (λ (l : List ℕ). Contains l b) one_spares has))

  pub from_primary : (b : ℕ) → Contains (primary_spares shape dds) b → Contains (spares_in slips) b
  from_primary b has = subst (λ (l : List ℕ). Contains l b) (sym one_spares)
      (Contains-append_left (reverse (primary_spares shape dds)) (reverse (supplementary_spares shape dds ssa)) b (Contains-reverse (primary_spares shape dds) b has))

  pub from_supplementary : (b : ℕ) → Contains (supplementary_spares shape dds ssa) b → Contains (spares_in slips) b
  from_supplementary b has = subst (λ (l : List ℕ). Contains l b) (sym one_spares)
      (Contains-append_right (reverse (primary_spares shape dds)) (reverse (supplementary_spares shape dds ssa)) b (Contains-reverse (supplementary_spares shape dds ssa) b has))

  slip_spare_unslipped : (b : ℕ) → Contains (spares_in slips) b → Contains (unslipped shape dds) b
  slip_spare_unslipped b has = ⊎_elim (primary_unslipped b) (supplementary_unslipped b) (spare_cases b has)

  slip_logical_unslipped : (b : ℕ) → Contains (logical_in slips) b → Contains (unslipped shape dds) b
  slip_logical_unslipped b has = group_unslipped b (subst (λ (l : List ℕ). Contains l b) one_logical has)

  module _ (valid : IsValidPdl shape dds) {version : Version} (area : IsValidSsa shape version ssa) where
    all : primary_count shape dds + count_of shape ssa + ssa ≡ length (unslipped shape dds)
    all = slips_are_all shape is dds ssa valid area

    slip_lawful : ArePools slips
    slip_lawful =
        let u = unslipped shape dds in
        let b = primary_count shape dds in
        let n = count_of shape ssa in
        let rest : b + n ≡ length u - ssa = (let sum = all in omega (arith, sum)) in
        subst ArePools (sym (slip_pools shape is dds ssa))
        (subst (λ (m : ℕ). ArePools (record { blocks = take n (drop b u); spares = reverse (take b u) ++ reverse (drop m u) } ∷ [])) rest
        (pools_lawful u b n (let sum = all in omega (arith, sum)) (unslipped_rise shape dds)))

    length-slip_logical : length (slip_logical shape dds ssa) ≡ count_of shape ssa
    length-slip_logical =
        let sum = all in
        omega (arith, sum, length-take (count_of shape ssa) (drop (primary_count shape dds) (unslipped shape dds)), length-drop (primary_count shape dds) (unslipped shape dds))

    pub length-spares_in : length (spares_in slips) ≡ primary_count shape dds + ssa
    length-spares_in =
        let sum = all in
        omega (arith, sum, ap length one_spares, length-append (reverse (primary_spares shape dds)) (reverse (supplementary_spares shape dds ssa)), length-reverse (primary_spares shape dds), length-reverse (supplementary_spares shape dds ssa), length-take (primary_count shape dds) (unslipped shape dds), length-drop (length (unslipped shape dds) - ssa) (unslipped shape dds))

    slip_every : (b : ℕ) → Contains (unslipped shape dds) b → Contains (all_in slips) b
    slip_every b has =
        let first = primary_spares shape dds in
        let middle = slip_logical shape dds ssa in
        let last = supplementary_spares shape dds ssa in
        ⊎_elim
        (λ l. ⊎_elim (λ p. Contains-append_right (logical_in slips) (spares_in slips) b (from_primary b p))
        (λ m. Contains-append_left (logical_in slips) (spares_in slips) b (subst (λ (xs : List ℕ). Contains xs b) (sym one_logical) m)) (Contains-append_cases first middle b l))
        (λ r. Contains-append_right (logical_in slips) (spares_in slips) b (from_supplementary b r))
        (Contains-append_cases (first ++ middle) last b (subst (λ (xs : List ℕ). Contains xs b) (sym (unslipped_is shape is dds ssa valid area)) has))

    pub one_parts : primary_spares shape dds ++ logical_in slips ++ supplementary_spares shape dds ssa ≡ unslipped shape dds
    one_parts = ap (λ (l : List ℕ). primary_spares shape dds ++ l ++ supplementary_spares shape dds ssa) one_logical ∙ unslipped_is shape is dds ssa valid area

    module _ (i : ℕ) (inside : i < count_of shape ssa) where
      pub one_block : block_in slips i ≡ slip_block shape dds i
      one_block = ap (λ (l : List ℕ). slice_index l i) one_logical ∙ slip_block_is shape dds ssa i inside

      pub one_pool : pool_of slips i ≡ 0
      one_pool =
          let long = length-slip_logical in
          ap (λ (p : List Pool). pool_of p i) (slip_pools shape is dds ssa)
          ∙ pool_here (one_group shape dds ssa) [] i (omega (arith, inside, long))

      pub one_spares_for : spares_for slips i ≡ reverse (primary_spares shape dds) ++ reverse (supplementary_spares shape dds ssa)
      one_spares_for = ap (spares_at slips) one_pool ∙ one_spares_at

      -- each spare is one that the block may go to
      pub all_spares_for : spares_for slips i ≡ spares_in slips
      all_spares_for = one_spares_for ∙ sym one_spares

      pub its_spares_at : spares_for slips i ≡ spares_at slips 0
      its_spares_at = ap (spares_at slips) one_pool

-- ---- whatever the kind

module _ (shape : Shape) (dds : Dds) (ssa : ℕ) where
  abbrev pools : List Pool
  pools = pools_of shape dds ssa

  -- what holds of the pools of both kinds
  by_kind : (P : List Pool → Type 0) → (shape.layout ≡ OneGroup → P pools) → (shape.layout ≡ EachZone → P (zone_groups shape dds)) → P pools
  by_kind P one each = elim (cases_kind shape.layout) [
    | inl is ↦ one is
    | inr is ↦ subst P (sym (zone_pools shape is dds ssa)) (each is)
  ]

  -- ---- each block is a data block that is not slipped

  pub spare_is_unslipped : (b : ℕ) → Contains (spares_in pools) b → Contains (unslipped shape dds) b
  spare_is_unslipped b = by_kind (λ p. Contains (spares_in p) b → Contains (unslipped shape dds) b) (λ is. slip_spare_unslipped shape dds ssa is b)
      (λ is has. let d = zoned_spare_data shape dds b has in unslipped_from shape dds b d.0 d.1)

  pub logical_is_unslipped : (b : ℕ) → Contains (logical_in pools) b → Contains (unslipped shape dds) b
  logical_is_unslipped b = by_kind (λ p. Contains (logical_in p) b → Contains (unslipped shape dds) b) (λ is. slip_logical_unslipped shape dds ssa is b)
      (λ is has. let d = zoned_logical_data shape dds b has in unslipped_from shape dds b d.0 d.1)

  pub pooled_is_unslipped : (b : ℕ) → Contains (all_in pools) b → Contains (unslipped shape dds) b
  pooled_is_unslipped b has = ⊎_elim (logical_is_unslipped b) (spare_is_unslipped b) (Contains-append_cases (logical_in pools) (spares_in pools) b has)

  pub pooled_is_data : (b : ℕ) → Contains (all_in pools) b → Contains (data_blocks shape) b
  pooled_is_data b has = unslipped_are_data shape dds b (pooled_is_unslipped b has)

  pub pooled_data : (b : ℕ) → Contains (all_in pools) b → Contains (data_blocks shape) b × (¬ Contains (slipped dds) b)
  pooled_data b has = (pooled_is_data b has, not_slipped shape dds b (pooled_is_unslipped b has))

  pub pooled_inside : (b : ℕ) → Contains (all_in pools) b → b < total shape
  pooled_inside b has =
      let bounds = All-contains (λ b. (7 < b) × (b < lead_out shape)) (data_blocks shape) b (data_blocks_bounds shape) (pooled_is_data b has) in
      omega (arith, bounds.1)

  -- ---- under a valid primary list, with a valid area

  module _ (valid : IsValidPdl shape dds) {version : Version} (area : IsValidSsa shape version ssa) where
    pub pools_are_lawful : ArePools pools
    pools_are_lawful = by_kind ArePools (λ is. slip_lawful shape dds ssa is valid area) (λ is. zones_lawful shape dds)

    -- there are as many logical blocks as the count says
    pub length-logical_in : length (logical_in pools) ≡ count_of shape ssa
    length-logical_in = by_kind (λ p. length (logical_in p) ≡ count_of shape ssa) (λ is. ap length (one_logical shape dds ssa is) ∙ length-slip_logical shape dds ssa is valid area) (λ is. zoned_count shape dds is valid ssa area)

    -- there are no more spares than a disc of this version may have
    pub spares_most : length (spares_in pools) ≤ most_of version
    spares_most = by_kind (λ p. length (spares_in p) ≤ most_of version) (λ is. let long = length-spares_in shape dds ssa is valid area in omega (arith, long, slip_room shape is ssa, area.most)) (λ is. zoned_spares shape dds is valid ssa area)

    pub some_logical : 0 < count_of shape ssa
    some_logical = omega (arith, area.some_logical)

    -- a block that is not slipped is a logical block or a spare
    pub unslipped_is_pooled : (b : ℕ) → Contains (unslipped shape dds) b → Contains (all_in pools) b
    unslipped_is_pooled b has = by_kind (λ p. Contains (all_in p) b) (λ is. slip_every shape dds ssa is valid area b has) (λ is. zoned_every shape dds b (unslipped_are_data shape dds b has) (not_slipped shape dds b has))

    pub data_is_pooled : (b : ℕ) → Contains (data_blocks shape) b → ¬ Contains (slipped dds) b → Contains (all_in pools) b
    data_is_pooled b has apart = unslipped_is_pooled b (unslipped_from shape dds b has apart)
