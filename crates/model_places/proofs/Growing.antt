-- What a larger supplementary spare area leaves: the logical blocks that stay are the same blocks, and each spare stays one.
use Rattle.std.proofs.Common.{◌≡◌, ℕ, ◌+◌, ◌-◌, ◌<◌, ◌≤◌, inl, inr, ⊎_elim, List, length, drop, get_or, sym, ap, ◌∙◌, subst, arith, length-drop}
use Rattle.std.specs.List.{Contains}
use Rattle.std.proofs.lemmas.List.{get_or-drop, get_or_default}
use Rattle.model_geometry.specs.declared.kinds.LayoutKind.TheVariants.{OneGroup, EachZone}
use Rattle.model_geometry.specs.Geometry.{Shape}
use Rattle.model_lists.specs.declared.versions.Version.{Version}
use Rattle.model_lists.specs.Values.{Dds}
use Rattle.model_pools.specs.Pools.{Pool, logical_in, spares_in, all_in, spares_for, block_in}
use Rattle.model_pools.proofs.Pooled.{Contains-block_in}
use Rattle.model_places.specs.Places.{unslipped, pools_of, count_of}
use Rattle.model_places.specs.Valid.{IsValidPdl, IsValidSsa}
use Rattle.model_places.proofs.ByKind.{cases_kind, slip_room, zone_room, zone_pools}
use Rattle.model_places.proofs.Layouts.{one_block, all_spares_for, spare_cases, from_primary, from_supplementary, length-logical_in, pooled_is_unslipped, unslipped_is_pooled}

drop_less_has : (xs : List ℕ) (m n x : ℕ) → n ≤ m → m ≤ length xs → Contains (drop m xs) x → Contains (drop n xs) x
drop_less_has xs m n x le small (k, within, is) =
    let a = length-drop m xs in
    let b = length-drop n xs in
    let there : n + (m - n + k) ≡ m + k = omega (arith, le) in
    (m - n + k, omega (arith, within, le, small), get_or-drop n xs (m - n + k) x ∙ ap (λ (i : ℕ). get_or xs i x) there ∙ sym (get_or-drop m xs k x) ∙ is)

-- no more logical blocks are left than there were
pub count_shrinks : (shape : Shape) (small big : ℕ) → small ≤ big → count_of shape big ≤ count_of shape small
count_shrinks shape small big grows = elim (cases_kind shape.layout) [
  | inl is ↦ omega (arith, slip_room shape is small, slip_room shape is big, grows)
  | inr is ↦ omega (arith, zone_room shape is small, zone_room shape is big, grows)
]

module _ (shape : Shape) (dds : Dds) (small big : ℕ) (grows : small ≤ big) where
  -- a spare stays one
  slip_spares_grow : shape.layout ≡ OneGroup → (b : ℕ) → Contains (spares_in (pools_of shape dds small)) b → Contains (spares_in (pools_of shape dds big)) b
  slip_spares_grow is b has =
      let long = length (unslipped shape dds) in
      ⊎_elim (from_primary shape dds big is b)
      (λ last. from_supplementary shape dds big is b (drop_less_has (unslipped shape dds) (long - small) (long - big) b (omega (arith, grows)) (omega arith) last))
      (spare_cases shape dds small is b has)

  -- with a group for each zone the size of the area makes no difference
  same_pools : shape.layout ≡ EachZone → pools_of shape dds small ≡ pools_of shape dds big
  same_pools is = zone_pools shape is dds small ∙ sym (zone_pools shape is dds big)

  pub spares_grow : (b : ℕ) → Contains (spares_in (pools_of shape dds small)) b → Contains (spares_in (pools_of shape dds big)) b
  spares_grow b has = elim (cases_kind shape.layout) [
    | inl is ↦ slip_spares_grow is b has
    | inr is ↦ subst (λ (p : List Pool). Contains (spares_in p) b) (same_pools is) has
  ]

  module _ (primary : IsValidPdl shape dds) {version : Version} (area : IsValidSsa shape version small) (area' : IsValidSsa shape version big) where
    -- a logical block that stays is the same block
    pub block_stays : (i : ℕ) → i < count_of shape big → block_in (pools_of shape dds big) i ≡ block_in (pools_of shape dds small) i
    block_stays i inside = elim (cases_kind shape.layout) [
      | inl is ↦ one_block shape dds big is primary area' i inside
          ∙ sym (one_block shape dds small is primary area i (let fewer = count_shrinks shape small big grows in omega (arith, inside, fewer)))
      | inr is ↦ ap (λ (p : List Pool). block_in p i) (sym (same_pools is))
    ]

    pub logical_shrinks : (b : ℕ) → Contains (logical_in (pools_of shape dds big)) b → Contains (logical_in (pools_of shape dds small)) b
    logical_shrinks b (k, within, is) =
        let long = length-logical_in shape dds big primary area' in
        let longer = length-logical_in shape dds small primary area in
        let fewer = count_shrinks shape small big grows in
        let here : block_in (pools_of shape dds big) k ≡ b = get_or_default (logical_in (pools_of shape dds big)) k 0 b within ∙ is in
        let same = block_stays k (omega (arith, within, long)) in
        subst (Contains (logical_in (pools_of shape dds small))) (sym same ∙ here) (Contains-block_in (pools_of shape dds small) k (omega (arith, within, long, longer, fewer)))

    -- and may go to each spare that it might go to
    pub its_spares_grow : (i : ℕ) → i < count_of shape big → (b : ℕ) → Contains (spares_for (pools_of shape dds small) i) b → Contains (spares_for (pools_of shape dds big) i) b
    its_spares_grow i inside b has = elim (cases_kind shape.layout) [
      | inl is ↦ (let fewer = count_shrinks shape small big grows in
          subst (λ (l : List ℕ). Contains l b) (sym (all_spares_for shape dds big is primary area' i inside))
          (spares_grow b (subst (λ (l : List ℕ). Contains l b) (all_spares_for shape dds small is primary area i (omega (arith, inside, fewer))) has)))
      | inr is ↦ subst (λ (p : List Pool). Contains (spares_for p i) b) (same_pools is) has
    ]

    -- whatever lay in a pool does still
    pub pooled_stays : (b : ℕ) → Contains (all_in (pools_of shape dds small)) b → Contains (all_in (pools_of shape dds big)) b
    pooled_stays b has = unslipped_is_pooled shape dds big primary area' b (pooled_is_unslipped shape dds small b has)
