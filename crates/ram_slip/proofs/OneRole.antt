-- A block is one thing to a disc.
use Rattle.std.proofs.Common.{◌≡◌, ℕ, ◌-◌, ◌<◌, inl, inr, List, length, refl, sym, ap, ◌∙◌, subst, arith}
use Rattle.std.specs.List.{Contains}
use Rattle.std.proofs.lemmas.List.Elements.{Contains-get_or}
use Rattle.model_geometry.specs.Geometry.{Shape, data_blocks}
use Rattle.model_lists.specs.declared.versions.Version.{Version}
use Rattle.model_lists.specs.Values.{Dds}
use Rattle.model_pools.specs.Pools.{logical_in, spares_in, block_in}
use Rattle.model_pools.proofs.Listed.{one_listed, StandsWithin-take, StandsWithin-drop, parts_apart}
use Rattle.model_places.specs.Places.{slipped, unslipped, count_of, pools_of, primary_count}
use Rattle.model_places.specs.Valid.{IsValidPdl, IsValidSsa}
use Rattle.model_places.proofs.ByKind.{cases_kind}
use Rattle.model_places.proofs.Layouts as layouts
use Rattle.model_places.proofs.Pools.{unslipped_rise, unslipped_are_data, slips_are_all, not_slipped}
use Rattle.ram_slip.specs.declared.role.Role.{Role}
use Rattle.ram_slip.specs.declared.role.Role.TheVariants as roles
use Rattle.ram_slip.specs.Roles.{HasRole, primary_in, supplementary_in}
use Rattle.ram_slip.proofs.SpareAreas.{primary_one, supplementary_one, supplementary_zones, none_among, from_primary, from_supplementary}

module _ (shape : Shape) (dds : Dds) (ssa block : ℕ) (valid : IsValidPdl shape dds) {version : Version} (area : IsValidSsa shape version ssa) where
  within_pools : (i : ℕ) → i < count_of shape ssa → i < length (logical_in (pools_of shape dds ssa))
  within_pools i within = let long = layouts.length-logical_in shape dds ssa valid area in omega (arith, within, long)

  no_spare : (i : ℕ) → HasRole shape dds ssa block (roles.Logical i) → ¬ Contains (spares_in (pools_of shape dds ssa)) block
  no_spare i (within, is) has =
      (layouts.pools_are_lawful shape dds ssa valid area).apart i (within_pools i within)
      (subst (Contains (spares_in (pools_of shape dds ssa))) (sym is) has)

  logical_unslipped : (i : ℕ) → HasRole shape dds ssa block (roles.Logical i) → Contains (unslipped shape dds) block
  logical_unslipped i (within, is) =
      subst (Contains (unslipped shape dds)) is (layouts.logical_is_unslipped shape dds ssa (block_in (pools_of shape dds ssa) i)
      (Contains-get_or (logical_in (pools_of shape dds ssa)) i 0 (within_pools i within)))

  logical_differs : (i j : ℕ) → i < count_of shape ssa → j < count_of shape ssa → block_in (pools_of shape dds ssa) i ≡ block_in (pools_of shape dds ssa) j → i ≡ j
  logical_differs i j within within' = (layouts.pools_are_lawful shape dds ssa valid area).blocks i j (within_pools i within) (within_pools j within')

  spare_unslipped : Contains (spares_in (pools_of shape dds ssa)) block → Contains (unslipped shape dds) block
  spare_unslipped has = layouts.spare_is_unslipped shape dds ssa block has

  areas_apart : Contains (primary_in shape dds) block → ¬ Contains (supplementary_in shape dds ssa) block
  areas_apart first last =
      let u = unslipped shape dds in
      elim (cases_kind shape.layout) [
        | inl is ↦ (let all = slips_are_all shape is dds ssa valid area in
            parts_apart u (unslipped_rise shape dds) 0 (primary_count shape dds) (length u - ssa) (length u) block (omega (arith, all))
            (StandsWithin-take u (primary_count shape dds) block (subst (λ (l : List ℕ). Contains l block) (primary_one shape dds is) first))
            (StandsWithin-drop u (length u - ssa) block (subst (λ (l : List ℕ). Contains l block) (supplementary_one shape dds ssa is) last)))
        | inr is ↦ none_among (supplementary_in shape dds ssa) block (supplementary_zones shape dds ssa is) last
      ]

  slipped_data : Contains (slipped dds) block → Contains (data_blocks shape) block
  slipped_data has = one_listed (data_blocks shape) (slipped dds) valid.data_only block has

  -- by cases on both places
  pub one_role : (a b : Role) → HasRole shape dds ssa block a → HasRole shape dds ssa block b → a ≡ b
  one_role (roles.Logical i) (roles.Logical j) (within, is) (within', is') =
      ap (λ (k : ℕ). roles.Logical k) (logical_differs i j within within' (is ∙ sym is'))
  one_role (roles.Logical i) roles.Primary x y = absurd (no_spare i x (from_primary shape dds ssa block y))
  one_role (roles.Logical i) roles.Supplementary x y = absurd (no_spare i x (from_supplementary shape dds ssa block y))
  one_role (roles.Logical i) roles.Slipped x y = absurd (not_slipped shape dds block (logical_unslipped i x) y)
  one_role (roles.Logical i) roles.Outside x y = absurd (y (unslipped_are_data shape dds block (logical_unslipped i x)))
  one_role roles.Primary (roles.Logical j) x y = absurd (no_spare j y (from_primary shape dds ssa block x))
  one_role roles.Primary roles.Primary x y = refl
  one_role roles.Primary roles.Supplementary x y = absurd (areas_apart x y)
  one_role roles.Primary roles.Slipped x y = absurd (not_slipped shape dds block (spare_unslipped (from_primary shape dds ssa block x)) y)
  one_role roles.Primary roles.Outside x y = absurd (y (unslipped_are_data shape dds block (spare_unslipped (from_primary shape dds ssa block x))))
  one_role roles.Supplementary (roles.Logical j) x y = absurd (no_spare j y (from_supplementary shape dds ssa block x))
  one_role roles.Supplementary roles.Primary x y = absurd (areas_apart y x)
  one_role roles.Supplementary roles.Supplementary x y = refl
  one_role roles.Supplementary roles.Slipped x y = absurd (not_slipped shape dds block (spare_unslipped (from_supplementary shape dds ssa block x)) y)
  one_role roles.Supplementary roles.Outside x y = absurd (y (unslipped_are_data shape dds block (spare_unslipped (from_supplementary shape dds ssa block x))))
  one_role roles.Slipped (roles.Logical j) x y = absurd (not_slipped shape dds block (logical_unslipped j y) x)
  one_role roles.Slipped roles.Primary x y = absurd (not_slipped shape dds block (spare_unslipped (from_primary shape dds ssa block y)) x)
  one_role roles.Slipped roles.Supplementary x y = absurd (not_slipped shape dds block (spare_unslipped (from_supplementary shape dds ssa block y)) x)
  one_role roles.Slipped roles.Slipped x y = refl
  one_role roles.Slipped roles.Outside x y = absurd (y (slipped_data x))
  one_role roles.Outside (roles.Logical j) x y = absurd (x (unslipped_are_data shape dds block (logical_unslipped j y)))
  one_role roles.Outside roles.Primary x y = absurd (x (unslipped_are_data shape dds block (spare_unslipped (from_primary shape dds ssa block y))))
  one_role roles.Outside roles.Supplementary x y = absurd (x (unslipped_are_data shape dds block (spare_unslipped (from_supplementary shape dds ssa block y))))
  one_role roles.Outside roles.Slipped x y = absurd (x (slipped_data y))
  one_role roles.Outside roles.Outside x y = refl
