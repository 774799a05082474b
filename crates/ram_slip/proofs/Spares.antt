-- The turns of spares: from the place of a block among those that are not slipped.
use Rattle.std.proofs.Common.{◌≡◌, ℕ, ◌+◌, ◌-◌, ◌<◌, ◌≤◌, inl, inr, List, ◌++◌, length, take, drop, Some, refl, sym, ap, ◌∙◌, subst, arith}
use Rattle.std.specs.Prelude.{reverse, slice_get, slice_index}
use Rattle.std.specs.List.{Contains}
use Rattle.std.proofs.lemmas.List.{length-take}
use Rattle.std.proofs.lemmas.Option.{slice_get_within, get_or_from_slice_get}
use Rattle.model_geometry.specs.declared.kinds.LayoutKind.TheVariants.{OneGroup}
use Rattle.model_geometry.specs.Geometry.{Shape, data_blocks}
use Rattle.model_lists.specs.declared.versions.Version.{Version}
use Rattle.model_lists.specs.Values.{Dds}
use Rattle.model_pools.specs.Pools.{spares_in}
use Rattle.model_pools.proofs.Cuts.{PlaceOfSpare, spare_there}
use Rattle.model_places.specs.Places.{slipped, unslipped, count_of, pools_of, primary_count, primary_spares}
use Rattle.model_places.specs.Valid.{IsValidPdl, IsValidSsa}
use Rattle.model_places.proofs.Layouts.{one_spares, length-logical_in, pools_are_lawful, spare_is_unslipped}
use Rattle.model_places.proofs.Pools.{unslipped_are_data, slips_are_all, not_slipped}
use Rattle.ram_slip.specs.Roles.{primary_in}
use Rattle.ram_slip.proofs.SpareAreas.{primary_one}
use Rattle.ram_slip.proofs.Slips.{logical_by_place}

module _ (shape : Shape) (dds : Dds) (ssa : ℕ) (one : shape.layout ≡ OneGroup) (valid : IsValidPdl shape dds) {version : Version} (area : IsValidSsa shape version ssa) where
  all : primary_count shape dds + count_of shape ssa + ssa ≡ length (unslipped shape dds)
  all = slips_are_all shape one dds ssa valid area

  -- how many primary spares there are
  pub first_many : length (primary_spares shape dds) ≡ primary_count shape dds
  first_many = let sum = all in omega (arith, length-take (primary_count shape dds) (unslipped shape dds), sum)

  -- as many as are told of any kind
  pub primary_many : length (primary_in shape dds) ≡ primary_count shape dds
  primary_many = ap length (primary_one shape dds one) ∙ first_many

  turn_by : (turn place : ℕ) → PlaceOfSpare (unslipped shape dds) (primary_count shape dds) (count_of shape ssa) (let sum = all in omega (arith, sum)) turn place
      → slice_get (spares_in (pools_of shape dds ssa)) turn ≡ Some (slice_index (unslipped shape dds) place)
  turn_by turn place at =
      let sum = all in
      let rest : primary_count shape dds + count_of shape ssa ≡ length (unslipped shape dds) - ssa = omega (arith, sum) in
      ap (λ (l : List ℕ). slice_get l turn) (one_spares shape dds ssa one)
      ∙ ap (λ (m : ℕ). slice_get (reverse (take (primary_count shape dds) (unslipped shape dds)) ++ reverse (drop m (unslipped shape dds))) turn) (sym rest)
      ∙ spare_there (unslipped shape dds) (primary_count shape dds) (count_of shape ssa) (omega (arith, sum)) turn place at

  module _ (place block : ℕ) (at : slice_get (unslipped shape dds) place ≡ Some block) where
    there : slice_index (unslipped shape dds) place ≡ block
    there = get_or_from_slice_get (unslipped shape dds) place block 0 at

    pub primary_turn : (turn : ℕ) → place < primary_count shape dds → turn ≡ primary_count shape dds - 1 - place → slice_get (spares_in (pools_of shape dds ssa)) turn ≡ Some block
    primary_turn turn less is = turn_by turn place (inl (omega (arith, less, is), omega (arith, less, is))) ∙ ap Some there

    pub supplementary_turn : (turn : ℕ) → primary_count shape dds + count_of shape ssa ≤ place
        → turn ≡ primary_count shape dds + (primary_count shape dds + count_of shape ssa + ssa - 1 - place) → slice_get (spares_in (pools_of shape dds ssa)) turn ≡ Some block
    supplementary_turn turn from is =
        let sum = all in
        let within = slice_get_within (unslipped shape dds) place block at in
        turn_by turn place (inr (omega (arith, is), omega (arith, is, sum, within, from), omega (arith, is, sum, within))) ∙ ap Some there

    pub no_turn : primary_count shape dds ≤ place → place < primary_count shape dds + count_of shape ssa → ¬ Contains (spares_in (pools_of shape dds ssa)) block
    no_turn from less has =
        let i = place - primary_count shape dds in
        let within : i < count_of shape ssa = omega (arith, from, less) in
        (pools_are_lawful shape dds ssa valid area).apart i (omega (arith, within, length-logical_in shape dds ssa valid area))
        (subst (Contains (spares_in (pools_of shape dds ssa))) (sym (logical_by_place shape one dds ssa valid area place block i at from refl within)) has)

-- whatever the kind, a block that is slipped is no spare, and neither is one that is no data block
module _ (shape : Shape) (dds : Dds) (ssa : ℕ) where
  pub slipped_no_turn : (block : ℕ) → Contains (slipped dds) block → ¬ Contains (spares_in (pools_of shape dds ssa)) block
  slipped_no_turn block listed has = not_slipped shape dds block (spare_is_unslipped shape dds ssa block has) listed

  pub outside_no_turn : (block : ℕ) → ¬ Contains (data_blocks shape) block → ¬ Contains (spares_in (pools_of shape dds ssa)) block
  outside_no_turn block none has = none (unslipped_are_data shape dds block (spare_is_unslipped shape dds ssa block has))
