-- What holds of the pools of a layout that is that of a disc with valid lists.
use Rattle.std.specs.Prelude.{◌≡◌, ℕ, ◌≤◌, ◌<◌, List, length}
use Rattle.std.specs.List.{Contains}
use Rattle.std.proofs.Common.{sym, ap, ◌∙◌, subst, arith}
use Rattle.std.proofs.lemmas.List.Elements.{All-contains, Contains-append_right}
use Rattle.model_geometry.specs.Geometry.{Shape, IsLawful, data_blocks, lead_out, total}
use Rattle.model_geometry.proofs.DataBlocks.{data_blocks_bounds}
use Rattle.model_geometry.proofs.Zones.{total_most}
use Rattle.model_lists.specs.Values.{IsBlockNumber, most_of}
use Rattle.model_pools.specs.Pools.{Pool, ArePools, AreValidUnder, all_in, logical_in, spares_in, spares_at, pool_of, free_at, free_in}
use Rattle.model_pools.specs.Moves.{sdl_moved_in, tried_of}
use Rattle.model_pools.proofs.Pooled.{pool_spares_among}
use Rattle.model_places.specs.Places.{Lists, logical_count, pools_under, free_spares}
use Rattle.model_places.specs.Valid.{AreValid}
use Rattle.model_places.proofs.Layouts.{pooled_is_data, pooled_inside, spares_most}
use Rattle.model_volume.specs.Moves.{sdl_moved}
use Rattle.model_volume.proofs.Moved.{are_pools, are_valid, is_logical}

-- each data block has a number that a list can hold
pub data_number : (shape : Shape) → IsLawful shape → (b : ℕ) → Contains (data_blocks shape) b → IsBlockNumber b
data_number shape lawful b has =
    let bounds = All-contains (λ b. (7 < b) × (b < lead_out shape)) (data_blocks shape) b (data_blocks_bounds shape) has in
    let most = total_most shape lawful in
    omega (arith, bounds, most)

module _ (shape : Shape) (lists : Lists) (valid : AreValid shape lists) (pools : List Pool) (are : pools ≡ pools_under shape lists) where
  pub lawful_here : ArePools pools
  lawful_here = subst ArePools (sym are) (are_pools shape lists valid)

  pub valid_here : AreValidUnder pools lists.sdl.entries
  valid_here = subst (λ (p : List Pool). AreValidUnder p lists.sdl.entries) (sym are) (are_valid shape lists valid)

  pub data_here : (b : ℕ) → Contains (all_in pools) b → Contains (data_blocks shape) b
  data_here b has = pooled_is_data shape lists.dds lists.sdl.ssa b (subst (λ (p : List Pool). Contains (all_in p) b) are has)

  pub most_here : length (spares_in pools) ≤ most_of lists.sdl.version
  most_here = subst (λ (p : List Pool). length (spares_in p) ≤ most_of lists.sdl.version) (sym are) (spares_most shape lists.dds lists.sdl.ssa valid.primary valid.together.secondary.area)

  pub spare_here : (pool b : ℕ) → Contains (spares_at pools pool) b → b < total shape
  spare_here pool b has =
      pooled_inside shape lists.dds lists.sdl.ssa b
      (subst (λ (p : List Pool). Contains (all_in p) b) are (Contains-append_right (logical_in pools) (spares_in pools) b (pool_spares_among pools pool b has)))

  module _ (i : ℕ) where
    pub logical_here : i < logical_count shape lists → i < length (logical_in pools)
    logical_here inside = subst (λ (p : List Pool). i < length (logical_in p)) (sym are) (is_logical shape lists valid i inside)

    pub free_here : (pool : ℕ) → pool ≡ pool_of pools i → free_at pools lists.sdl.entries pool ≡ free_spares shape lists i
    free_here pool is = ap (free_at pools lists.sdl.entries) is ∙ ap (λ (p : List Pool). free_at p lists.sdl.entries (pool_of p i)) are

    pub moved_here : (tried spare : ℕ) → sdl_moved_in pools lists.sdl i (tried_of (free_in pools lists.sdl.entries i) tried) spare ≡ sdl_moved shape lists i (tried_of (free_spares shape lists i) tried) spare
    moved_here tried spare = ap (λ (p : List Pool). sdl_moved_in p lists.sdl i (tried_of (free_in p lists.sdl.entries i) tried) spare) are
