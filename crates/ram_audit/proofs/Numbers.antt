-- How many logical blocks a disc has at most, and where their homes are.
use Rattle.std.specs.Prelude.{◌≡◌, ℕ, ◌<◌, ◌≤◌, List, length}
use Rattle.std.proofs.Common.{sym, ap, ◌∙◌, subst, arith}
use Rattle.model_geometry.specs.Geometry.{Shape, total, data_blocks}
use Rattle.model_pools.specs.Pools.{Pool, logical_in, home_in}
use Rattle.model_places.specs.Places.{Lists, pools_under, logical_count, home_of}
use Rattle.model_places.specs.Valid.{AreValid}
use Rattle.model_places.proofs.Layouts.{length-logical_in}
use Rattle.model_places.proofs.Homes.{home_inside}

module _ (shape : Shape) (lists : Lists) (valid : AreValid shape lists) (pools : List Pool) (are : pools ≡ pools_under shape lists) where
  pub logical_long : (n : ℕ) → n ≡ length (logical_in pools) → n ≡ logical_count shape lists
  logical_long n is = is ∙ ap (λ (p : List Pool). length (logical_in p)) are ∙ length-logical_in shape lists.dds lists.sdl.ssa valid.primary valid.together.secondary.area

  pub logical_few : (n m : ℕ) → n ≡ length (logical_in pools) → m ≡ length (data_blocks shape) → m ≤ 146930 → n ≤ 146930
  logical_few n m is data_is few = omega (arith, logical_long n is, data_is, few)

  pub its_home : (home i : ℕ) → home ≡ home_in pools lists.sdl.entries i → home ≡ home_of shape lists i
  its_home home i is = is ∙ ap (λ (p : List Pool). home_in p lists.sdl.entries i) are

  pub home_there : (n home i blocks : ℕ) → n ≡ length (logical_in pools) → i < n → home ≡ home_in pools lists.sdl.entries i → blocks ≡ total shape → home < blocks
  home_there n home i blocks is below home_is size =
      let inside = home_inside shape lists valid.primary valid.together.secondary i (omega (arith, logical_long n is, below)) in
      omega (arith, inside, its_home home i home_is, size)
