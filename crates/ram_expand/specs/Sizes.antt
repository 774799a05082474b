-- Which capacities a disc may have after an expansion: for `size_of` and `expand_lists`.
use Rattle.std.specs.Prelude.{◌≡◌, ℕ, ◌<◌}
use Rattle.model_geometry.specs.Geometry.{Shape}
use Rattle.model_places.specs.Places.{Lists, capacity_of}
use Rattle.model_drive.specs.Expands.{IsLawfulSize}
use Rattle.ram_expand.specs.declared.sizes.Size.{Size}
use Rattle.ram_expand.specs.declared.sizes.Size.TheVariants as sizes

module _ (shape : Shape) (lists : Lists) (capacity : ℕ) where
  -- The disc may have this capacity in sectors, and its own is greater. (This project's own, as all here.)
  pub record IsSmaller : Type 0 where
    pub lawful : IsLawfulSize shape lists.sdl.version (capacity_of shape lists) capacity
    pub smaller : capacity < capacity_of shape lists

  -- it may, and this is its own
  pub record IsPresent : Type 0 where
    pub lawful : IsLawfulSize shape lists.sdl.version (capacity_of shape lists) capacity
    pub present : capacity ≡ capacity_of shape lists

  -- what a capacity is to a disc
  abbrev pub SizeRule : Size → Type 0
  SizeRule sizes.Unlawful = ¬ IsLawfulSize shape lists.sdl.version (capacity_of shape lists) capacity
  SizeRule sizes.Present = IsPresent
  SizeRule sizes.Smaller = IsSmaller
