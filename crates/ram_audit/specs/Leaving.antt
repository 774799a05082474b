-- What an audit leaves of the medium that it looks at: for its parts. (This project's own, as all here.)
use Rattle.std.specs.Prelude.{◌≡◌, [], None}
use Rattle.model_counts.specs.Counts.{Rose}
use Rattle.ram_outside.specs.declared.image.Image.{Ghosts}
use Rattle.ram_image.specs.declared.medium.ImageMedium.{ImageMedium}
use Rattle.ram_image.specs.Medium.{shape_of_medium, world_of, machine_in, bytes_in}

-- nothing is armed on the medium: it has no worn block, and no cut is to come
pub record IsUnarmed {I : Type 0} {d : Ghosts I} (medium : ImageMedium I d) : Type 0 where
  pub no_arms : (machine_in medium).arms ≡ []
  pub no_cut : (machine_in medium).cut ≡ None

-- Each byte of the image is as it was, and so is the geometry; and nothing is armed.
pub record IsLeft {I : Type 0} {d : Ghosts I} (old new : ImageMedium I d) : Type 0 where
  pub same_shape : shape_of_medium new ≡ shape_of_medium old
  pub same_bytes : bytes_in new ≡ bytes_in old
  pub unarmed : IsUnarmed new

-- It was looked at: the power is as it was, and no failure is counted.
pub record LooksOn {I : Type 0} {d : Ghosts I} (old new : ImageMedium I d) : Type 0 where
  pub left : IsLeft old new
  pub same_power : (world_of new).power ≡ (world_of old).power
  pub no_fault : (world_of new).faults ≡ (world_of old).faults

-- The image failed, and counted it.
pub record FailsLooking {I : Type 0} {d : Ghosts I} (old new : ImageMedium I d) : Type 0 where
  pub left : IsLeft old new
  pub fault : Rose (world_of old).faults (world_of new).faults
