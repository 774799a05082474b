-- What opening an image finds, or why it is refused: for `open` and its parts.
use Rattle.std.specs.Prelude.{◌≡◌, ◌≢◌, ℕ, ◌<◌, ◌≤◌, ◌⊎◌, false, Option, None, is_some, IfSome, List, [], length, take}
use Rattle.model_geometry.specs.declared.kinds.LayoutKind.{LayoutKind}
use Rattle.model_geometry.specs.Geometry.{Shape, label_of, total}
use Rattle.model_image.specs.Cells.{image_len, cells_known}
use Rattle.model_image.specs.Image.{HasHeader, IsDiscImage}
use Rattle.ram_outside.specs.declared.image.Image.{Ghosts}
use Rattle.ram_outside.specs.Image.{IsUnchanged, ImageFails}
use Rattle.ram_image.specs.declared.opening.OpenFault.{OpenFault}
use Rattle.ram_image.specs.declared.opening.OpenFault.TheVariants as faulty
use Rattle.ram_image.specs.declared.opening.HeaderFound.{HeaderFound}
use Rattle.ram_image.specs.declared.opening.HeaderFound.TheVariants as found
use Rattle.ram_image.specs.declared.medium.ImageMedium.{ImageMedium}
use Rattle.ram_image.specs.Medium.{shape_of_medium, world_of, machine_in}

-- An image was opened: it is that of a disc of this geometry, with a layout of this kind, and the medium shows its cells, with the power off,
-- nothing counted and nothing armed.
-- (This project's own.)
pub record IsOpened {I : Type 0} {d : Ghosts I} (image : I) (medium : ImageMedium I d) (kind : LayoutKind) (shape : Shape) : Type 0 where
  pub kind_is : shape.layout ≡ kind
  pub disc : IfSome (d.bytes image) (IsDiscImage shape)
  pub shape_is : shape_of_medium medium ≡ shape
  pub same_image : d.bytes medium.image ≡ d.bytes image
  pub label_is : (world_of medium).label ≡ label_of shape
  pub as_known : (world_of medium).known ≡ is_some (d.bytes image)
  pub cells_are : (world_of medium).cells ≡ cells_known (total shape) (d.bytes image)
  pub off : (world_of medium).power ≡ false
  pub no_uses : (world_of medium).uses ≡ 0
  pub no_cuts : (world_of medium).cuts ≡ 0
  pub count : (world_of medium).faults ≡ d.faults image
  pub no_arms : (machine_in medium).arms ≡ []
  pub no_cut : (machine_in medium).cut ≡ None

-- Why an image was not opened as that of a disc with a layout of this kind. It has the bytes that it had. (This project's own.)
abbrev pub IsRefused : LayoutKind → Option (List ℕ) → Option (List ℕ) → ℕ → ℕ → OpenFault → Type 0
IsRefused kind before after faults faults' faulty.Header =
    IsUnchanged before after faults faults'
    × IfSome before (λ held. (16 ≤ length held) × ((shape : Shape) → shape.layout ≡ kind → ¬ HasHeader shape held))
IsRefused kind before after faults faults' (faulty.Length len) = IsUnchanged before after faults faults'
    × IfSome before
    (λ held. (len ≡ length held) × ((len < 16) ⊎ ((shape : Shape) × HasHeader shape held × (len ≢ image_len (total shape)))))
IsRefused kind before after faults faults' faulty.Fault = ImageFails before after faults faults'

-- What the start of an image was found to be. (This project's own.)
abbrev pub HeaderRule : Option (List ℕ) → Option (List ℕ) → ℕ → ℕ → HeaderFound → Type 0
HeaderRule before after faults faults' (found.Bytes len header) =
    IsUnchanged before after faults faults'
    × IfSome after (λ held. (len ≡ length held) × (16 ≤ length held) × (header ≡ take 16 held))
HeaderRule before after faults faults' (found.Short len) =
    IsUnchanged before after faults faults' × IfSome before (λ held. (len ≡ length held) × (len < 16))
HeaderRule before after faults faults' found.Failed = ImageFails before after faults faults'
