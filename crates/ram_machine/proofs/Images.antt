-- The bytes of an image that a disc in the drive lies in.
use Rattle.std.specs.Prelude.{◌≡◌, ℕ, false, true, Option, None, Some, List}
use Rattle.std.proofs.Common.{refl, sym, ap, ◌∙◌, subst}
use Rattle.model_geometry.specs.Geometry.{Shape, IsLawful}
use Rattle.model_medium.specs.Cells.{Cell}
use Rattle.model_image.specs.Image.{IsImageOf}
use Rattle.model_drive.specs.Shown.{Shown, IsKnown, cells_in}
use Rattle.model_cache.specs.Shown.{CacheShown}
use Rattle.ram_machine.specs.Drive.{HasCells}
use Rattle.ram_machine.specs.States.{Served, Disc, kind_of, IsLabelled, IsLeft, IsInserted}

-- the image that a disc leaves has its cells
pub image_left : (s : Served) (bytes : List ℕ) → IsLeft (Disc s) bytes → IsImageOf s.disc.shown.drive.shape (cells_in s.disc.shown.drive) bytes
image_left s bytes left = subst (λ b. IsImageOf s.disc.shown.drive.shape (cells_in s.disc.shown.drive) b) (sym left) s.image

-- a drive whose cells are known lies in bytes that are known, and that have these cells
pub record LiesThere (shown : Shown) (image : Option (List ℕ)) : Type 0 where
  pub bytes : List ℕ
  pub known : image ≡ Some bytes
  pub image_is : IsImageOf shown.shape (cells_in shown) bytes

pub lies_there : (shown : Shown) (image : Option (List ℕ)) → IsKnown shown → IsLabelled shown → IsLawful shown.shape → HasCells shown.medium.world image → LiesThere shown image
lies_there shown None known labelled lawful unknown = let clash : false ≡ true = sym unknown ∙ known in absurd cc
lies_there shown (Some bytes) known labelled lawful has = record { bytes = bytes; known = refl; image_is = has shown.shape labelled lawful }

-- a disc that was just inserted has the kind of layout that is told of it
pub kind_again : (shape : Shape) (cells : List Cell) (bytes : List ℕ) (s t : Served) → IsInserted shape cells bytes t → kind_of (Disc t) ≡ kind_of (Disc s) → shape.layout ≡ s.disc.shown.drive.shape.layout
kind_again shape cells bytes s t is same = sym (ap (λ (x : CacheShown). x.drive.shape.layout) is.opened.shown_is) ∙ same
