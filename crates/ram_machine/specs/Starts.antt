-- What a run begins with. For the call that opens the image of a run.
use Rattle.std.specs.Prelude.{◌≡◌, ℕ, Option, Some, Result, Ok, Err, List}
use Rattle.model_counts.specs.Counts.{Rose}
use Rattle.ram_outside.specs.declared.image.Image.{Ghosts as Images}
use Rattle.ram_sectors.specs.declared.caching.Caching.{Ghosts as Drives}
use Rattle.ram_machine.specs.declared.inserted.Inserted.{Inserted}
use Rattle.model_geometry.specs.declared.kinds.LayoutKind.{LayoutKind}
use Rattle.ram_machine.specs.States.{State, kind_of, IsFirst}
use Rattle.ram_machine.specs.Inserted.{Stands, faults_of}

-- The inserted disc stands for what a run over these bytes begins with, whose discs have a layout of this kind. (This project's own,
-- as all here.)
pub record StandsFirst (kind : LayoutKind) (bytes : List ℕ) (stands : State → Type 0) : Type 0 where
  pub state : State
  pub kind_is : kind_of state ≡ kind
  pub first : IsFirst bytes state
  pub stands_first : stands state

module _ {D I : Type 0} (drives : Drives D) (lies_in : D → Option (List ℕ)) (images : Images I) where
  -- What a run begins with; or the image failed and counted it, and has the bytes that it had.
  abbrev pub StartRule : LayoutKind → I → Result (Inserted D I) I → Type 0
  StartRule kind image (Ok inserted) =
      ((bytes : List ℕ) → images.bytes image ≡ Some bytes → StandsFirst kind bytes (Stands drives lies_in images inserted))
      × (faults_of drives images inserted ≡ images.faults image)
  StartRule kind image (Err refused) =
      (images.bytes refused ≡ images.bytes image) × Rose (images.faults image) (images.faults refused)
