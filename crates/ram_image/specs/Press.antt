-- What a press may do, by its answer: for `press`.
use Rattle.std.specs.Prelude.{◌≡◌}
use Rattle.model_counts.specs.Counts.{Rose}
use Rattle.model_bytes.specs.Known.{WhereKnown}
use Rattle.model_geometry.specs.Geometry.{Shape}
use Rattle.model_image.specs.Image.{PressesImage, IsStoppedPress}
use Rattle.ram_outside.specs.declared.image.Image.{Ghosts as Images}
use Rattle.ram_image.specs.declared.pressing.PressOut.{PressOut}
use Rattle.ram_image.specs.declared.pressing.PressOut.TheVariants as presses

-- What a press of this geometry may do to an image, by its answer. (This project's own.)
module _ {I : Type 0} (images : Images I) where
  abbrev pub PressRule : I → I → Shape → PressOut → Type 0
  PressRule old new shape presses.Done = WhereKnown (images.bytes old) (images.bytes new) (PressesImage shape)
      × (images.faults new ≡ images.faults old)
  PressRule old new shape presses.Failed = WhereKnown (images.bytes old) (images.bytes new) IsStoppedPress
      × Rose (images.faults old) (images.faults new)
