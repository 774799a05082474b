-- That the bytes of an image are those of a disc has one proof at most, whatever the kind of its layout, so a ghost field can keep it.
use Rattle.std.specs.Prelude.{ℕ, Option, List}
use Rattle.std.specs.Option.{ForSome}
use Rattle.std.proofs.Props.{props}
use Rattle.model_geometry.specs.declared.kinds.LayoutKind.{LayoutKind}
use Rattle.model_geometry.specs.declared.kinds.LayoutKind.TheVariants.{OneGroup, EachZone}
use Rattle.model_geometry.specs.Geometry.{Shape, fits_by_kind}
use Rattle.model_image.specs.Image.{IsDiscImage}

fits-prop : (kind : LayoutKind) (shape : Shape) → IsProp (fits_by_kind kind shape)
fits-prop OneGroup shape = Prim.hlevel props
fits-prop EachZone shape = Prim.hlevel props

pub disc_there-prop : (shape : Shape) (bytes : Option (List ℕ)) → IsProp (ForSome bytes (IsDiscImage shape))
disc_there-prop shape bytes = Prim.hlevel (props, fits-prop)
