-- The limits of a structure have one proof at most, whatever the kind of the layout.
use Rattle.std.proofs.Common.{ℕ}
use Rattle.std.proofs.Props.{props}
use Rattle.model_geometry.specs.declared.kinds.LayoutKind.{LayoutKind}
use Rattle.model_geometry.specs.declared.kinds.LayoutKind.TheVariants.{OneGroup, EachZone}
use Rattle.model_lists.specs.declared.versions.Version.{Version}
use Rattle.model_lists.specs.Values.{HasForm, FitsSpares}

pub form-prop : (l : LayoutKind) (e : Version) → IsProp (HasForm l e)
form-prop OneGroup e = Prim.hlevel props
form-prop EachZone e = Prim.hlevel props

pub spares-prop : (l : LayoutKind) (p n : ℕ) → IsProp (FitsSpares l p n)
spares-prop OneGroup p n = Prim.hlevel props
spares-prop EachZone p n = Prim.hlevel props
