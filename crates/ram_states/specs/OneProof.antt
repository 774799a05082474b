-- That a structure is lawful, that a layout is of a kind, and that it is that of its disc, has one proof at most, so a ghost field
-- can keep it.
use Rattle.std.specs.Prelude.{ℕ, List}
use Rattle.std.proofs.Props.{props}
use Rattle.model_lists.specs.declared.dds.DdsState.{DdsState}
use Rattle.model_lists.specs.declared.dds.DdsState.TheVariants.{Formatting, Formatted}
use Rattle.model_geometry.specs.declared.kinds.LayoutKind.{LayoutKind}
use Rattle.model_geometry.specs.Geometry.{Shape}
use Rattle.model_lists.specs.Values.{Dds, FitsState, IsLawfulDds}
use Rattle.model_lists.proofs.OneProof.{form-prop, spares-prop}
use Rattle.model_places.specs.Places.{Lists}
use Rattle.ram_groups.specs.declared.any_layout.AnyLayout.{AnyLayout}
use Rattle.ram_groups.specs.declared.any_layout.AnyLayout.TheVariants as layouts
use Rattle.ram_groups.specs.Layouts.{IsOfKind}
use Rattle.ram_transfer.specs.Layouts.{IsLaidOut}

state-prop : (s : DdsState) (n : ℕ) → IsProp (FitsState s n)
state-prop Formatting n = Prim.hlevel props
state-prop Formatted n = Prim.hlevel props

pub lawful_dds-prop : (dds : Dds) → IsProp (IsLawfulDds dds)
lawful_dds-prop dds = Prim.hlevel (props, state-prop, form-prop, spares-prop)

pub kind-prop : (kind : LayoutKind) (layout : AnyLayout) → IsProp (IsOfKind kind layout)
kind-prop kind (layouts.Slip table) = Prim.hlevel props
kind-prop kind (layouts.Zones table) = Prim.hlevel props

pub laid_out-prop : (shape : Shape) (lists : Lists) (layout : AnyLayout) (cursors : List ℕ)
    → IsProp (IsLaidOut shape lists layout cursors)
laid_out-prop shape lists layout cursors = Prim.hlevel (props, kind-prop)
