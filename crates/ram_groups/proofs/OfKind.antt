-- Of the smallest disc a layout can be made.
use Rattle.std.specs.Prelude.{◌≡◌, ℕ, List, [], length}
use Rattle.std.specs.List.Sorted.{IsStrictlyIncreasing}
use Rattle.std.proofs.Common.{Result, Ok, Err, IfOk, inl, inr, ap, sym, subst, arith}
use Rattle.model_geometry.specs.declared.kinds.LayoutKind.{LayoutKind}
use Rattle.model_geometry.specs.Geometry.{Shape, data_blocks, shape_of}
use Rattle.model_geometry.proofs.DataBlocks.{length-data_blocks}
use Rattle.model_geometry.proofs.Zones.{zone_start_closed}
use Rattle.model_lists.specs.declared.dds.PdlEntry.{PdlEntry}
use Rattle.model_lists.specs.Values.{Dds, pdl_blocks}
use Rattle.model_pools.specs.Listed.{AreListed}
use Rattle.model_places.specs.Valid.{SlipsFew, IsValidPdl}
use Rattle.model_places.proofs.ByKind.{cases_kind, slips_few_from, zones_few_from}
use Rattle.ram_groups.specs.declared.any_layout.AnyLayout.{AnyLayout}
use Rattle.ram_groups.specs.Layouts.{IsLayoutOf, IsOfKind}
use Rattle.ram_groups.proofs.Layouts.{kind_of_layout}
use Rattle.ram_zones.specs.Fault.{IsFirstFault}
use Rattle.ram_zones.specs.declared.geometry.GeometryFault.{GeometryFault}
use Rattle.ram_zones.specs.declared.geometry.GeometryFault.TheVariants as faults

none_slipped : (shape : Shape) → SlipsFew shape []
none_slipped shape = elim (cases_kind shape.layout) [
  | inl is ↦ slips_few_from shape is [] (omega arith)
  | inr is ↦ zones_few_from shape is [] (λ zone within. omega arith)
]

pub nothing_slipped : (shape : Shape) (dds : Dds) → dds.layout ≡ shape.layout → dds.psa ≡ shape.psa → dds.entries ≡ [] → IsValidPdl shape dds
nothing_slipped shape dds kind psa none = record {
  same_layout = kind;
  same_psa = psa;
  data_only = subst (λ (es : List PdlEntry). AreListed (data_blocks shape) (pdl_blocks es)) (sym none) (λ k d below. absurd (omega (arith, below)));
  rising = subst (λ (es : List PdlEntry). IsStrictlyIncreasing (pdl_blocks es)) (sym none) (λ k below. absurd (omega (arith, below)));
  few = subst (λ (es : List PdlEntry). SlipsFew shape (pdl_blocks es)) (sym none) (none_slipped shape);
}

pub of_kind : {E : Type 0} (kind : LayoutKind) (shape : Shape) (dds : Dds) (ssa : ℕ) (made : Result AnyLayout E) → shape.layout ≡ kind → IfOk made (IsLayoutOf shape dds ssa) → IfOk made (IsOfKind kind)
of_kind kind shape dds ssa (Ok layout) is made = subst (λ (k : LayoutKind). IsOfKind k layout) is (kind_of_layout shape dds ssa layout made)
of_kind kind shape dds ssa (Err refused) is made = tt

-- the smallest geometry is within its limits
pub least_fits : (fault : GeometryFault) → IsFirstFault 1 1 1 fault → ⊥
least_fits faults.Zones first = first (record { some = omega arith; most = omega arith })
least_fits faults.Scale first = first.1 (record { some = omega arith; most = omega arith })
least_fits faults.Spares first = first.2 (record { number = record { some = omega arith; most = omega arith }; within = omega (arith, length-data_blocks (shape_of 1 1 1) (omega arith), zone_start_closed (shape_of 1 1 1) 1) })
