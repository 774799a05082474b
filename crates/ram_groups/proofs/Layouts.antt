-- What follows for the layout of a disc, by its kind.
use Rattle.std.proofs.Common.{◌≡◌, ℕ, ap, sym, subst, arith}
use Rattle.model_geometry.specs.declared.kinds.LayoutKind.TheVariants.{OneGroup}
use Rattle.model_geometry.specs.Geometry.{Shape, data_blocks}
use Rattle.model_lists.specs.Values.{Dds}
use Rattle.model_places.specs.Places.{count_of, pools_of}
use Rattle.model_places.specs.Valid.{IsValidPdl, IsValidOnSome}
use Rattle.ram_layout.specs.Slipping.{SlipTable}
use Rattle.ram_layout.proofs.SlipPools.{slipping_is, room_for_ssa}
use Rattle.ram_groups.specs.declared.any_layout.AnyLayout.{AnyLayout}
use Rattle.ram_groups.specs.declared.any_layout.AnyLayout.TheVariants as layouts
use Rattle.ram_groups.specs.Layouts.{IsLayoutOf, IsOfKind, MayHave, MayHaveArea, IsSlipOf, layout_blocks, layout_pools, with_ssa}
use Rattle.ram_groups.proofs.Made.{zoning_is}

pub pools_of_layout : (shape : Shape) (dds : Dds) (ssa : ℕ) (layout : AnyLayout) → IsValidPdl shape dds → IsValidOnSome shape ssa → IsLayoutOf shape dds ssa layout
    → layout_pools layout ≡ pools_of shape dds ssa
pools_of_layout shape dds ssa (layouts.Slip table) valid area is = slipping_is shape dds ssa table is.kind valid area is.table_is
pools_of_layout shape dds ssa (layouts.Zones table) valid area is = zoning_is shape dds ssa table is.kind area is.table_is

pub kind_of_layout : (shape : Shape) (dds : Dds) (ssa : ℕ) (layout : AnyLayout) → IsLayoutOf shape dds ssa layout → IsOfKind shape.layout layout
kind_of_layout shape dds ssa (layouts.Slip table) is = is.kind
kind_of_layout shape dds ssa (layouts.Zones table) is = is.kind

pub blocks_of_layout : (shape : Shape) (dds : Dds) (ssa : ℕ) (layout : AnyLayout) → IsLayoutOf shape dds ssa layout → layout_blocks layout ≡ data_blocks shape
blocks_of_layout shape dds ssa (layouts.Slip table) is = ap data_blocks is.table_is.same_shape
blocks_of_layout shape dds ssa (layouts.Zones table) is = ap data_blocks is.table_is.same_shape

pub resized_layout : (shape : Shape) (dds : Dds) (before ssa : ℕ) (layout : AnyLayout) → IsLayoutOf shape dds before layout → IsLayoutOf shape dds ssa (with_ssa ssa layout)
resized_layout shape dds before ssa (layouts.Slip table) is =
    let same = is.table_is.same_shape in
    record {
      kind = is.kind;
      table_is = record { same_shape = same; blocks_are = is.table_is.blocks_are; primary_is = is.table_is.primary_is; logical_is = ap (λ (s : Shape). count_of s ssa) same };
    }
resized_layout shape dds before ssa (layouts.Zones table) is = is

may_have_area : (shape : Shape) (dds : Dds) (before ssa : ℕ) (table : SlipTable) → IsValidPdl shape dds → IsValidOnSome shape ssa → IsSlipOf shape dds before table → MayHaveArea ssa table
may_have_area shape dds before ssa table valid area is =
    let same = is.table_is.same_shape in
    record {
      kind = subst (λ (s : Shape). s.layout ≡ OneGroup) (sym same) is.kind;
      area = subst (λ (s : Shape). IsValidOnSome s ssa) (sym same) area;
      fits = omega (arith, room_for_ssa shape dds (count_of shape before) ssa table is.kind valid area is.table_is, ap (λ (s : Shape). count_of s ssa) same);
    }

pub layout_may_have : (shape : Shape) (dds : Dds) (before ssa : ℕ) (layout : AnyLayout) → IsValidPdl shape dds → IsValidOnSome shape ssa → IsLayoutOf shape dds before layout → MayHave ssa layout
layout_may_have shape dds before ssa (layouts.Slip table) valid area is = may_have_area shape dds before ssa table valid area is
layout_may_have shape dds before ssa (layouts.Zones table) valid area is = tt
