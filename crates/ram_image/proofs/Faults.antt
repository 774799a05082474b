-- Numbers outside their limits are those of no lawful geometry, whatever the kind of its layout.
use Rattle.std.specs.Prelude.{ℕ}
use Rattle.std.proofs.Common.{arith}
use Rattle.model_geometry.specs.declared.kinds.LayoutKind.{LayoutKind}
use Rattle.model_geometry.specs.Geometry.{Shape, IsLawful, shape_in, shape_of}
use Rattle.model_geometry.proofs.DataBlocks.{length-data_blocks_closed}
use Rattle.ram_zones.specs.Fault.{IsFirstFault}
use Rattle.ram_zones.specs.declared.geometry.GeometryFault.{GeometryFault}
use Rattle.ram_zones.specs.declared.geometry.GeometryFault.TheVariants as faults

within_limits : (shape : Shape) → IsLawful shape → (fault : GeometryFault) → IsFirstFault shape.zones shape.scale shape.psa fault → ⊥
within_limits shape lawful faults.Zones first = first (record { some = lawful.some_zones; most = lawful.most_zones })
within_limits shape lawful faults.Scale first = first.1 (record { some = lawful.some_scale; most = lawful.most_scale })
within_limits shape lawful faults.Spares first = first.2 (record {
  number = record { some = lawful.some_spares; most = lawful.most_spares };
  within = omega (arith, lawful.spares_within, length-data_blocks_closed shape lawful.some_scale, length-data_blocks_closed (shape_of shape.zones shape.scale shape.psa) lawful.some_scale);
})

pub none_in : (kind : LayoutKind) (zones scale psa : ℕ) (fault : GeometryFault) → IsFirstFault zones scale psa fault → ¬ IsLawful (shape_in kind zones scale psa)
none_in kind zones scale psa fault first lawful = within_limits (shape_in kind zones scale psa) lawful fault first
