use Rattle.std.proofs.Common.{subst, sym}
use Rattle.model_geometry.specs.Geometry.{SparesFitZones}
use Rattle.model_geometry.proofs.ByKind.{lawful_in_zones}
use Rattle.ram_zones.proofs.geometry.Geometry.in_zones.Goals as goal

pub invariant_of-result : goal.invariant_of-result
invariant_of-result c = lawful_in_zones _ c.self.invariant (subst SparesFitZones (sym c.self.view_is) c.requires)

pub returns-clause-lawful : goal.returns-clause-lawful
returns-clause-lawful c = lawful_in_zones _ c.self.invariant (subst SparesFitZones (sym c.self.view_is) c.requires)
