use Rattle.ram_image.proofs.Faults.{none_in}
use Rattle.ram_image.proofs.geometries.geometry_in.Goals as goal

pub returns-in_default : goal.returns-in_default
returns-in_default c = none_in c.args.kind c.args.zones c.args.scale c.args.psa c.in_default.field-0 c.in_default.ensures
