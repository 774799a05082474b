use Rattle.model_lists.specs.declared.versions.Version.TheVariants.{Two}
use Rattle.model_places.proofs.ByKind.{no_area}
use Rattle.ram_dds.specs.Dds.{dds_of}
use Rattle.ram_groups.proofs.OfKind.{nothing_slipped, of_kind}
use Rattle.ram_groups.proofs.kinds.layout_of_kind.Goals as goal

pub new-requires-clause-valid : goal.new-requires-clause-valid
new-requires-clause-valid c =
    nothing_slipped c.smallest-geometry.result (record (dds_of c.args.dds.now) { layout = c.layout-dds.result; psa = c.psa-dds.result }) c.layout-dds.ensures c.psa-dds.ensures.spares c.requires.empty

pub new-requires-clause-area : goal.new-requires-clause-area
new-requires-clause-area c = (Two, no_area c.smallest-geometry.result c.psa-dds.ensures.lawful)

pub returns-clause-kind : goal.returns-clause-kind
returns-clause-kind c =
    of_kind c.args.kind c.smallest-geometry.result (record (dds_of c.args.dds.now) { layout = c.layout-dds.result; psa = c.psa-dds.result }) 0 c.new.result c.smallest-geometry.ensures c.new.ensures.layout
